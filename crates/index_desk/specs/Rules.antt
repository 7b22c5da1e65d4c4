-- The rules of the index over any state: the tables, or a history.
use Rattle.std.specs.Prelude.{◌≡◌, Bool, List, Option}
use Rattle.std.specs.FinMap.{get}
use Rattle.index_rules.specs.declared.answer.Answer.{Answer}
use Rattle.index_rules.specs.declared.call.Call.{Call}
use Rattle.index_rules.specs.declared.rows.FileRow.{FileRow}
use Rattle.index_rules.specs.declared.rows.NameRow.{NameRow}
use Rattle.index_rules.specs.Maps.{Bytes}
use Rattle.index_rules.specs.Tables.{Tables}
use Rattle.index_rules.specs.TableRows.{held_rows_in}
use Rattle.index_rules.specs.Verdict.{Verdict, is_held, verdict_now}
use Rattle.index_rules.specs.Runs.{tables_after}
use Rattle.index_rules.specs.History.{History}
use Rattle.index_rules.specs.PastNames.{is_held_now, state_after}
use Rattle.index_rules.specs.StandsFor.{StandsFor, body_after}
use Rattle.index_rules.specs.Legal.{IsLegal, verdict_after, history_after}
use Rattle.index_rules.specs.declared.standing.Standing.{Standing}
use Rattle.index_desk.specs.Standings.{standing_in, IsStandingAfter}
use Rattle.index_desk.specs.Projects.{project_rows_in}
use Rattle.index_desk.specs.PastRows.{AreHeldRowsAfter, AreProjectRowsAfter}

-- rules over a state, which tables show
pub record Rules (S : Type 0) : Type 1 where
  -- the verdict on a call
  pub verdict : S → Call → Verdict
  -- the state after a call and its answer
  pub next : S → Call → Answer → S
  -- the standing of a name
  pub Stands : S → Bytes → Standing → Type 0
  -- the rows of the held names
  pub HeldRows : S → List NameRow → Type 0
  -- the rows of a project, or none if its name is not held
  pub ProjectRows : S → Bytes → Option (List FileRow) → Type 0
  -- the bytes of a file, or none
  pub Body : S → Bytes → Option Bytes → Type 0
  -- whether a name is held
  pub is_held : S → Bytes → Bool
  -- the tables show the state
  pub Shows : S → Tables → Type 0

-- the rules over the tables
abbrev pub by_tables : Rules Tables
by_tables = record {
  verdict = verdict_now;
  next = tables_after;
  Stands = λ T name standing. standing ≡ standing_in T name;
  HeldRows = λ T rows. rows ≡ held_rows_in T;
  ProjectRows = λ T name rows. rows ≡ project_rows_in T name;
  Body = λ T file body. body ≡ get T.bodies file;
  is_held = λ T name. is_held (get T.names name);
  Shows = λ T T'. T' ≡ T;
}

-- the rules over a history
abbrev pub by_history : Rules History
by_history = record {
  verdict = verdict_after;
  next = history_after;
  Stands = IsStandingAfter;
  HeldRows = AreHeldRowsAfter;
  ProjectRows = AreProjectRowsAfter;
  Body = λ h file body. body ≡ body_after h file;
  is_held = λ h name. is_held_now (state_after h name);
  Shows = λ h T. IsLegal h × StandsFor T h;
}
