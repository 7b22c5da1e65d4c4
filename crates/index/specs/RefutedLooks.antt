-- Wrong outcomes of looks at the tables, and of a report, that the contracts exclude.
use Rattle.std.specs.Prelude.{◌≡◌, ℕ, List, Option, Some, Result, Ok, Err}
use Rattle.std.specs.FinMap.{get}
use Rattle.std.specs.Io.KnownBytes.{Appends}
use Rattle.index_io.specs.declared.sink.Sink.{Ghosts as Outs}
use Rattle.index_desk.specs.Bodies.{AreBytesOf}
use Rattle.index_desk.specs.Checks.{wrong_charges_in}
use Rattle.index_desk.specs.Invariants.{KeepsInvariants}
use Rattle.index_desk.specs.Looks.{HandsOver, LeavesTables, LooksAt, LooksBy, ReadsTables}
use Rattle.index_desk.specs.Looks.{WalksTables}
use Rattle.index_desk.specs.Reports.{ReportFailsOnly, Reports}
use Rattle.index_desk.specs.declared.desk.report.ReportFault.TheVariants as report_fault
use Rattle.index_rules.specs.declared.answer.Fault.{Fault}
use Rattle.index_rules.specs.declared.answer.Fault.TheVariants as fault
use Rattle.index_rules.specs.declared.books.Books.{Ghosts}
use Rattle.index_rules.specs.declared.records.FileRecord.{FileRecord}
use Rattle.index_rules.specs.declared.rows.NameRow.{NameRow}
use Rattle.index_rules.specs.declared.rows.WalkEnd.{WalkEnd}
use Rattle.index_rules.specs.Facts.{HasOneBearer}
use Rattle.index_rules.specs.History.{History}
use Rattle.index_rules.specs.Maps.{Bytes}
use Rattle.index_rules.specs.Sound.{IsBodyOf, IsSound}
use Rattle.index_rules.specs.StandsFor.{StandsFor, body_after}
use Rattle.index_rules.specs.TableRows.{held_rows_in}
use Rattle.index_rules.specs.Tables.{Tables}

-- a look for the bytes of a file, which found these
abbrev pub FindsBytesOf : {S : Type 0} → Ghosts S → S → S → Bytes → Option Bytes → Type 0
FindsBytesOf g old new file body =
    LooksBy g old new (Ok body) (λ S rules s. rules.Body s file)

-- no look at the tables changes one of them
pub record RefutesChanges {S : Type 0} (g : Ghosts S) (old new : S) : Type 0 where
  pub look : (result : Result ℕ Fault) → ¬ ReadsTables g old new result
  pub walk : (result : Result ℕ WalkEnd) → ¬ WalksTables g old new result
  pub leaves : ¬ LeavesTables g old new

-- no look at honest books finds anything else than the tables have, or hides a failure
pub record RefutesLooks {S : Type 0} (g : Ghosts S) (old new : S) : Type 0 where
  pub changed : (¬ (g.tables new ≡ g.tables old)) → RefutesChanges g old new
  -- a call of the store failed, but the look succeeded
  pub hidden : (found : ℕ) → (¬ (g.failures new ≡ g.failures old))
      → ¬ ReadsTables g old new (Ok found)
  -- the store failed, but the look says that memory ran out
  pub memory : (¬ (g.stores new ≡ g.stores old))
      → ¬ ReadsTables {X = ℕ} g old new (Err fault.OutOfMemory)
  -- the number is not that of the wrong charges
  pub number : (count : ℕ) → (¬ (count ≡ wrong_charges_in (g.tables old)))
      → ¬ LooksAt g old new (Ok count)
      (λ T it. (it ≡ wrong_charges_in T) × (IsSound T → it ≡ 0))
  -- the bytes are not the file's, by the tables or by a history for which they stand
  pub bytes : (file : Bytes) (body : Option Bytes)
      → (¬ (body ≡ get (g.tables old).bodies file)) → ¬ FindsBytesOf g old new file body
  pub history : (h : History) (file : Bytes) (body : Option Bytes) → StandsFor (g.tables old) h
      → (¬ (body ≡ body_after h file)) → ¬ FindsBytesOf g old new file body
  -- other rows are passed than those of the held names
  pub rows : (rows : List NameRow) → (¬ (held_rows_in (g.tables old) ≡ rows))
      → ¬ HandsOver {X = Unit {0}} g old new (Ok tt) (λ S rules s. rules.HeldRows s)
      (λ it. it ≡ rows)
  -- two users have one token's digest
  pub bearers : HasOneBearer (g.tables old) → (¬ HasOneBearer (g.tables new))
      → ¬ KeepsInvariants g old new

-- no bytes of a file have another size or digest than the file is bound to
abbrev pub RefutesBytes : Type 0
RefutesBytes = (T : Tables) (file body : Bytes) (known : FileRecord)
    → get T.files file ≡ Some known → (¬ IsBodyOf known body) → ¬ AreBytesOf T file (Some body)

-- no report hides a failure or writes another text
pub record RefutesReports {S K : Type 0} (g : Ghosts S) (out : Outs K) (old new : S)
    (before after : K) : Type 0 where
  -- a write failed, but the report succeeded
  pub write : (¬ (out.failures after ≡ out.failures before))
      → ¬ ReportFailsOnly g out old new before after (Ok tt)
  -- a call of the store failed, but the report succeeded
  pub store : (¬ (g.failures new ≡ g.failures old))
      → ¬ ReportFailsOnly g out old new before after (Ok tt)
  -- the store failed, but the report says that memory ran out
  pub memory : (¬ (g.stores new ≡ g.stores old))
      → ¬ ReportFailsOnly g out old new before after (Err report_fault.OutOfMemory)
  -- another text was written
  pub text : (text : Bytes) → (¬ Appends (out.contents before) (out.contents after) text)
      → ¬ Reports text (out.contents before) (out.contents after) (Ok tt)
