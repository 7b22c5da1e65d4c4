-- The tables made one after another.
use Rattle.std.specs.Prelude.{◌≡◌, ℕ, zero, suc, true, List, [], ◌∷◌, IsTrue}
use Rattle.std.specs.List.{AllByRecursion}
use Rattle.std.specs.FinMap.{empty}
use Rattle.sqlite_schema.specs.declared.schema.Table.{Table}
use Rattle.sqlite_schema.specs.declared.schema.Schema.{Schema}
use Rattle.sqlite_catalog.specs.Change.{created}
use Rattle.sqlite.specs.Effect.{IsDatabase}
use Rattle.sqlite.specs.State.{State}
use Rattle.index_rules.specs.Tables.{Tables}
use Rattle.index_sql_schema.specs.TableTexts.{meta_text, users_text, names_text, owners_text}
use Rattle.index_sql_schema.specs.TableTexts.{files_text, blobs_text, yanks_text, cases_text}
use Rattle.index_sql_schema.specs.TableTexts.{bans_text}
use Rattle.index_sql_schema.specs.Schema.{meta_at, users_at, names_at, owners_at, files_at}
use Rattle.index_sql_schema.specs.Schema.{blobs_at, yanks_at, cases_at, bans_at, no_schema}

-- the statements that make the tables, in order
abbrev pub all_texts : List (List ℕ)
all_texts =
    meta_text ∷ users_text ∷ names_text ∷ owners_text ∷ files_text
    ∷ blobs_text ∷ yanks_text ∷ cases_text ∷ bans_text ∷ []

-- the tables in the order of their statements, before any has a tree
abbrev pub all_tables : List Table
all_tables =
    meta_at 0 ∷ users_at 0 ∷ names_at 0 ∷ owners_at 0 ∷ files_at 0
    ∷ blobs_at 0 ∷ yanks_at 0 ∷ cases_at 0 ∷ bans_at 0 ∷ []

-- a schema after the first tables of a list are made, as many as the number says
abbrev pub made : Schema → List Table → ℕ → Schema
made s ts zero = s
made s [] (suc n) = s
made s (t ∷ ts) (suc n) = made (created s t) ts n

-- the schema after the first statements, as many as the number says
abbrev pub stage : ℕ → Schema
stage = made no_schema all_tables

-- inside a transaction the first `n` tables are made, and are empty
pub record IsStage (n : ℕ) (s : State) : Type 0 where
  pub is_open : IsTrue s.is_open
  pub inside : s.in_transaction ≡ true
  pub schema : s.now.schema ≡ stage n
  pub sound : IsDatabase s.now
  pub empty : AllByRecursion (λ (t : Table). s.now.trees t.tree ≡ []) (stage n).tables

-- tables with nothing in them
abbrev pub no_tables : Tables
no_tables = record {
  users = empty;
  names = empty;
  owners = empty;
  files = empty;
  bodies = empty;
  yanks = empty;
  cases = empty;
  bans = empty;
}
