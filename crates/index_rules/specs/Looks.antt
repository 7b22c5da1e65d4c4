-- What is looked up without a token shows nothing of tokens.
use Rattle.std.specs.Prelude.{◌≡◌}
use Rattle.std.specs.FinMap.{get}
use Rattle.index_rules.specs.declared.records.UserRecord.{UserRecord}
use Rattle.index_rules.specs.Maps.{Bytes, Map}
use Rattle.index_rules.specs.Tables.{Tables, owners_in}
use Rattle.index_rules.specs.TableRows.{file_rows_in, held_rows_in}

-- the tables with other users, and so with other tokens
abbrev pub with_users : Map UserRecord → Tables → Tables
with_users users T = record T { users = users }

-- a look finds the same whoever the users are, and whatever tokens they have
abbrev pub PassesOverUsers : {A : Type 0} → (Tables → A) → Type 0
PassesOverUsers look = (users : Map UserRecord) (T : Tables) → look (with_users users T) ≡ look T

-- so does each look: at a name, its owners and its case, at the rows of pages, at a file's bytes
pub record LooksPassOver : Type 0 where
  pub name : (n : Bytes) → PassesOverUsers (λ T. get T.names n)
  pub owners : (n : Bytes) → PassesOverUsers (λ T. owners_in T n)
  pub case : (n : Bytes) → PassesOverUsers (λ T. get T.cases n)
  pub names : PassesOverUsers held_rows_in
  pub files : (n : Bytes) → PassesOverUsers (λ T. file_rows_in T n)
  pub bytes : (f : Bytes) → PassesOverUsers (λ T. get T.bodies f)
