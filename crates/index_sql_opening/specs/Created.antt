-- What the creation of an index leaves.
use Rattle.std.specs.Prelude.{◌≡◌, ℕ, List, [], ◌∷◌}
use Rattle.sqlite_value.specs.Order.{Row}
use Rattle.sqlite.specs.Effect.{Database, IsDatabase}
use Rattle.sqlite.specs.State.{State}
use Rattle.index_rules.specs.declared.records.UserRecord.{UserRecord}
use Rattle.index_rules.specs.Maps.{Bytes}
use Rattle.index_rules.specs.Tables.{Tables}
use Rattle.index_sql_schema.specs.Schema.{no_schema}
use Rattle.index_sql_schema.specs.Index.{version_row}
use Rattle.index_sql_schema.specs.CreateSteps.{IsStage, no_tables}
use Rattle.index_sql_writes.specs.Writes.{puts_user}

-- an empty database
pub record IsBlank (db : Database) : Type 0 where
  pub schema : db.schema ≡ no_schema
  pub sound : IsDatabase db

-- one user with this record, and nothing else; if the user is of the office, these are the tables
-- of a new index (`first_tables`)
abbrev pub one_user : Bytes → UserRecord → Tables
one_user user account = puts_user user account no_tables

-- the first `n` tables are made afterwards, and nothing is committed
abbrev pub Advances : ℕ → State → State → Type 0
Advances n old new = IsStage n new × (new.committed ≡ old.committed)

-- the one row of meta of this version, whatever rows there were
abbrev pub one_version_row : ℕ → List Row → List Row
one_version_row version rows = version_row version ∷ []
