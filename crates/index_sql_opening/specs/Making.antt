-- What one transaction that makes an index of a database leaves.
use Rattle.std.specs.Prelude.{◌≡◌, ℕ, false, List, IfErr, IsTrue, OnErr, OnOk, Result}
use Rattle.sqlite_value.specs.Order.{Row}
use Rattle.sqlite_schema.specs.declared.schema.Schema.{Schema}
use Rattle.sqlite_trees.specs.declared.store.Store.{Ghosts}
use Rattle.sqlite.specs.declared.error.Error.{Error}
use Rattle.sqlite.specs.Effect.{Database}
use Rattle.sqlite.specs.Held.{Held, state}
use Rattle.sqlite.specs.State.{State, HasCleanDisk}
use Rattle.index_rules.specs.declared.records.UserRecord.{UserRecord}
use Rattle.index_rules.specs.Maps.{Bytes}
use Rattle.index_rules.specs.Tables.{Tables}
use Rattle.index_sql_schema.specs.CreateSteps.{stage}
use Rattle.index_sql_schema.specs.FirstVersion.{IsFirstVersion, without_bans}
use Rattle.index_sql_schema.specs.Index.{raised}
use Rattle.index_sql_schema.specs.OnStore.{ConnectionStep}
use Rattle.index_sql_writes.specs.Asks.{Ask}
use Rattle.index_sql_writes.specs.Changed.{IsMade, IsUndone, LeavesWholeChange}
use Rattle.index_sql_writes.specs.StepAsks.{FailsForRefusal}
use Rattle.index_sql_opening.specs.Created.{IsBlank, one_user, one_version_row}
use Rattle.index_sql_opening.specs.Migrated.{asks_of_migration}
use Rattle.index_sql_opening.specs.NewAsks.{asks_of_new}

-- a connection in no transaction; on a clean disk, if it is open, all of its database is committed
pub record IsAtRest {S : Type 0} (g : Ghosts S) (held : Held S) : Type 0 where
  pub outside : held.in_transaction ≡ false
  pub settled : HasCleanDisk (state g held)
      → IsTrue (state g held).is_open
      → (state g held).now ≡ (state g held).committed

-- a connection in no transaction, whose state is of this kind
pub record RestsAs {S : Type 0} (g : Ghosts S) (Is : State → Type 0) (held : Held S) : Type 0 where
  pub rest : IsAtRest g held
  pub is : Is (state g held)

-- the connection's database has this schema
abbrev pub IsOfSchema : {S : Type 0} → Ghosts S → Held S → Schema → Type 0
IsOfSchema g held schema = (state g held).now.schema ≡ schema

-- as long as the connection is open, a database with this schema is of this kind
abbrev pub IsBySchema : {S : Type 0} → Ghosts S → Schema → (Database → Type 0) → Held S → Type 0
IsBySchema g schema IsKind held =
    IsTrue (state g held).is_open
    → (state g held).now.schema ≡ schema
    → IsKind (state g held).now

-- An index is made of an open database of this kind: `change` says with which tables, `rows` with
-- which rows of meta, and `asks` by which statements.
pub record MakesIndex {S A : Type 0}
    (IsKind : Database → Type 0)
    (change : Tables → Tables)
    (rows : List Row → List Row)
    (asks : List Ask)
    (conn : ConnectionStep S)
    (result : Result A Error) : Type 0 where
  -- if it succeeds on a clean disk, the index is there, and committed
  pub made : let old = state conn.store conn.old in
      let new = state conn.store conn.new in
      HasCleanDisk new
      → OnOk result (IsTrue old.is_open → IsKind old.now → IsMade change rows old new)
  -- after an error, if the connection is still open, the database is as it was committed
  pub unchanged : let old = state conn.store conn.old in
      let new = state conn.store conn.new in
      HasCleanDisk new → IsTrue new.is_open → IsKind old.now → OnErr result (IsUndone old new)
  pub outside : conn.new.in_transaction ≡ false
  pub was_clean : HasCleanDisk (state conn.store conn.new)
      → HasCleanDisk (state conn.store conn.old)
  pub was_open : HasCleanDisk (state conn.store conn.new)
      → IsTrue (state conn.store conn.new).is_open
      → IsTrue (state conn.store conn.old).is_open
  -- a crash leaves what it could leave before, or the whole index
  pub crash : let old = state conn.store conn.old in
      IsTrue old.is_open → IsKind old.now
      → LeavesWholeChange change rows old (state conn.store conn.new)
  -- a failure with `Store` has a reason of the store, or SQL refused a statement
  pub reason : let old = state conn.store conn.old in
      let new = state conn.store conn.new in
      HasCleanDisk new
      → (IsTrue old.is_open → IsKind old.now)
      → IfErr result (FailsForRefusal asks old new)

-- a new index of this version is made of an empty database: one user with this record, and nothing
-- else
abbrev pub MakesNewIndex :
    {S A : Type 0} → ℕ → Bytes → UserRecord → ConnectionStep S → Result A Error → Type 0
MakesNewIndex version user account =
    MakesIndex IsBlank (λ _. one_user user account) (one_version_row version)
    (asks_of_new version user account)

-- an index of version 2 is made of a database of version 1: the same tables, and no bans
abbrev pub MakesOfFirstVersion : {S A : Type 0} → ConnectionStep S → Result A Error → Type 0
MakesOfFirstVersion = MakesIndex IsFirstVersion without_bans raised asks_of_migration

-- the first `n` tables are made of an open empty database, if it succeeds on a clean disk
abbrev pub MakesTables : {S A E : Type 0} → ℕ → ConnectionStep S → Result A E → Type 0
MakesTables n conn result =
    let old = state conn.store conn.old in
    let new = state conn.store conn.new in
    HasCleanDisk new
    → OnOk result (IsTrue old.is_open → IsBlank old.now → new.now.schema ≡ stage n)
