-- Opening an index of version 3.
use Rattle.std.specs.Prelude.{◌≡◌, ◌==◌, ℕ, List, Option, None, Some, Result, IfErr, IfOk, IsTrue}
use Rattle.std.specs.Prelude.{if◌then◌else◌}
use Rattle.sqlite_value.specs.Order.{Row}
use Rattle.sqlite_trees.specs.Tree.{Trees}
use Rattle.sqlite_trees.specs.declared.store.Store.{Ghosts}
use Rattle.sqlite.specs.Effect.{Database}
use Rattle.sqlite.specs.Held.{Held, state}
use Rattle.sqlite.specs.State.{HasCleanDisk}
use Rattle.index_rules.specs.declared.open.OpenFault.{OpenFault}
use Rattle.index_rules.specs.declared.open.OpenFault.TheVariants.{NotAnIndex, OtherVersion, Store}
use Rattle.index_sql_schema.specs.Index.{IsIndex, meta_in, version_in}
use Rattle.index_tables.specs.declared.opening.Unopened.{Unopened}
use Rattle.index_tables.specs.BooksState.{BooksState}
use Rattle.index_tables.specs.Adopted.{IsCurrent}
use Rattle.index_tables.specs.Opened.{AreOpened, HaveMeta, HaveTables, IsFault, IsUnopened}
use Rattle.index_tables.specs.Opened.{RefusesFound}

-- an index with version 3 in meta
abbrev pub HasVersionThree : Database → Type 0
HasVersionThree db = IsIndex db × (version_in db.trees ≡ Some 3)

-- an opening makes nothing of a database
abbrev pub MakesNothing : Database → Trees → Type 0
MakesNothing was db = ⊥

-- an open index of version 3 is refused only because memory ran out or the store failed
abbrev pub RefusesPlaced : {S : Type 0} → Ghosts S → Held S → Held S → OpenFault → Type 0
RefusesPlaced g old new why =
    IsTrue (state g old).is_open → HasVersionThree (state g old).now → IsFault why

-- why a database with this version is refused
abbrev pub placed_refusal : Option ℕ → OpenFault
placed_refusal None = NotAnIndex
placed_refusal (Some version) = if version == 3 then Store else OtherVersion

-- the rows of meta are as they were
abbrev pub IsMetaOf : Database → List Row → Type 0
IsMetaOf was rows = rows ≡ meta_in was.trees

-- a crash leaves what it could leave before, whether or not the connection is open
abbrev pub LeavesNothingNew : {S : Type 0} → Ghosts S → Held S → Held S → Type 0
LeavesNothingNew g old new =
    HasCleanDisk (state g new) → (db : Trees) → (state g new).may_leave db
    → (state g old).may_leave db

-- on a clean disk, the connection was open when the index on it was opened
abbrev pub WasOpen : {S : Type 0} → Ghosts S → Held S → BooksState S → Type 0
WasOpen g old books = HasCleanDisk (state g books.conn) → IsTrue (state g old).is_open

-- no index of version 3 was opened on a connection
pub record IsNotPlaced {S : Type 0} (g : Ghosts S) (old : Held S) (refused : Unopened S)
    : Type 0 where
  pub why : RefusesFound refused.why
  pub left : IsUnopened g MakesNothing (RefusesPlaced g) old refused
  pub nothing_new : LeavesNothingNew g old refused.conn

-- the opening of an index of version 3: the books are the index as it is found, or it is not opened
pub record TakesPlaced {S : Type 0} (g : Ghosts S) (old : Held S)
    (result : Result (BooksState S) (Unopened S)) : Type 0 where
  pub found : IfOk result (HaveTables g (IsCurrent 3 (state g old).now))
  pub meta : IfOk result (HaveMeta g (IsMetaOf (state g old).now))
  pub opened : IfOk result (AreOpened 3 g MakesNothing old)
  pub was_open : IfOk result (WasOpen g old)
  pub refused : IfErr result (IsNotPlaced g old)
