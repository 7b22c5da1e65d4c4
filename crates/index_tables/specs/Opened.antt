-- What the opening of an index returns, and what it leaves of a connection.
use Rattle.std.specs.Prelude.{◌≡◌, ◌≢◌, ◌⊎◌, ℕ, List, [], ◌∷◌, Result, Ok, Err, IsTrue, false}
use Rattle.sqlite_value.specs.Order.{Row}
use Rattle.sqlite_trees.specs.declared.store.Store.{Ghosts}
use Rattle.sqlite_trees.specs.Tree.{Trees}
use Rattle.sqlite_schema.specs.declared.schema.Schema.{Schema}
use Rattle.sqlite.specs.Effect.{Database}
use Rattle.sqlite.specs.Held.{Held, state}
use Rattle.sqlite.specs.State.{State, HasCleanDisk}
use Rattle.index_sql_opening.specs.Names.{has_any_of}
use Rattle.index_sql_writes.specs.StepAsks.{AreRefused}
use Rattle.index_sql_schema.specs.Reasons.{HasReason}
use Rattle.index_rules.specs.declared.answer.Fault.{Fault}
use Rattle.index_rules.specs.declared.answer.Fault.TheVariants as fault
use Rattle.index_rules.specs.declared.open.OpenFault.{OpenFault}
use Rattle.index_rules.specs.declared.open.OpenFault.TheVariants as open_fault
use Rattle.index_rules.specs.FirstTables.{IsBadFirstUser}
use Rattle.index_rules.specs.Maps.{Bytes}
use Rattle.index_rules.specs.Tables.{Tables}
use Rattle.index_sql_schema.specs.Index.{meta_in, version_row}
use Rattle.index_sql_schema.specs.Records.{tables_in}
use Rattle.index_sql_schema.specs.Schema.{index_schema, no_schema}
use Rattle.index_sql_schema.specs.RecordRows.{AreRecords}
use Rattle.index_sql_schema.specs.Unchanged.{IsUnchangedIfOpen}
use Rattle.index_sql_reads.specs.ConnectionTables.{tables_of}
use Rattle.index_sql_writes.specs.Asks.{Ask}
use Rattle.index_tables.specs.declared.opening.Unopened.{Unopened}
use Rattle.index_tables.specs.BooksState.{AreCurrent, IsHonest, IsWorking, BooksState, Leaves}

-- an index was not opened, for this reason
abbrev pub IsRefusedAs : {S A : Type 0} → OpenFault → Result A (Unopened S) → Type 0
IsRefusedAs why (Ok opened) = ⊥
IsRefusedAs why (Err refused) = refused.why ≡ why

-- a fault as the reason for which an index was not opened
abbrev pub open_fault_by : Fault → OpenFault
open_fault_by fault.OutOfMemory = open_fault.OutOfMemory
open_fault_by fault.Store = open_fault.Store

-- memory ran out, or the store failed
abbrev pub IsFault : OpenFault → Type 0
IsFault why = (why ≡ open_fault.OutOfMemory) ⊎ (why ≡ open_fault.Store)

-- a reason for which a new index is not made
abbrev pub RefusesNew : OpenFault → Type 0
RefusesNew why = (why ≡ open_fault.BadFirstUser) ⊎ ((why ≡ open_fault.NotEmpty) ⊎ IsFault why)

-- a reason for which an index is not found
abbrev pub RefusesFound : OpenFault → Type 0
RefusesFound why = (why ≡ open_fault.NotAnIndex) ⊎ ((why ≡ open_fault.OtherVersion) ⊎ IsFault why)

-- the reason that is returned is the one found, one for which no index is found
pub record IsRefusal (found told : OpenFault) : Type 0 where
  pub is : told ≡ found
  pub why : RefusesFound told

-- the first user is valid, and a table has the name of one of an index
abbrev pub IsTaken : Bytes → Bytes → Schema → Type 0
IsTaken user token schema =
    (¬ IsBadFirstUser user token) × IsTrue (has_any_of schema index_schema.tables)

-- the database has something, but no table with the name of one of an index
abbrev pub HasOthers : Schema → Type 0
HasOthers schema = (has_any_of schema index_schema.tables ≡ false) × (schema ≢ no_schema)

-- the first user is valid, and the database has something else
abbrev pub IsAmongOthers : Bytes → Bytes → Schema → Type 0
IsAmongOthers user token schema = (¬ IsBadFirstUser user token) × HasOthers schema

-- the reason is `Store` only if the store fails, or SQL refuses one of these statements after those
-- before it
abbrev pub StoreForRefusal : {S : Type 0} → Ghosts S → List Ask → Held S → Held S → OpenFault
    → Type 0
StoreForRefusal g asks old new why =
    why ≡ open_fault.Store
    → HasReason (state g old) (state g new) ⊎ AreRefused asks (state g old).now

-- the reason is `Store` only if the store fails, SQL refuses one of these statements, or the
-- database has something else
abbrev pub StoreForOthers : {S : Type 0} → Ghosts S → List Ask → Held S → Held S → OpenFault
    → Type 0
StoreForOthers g asks old new why =
    why ≡ open_fault.Store
    → HasOthers (state g old).now.schema
    ⊎ (HasReason (state g old) (state g new) ⊎ AreRefused asks (state g old).now)

-- after a crash of a connection that works, an open may find what it could find before, or what is
-- made of the database
abbrev pub CrashLeavesOrMakes : (Database → Trees → Type 0) → State → State → Type 0
CrashLeavesOrMakes Made old new =
    IsWorking old → HasCleanDisk new → (db : Trees) → new.may_leave db
    → old.may_leave db ⊎ Made old.now db

-- the rows of meta of a new index: the one with this version
abbrev pub AreNewMeta : ℕ → List Row → Type 0
AreNewMeta number rows = rows ≡ version_row number ∷ []

-- an index of this version with these tables and one row of meta is made of an empty database
abbrev pub IsCreated : ℕ → Tables → Database → Trees → Type 0
IsCreated number T was db =
    (was.schema ≡ no_schema) × AreCurrent number db × (tables_in db ≡ T)
    × AreNewMeta number (meta_in db)

-- as long as the connection works, the books have such tables
abbrev pub HaveTables : {S : Type 0} → Ghosts S → (Tables → Type 0) → BooksState S → Type 0
HaveTables g Are books = IsWorking (state g books.conn) → Are (tables_of g books.conn)

-- as long as the connection works, the rows of the books are records
abbrev pub HaveRecords : {S : Type 0} → Ghosts S → BooksState S → Type 0
HaveRecords g books = IsWorking (state g books.conn) → AreRecords (state g books.conn).now

-- as long as the connection works, the books have such rows of meta
abbrev pub HaveMeta : {S : Type 0} → Ghosts S → (List Row → Type 0) → BooksState S → Type 0
HaveMeta g Are books = IsWorking (state g books.conn) → Are (meta_in (state g books.conn).now.trees)

-- the limit on the steps of queries, which is none unless one is set, is unchanged
abbrev pub KeepsLimit : State → State → Type 0
KeepsLimit old new = new.step_limit ≡ old.step_limit

-- Books of this version were opened on a connection. `Made` says what the database may have become.
pub record AreOpened {S : Type 0} (number : ℕ) (g : Ghosts S) (Made : Database → Trees → Type 0)
    (old : Held S) (books : BooksState S) : Type 0 where
  -- the connection works only if it did before; if it did, the books are honest as far as the disk
  -- is clean
  pub was_working : IsWorking (state g books.conn) → IsWorking (state g old)
  pub was_clean : HasCleanDisk (state g books.conn) → HasCleanDisk (state g old)
  pub lasts : IsWorking (state g old) → HasCleanDisk (state g books.conn)
      → IsHonest number (state g books.conn)
  pub failures : books.failures ≡ 0
  pub stores : books.stores ≡ 0
  pub limit : IsWorking (state g books.conn) → KeepsLimit (state g old) (state g books.conn)
  -- the rows of the books are records if those of the database were
  pub records : AreRecords (state g old).now → HaveRecords g books
  -- a crash leaves what it could leave before, or what was made; if the connection worked, only the
  -- tables of the books
  pub crash : CrashLeavesOrMakes Made (state g old) (state g books.conn)
  pub alone : IsWorking (state g old) → (T : Tables) → Leaves number (state g books.conn) T
      → T ≡ tables_of g books.conn

-- books of a new index of this version with these tables were made on a connection; all their rows
-- are records, and meta has one row
pub record AreNew {S : Type 0} (number : ℕ) (g : Ghosts S) (T : Tables) (old : Held S)
    (books : BooksState S) : Type 0 where
  pub tables : HaveTables g (λ it. it ≡ T) books
  pub records : HaveRecords g books
  pub meta : HaveMeta g (AreNewMeta number) books
  pub opened : AreOpened number g (IsCreated number T) old books

-- Books were not opened on a connection, for a reason of this kind; the connection is given back
-- outside a transaction.
pub record IsUnopened {S : Type 0} (g : Ghosts S) (Made : Database → Trees → Type 0)
    (Reason : Held S → Held S → OpenFault → Type 0) (old : Held S) (refused : Unopened S)
    : Type 0 where
  pub outside : refused.conn.in_transaction ≡ false
  pub was_clean : HasCleanDisk (state g refused.conn) → HasCleanDisk (state g old)
  -- on a clean disk, if the connection is open, its database is as it was
  pub stays : HasCleanDisk (state g refused.conn)
      → IsUnchangedIfOpen (state g old) (state g refused.conn)
  pub limit : IsWorking (state g refused.conn) → KeepsLimit (state g old) (state g refused.conn)
  pub reason : HasCleanDisk (state g refused.conn) → Reason old refused.conn refused.why
  -- a crash leaves what it could leave before, or, after a late fault, what was made
  pub crash : CrashLeavesOrMakes Made (state g old) (state g refused.conn)

-- a new index of this version with these tables was not made on a connection by these statements
abbrev pub IsNotMade : {S : Type 0} → ℕ → Ghosts S → Tables → List Ask → Held S → Unopened S
    → Type 0
IsNotMade number g T asks = IsUnopened g (IsCreated number T) (StoreForOthers g asks)
