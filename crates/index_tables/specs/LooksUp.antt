-- What a call of the books leaves.
use Rattle.std.specs.Prelude.{◌≡◌, ℕ, Bool, List, Result, IfOk, is_ok, not}
use Rattle.sqlite_trees.specs.Tree.{Trees}
use Rattle.sqlite_trees.specs.declared.store.Store.{Ghosts}
use Rattle.sqlite.specs.Effect.{Database}
use Rattle.sqlite.specs.Held.{state}
use Rattle.sqlite.specs.State.{HasCleanDisk}
use Rattle.index_sql_reads.specs.ConnectionTables.{tables_of}
use Rattle.index_sql_reads.specs.WalkReasons.{EndsForReason}
use Rattle.index_rules.specs.Calls as calls
use Rattle.index_rules.specs.declared.answer.Fault.{Fault}
use Rattle.index_rules.specs.declared.rows.WalkEnd.{WalkEnd}
use Rattle.index_rules.specs.Tables.{Tables}
use Rattle.index_rules.specs.StoreFaults.{fails_by_store, ends_by_store}
use Rattle.index_rules.specs.Walks.{TakerStep, WalksTo, has_fault}
use Rattle.index_sql_schema.specs.Index.{meta_in}
use Rattle.index_sql_schema.specs.Reasons.{FailsForReason}
use Rattle.index_sql_schema.specs.RecordRows.{AreRecords}
use Rattle.index_tables.specs.BooksState.{IsHonest, IsWorking, BooksState, Leaves}
use Rattle.index_tables.specs.Opened as opened

-- the rows of meta are those of this database
abbrev pub HasMetaOf : Database → Trees → Type 0
HasMetaOf was db = meta_in db ≡ meta_in was.trees

module _ {S : Type 0} (number : ℕ) (g : Ghosts S) where
  -- the ghosts of the books over this store
  abbrev pub sql_model : calls.Model (BooksState S)
  sql_model = record {
    tables = λ kept. tables_of g kept.conn;
    IsHonest = λ kept. IsHonest number (state g kept.conn);
    IsClean = λ kept. HasCleanDisk (state g kept.conn);
    may_leave = λ kept. Leaves number (state g kept.conn);
    faults = calls.counts (λ kept. kept.failures) (λ kept. kept.stores);
  }

  -- the facts of the trait on each look
  abbrev pub LooksOrFails : (old new : BooksState S) (succeeds is_store_fault : Bool) → Type 0
  LooksOrFails = calls.LooksUp sql_model

  -- the rows of the tables stay records
  abbrev pub KeepsRecords : (old new : BooksState S) → Type 0
  KeepsRecords old new =
      IsHonest number (state g new.conn) → AreRecords (state g old.conn).now
      → AreRecords (state g new.conn).now

  -- as long as the connection works, the limit on the steps of its queries is unchanged
  abbrev pub KeepsBooksLimit : (old new : BooksState S) → Type 0
  KeepsBooksLimit old new =
      IsWorking (state g new.conn) → opened.KeepsLimit (state g old.conn) (state g new.conn)

  -- the rows of meta stay, and a crash leaves them or what it could leave before
  pub record KeepsMeta (old new : BooksState S) : Type 0 where
    pub stays : IsHonest number (state g new.conn)
        → HasMetaOf (state g old.conn).now (state g new.conn).now.trees
    pub crash : opened.CrashLeavesOrMakes HasMetaOf (state g old.conn) (state g new.conn)

  -- a look, which also leaves the records, the limit and the rows of meta
  pub record SqlLooks (old new : BooksState S) (succeeds is_store_fault : Bool) : Type 0 where
    pub looks : LooksOrFails old new succeeds is_store_fault
    pub records : KeepsRecords old new
    pub limit : KeepsBooksLimit old new
    pub meta : KeepsMeta old new

  -- a look that finds this in the tables of an honest store, and fails with `Store` only for a
  -- reason
  pub record LooksFor {A : Type 0} (old new : BooksState S) (result : Result A Fault)
      (Has : Tables → A → Type 0) : Type 0 where
    pub found : IsHonest number (state g new.conn) → IfOk result (Has (tables_of g old.conn))
    pub looks : SqlLooks old new (is_ok result) (fails_by_store result)
    pub reason : FailsForReason g old.conn new.conn result

-- what books of a version over a store of this kind were before a call, and what they are after it
pub record BooksStep (S : Type 0) : Type 1 where
  pub number : ℕ
  pub store : Ghosts S
  pub old : BooksState S
  pub new : BooksState S

abbrev pub with_books : {S : Type 0} → ℕ → Ghosts S → BooksState S → BooksState S → BooksStep S
with_books number store old new = record { number = number; store = store; old = old; new = new }

-- a walk passes some rows to the taker; of an honest store that stays clean, those of the tables
pub record WalksBooks {S K R A : Type 0} (rows_in : Tables → List R) (books : BooksStep S)
    (taker : TakerStep K R) (result : Result A WalkEnd) : Type 0 where
  pub walked : let rows = rows_in (tables_of books.store books.old.conn) in
      IsHonest books.number (state books.store books.old.conn)
      → HasCleanDisk (state books.store books.new.conn)
      → WalksTo taker rows result
  pub given : (rows : List R) × WalksTo taker rows result
  pub looks : SqlLooks books.number books.store books.old books.new (not (has_fault result))
      (ends_by_store result)
  pub reason : let rows = rows_in (tables_of books.store books.old.conn) in
      EndsForReason books.store books.old.conn books.new.conn rows result
