-- Rows that a query gives one at a time, as they are passed to a taker.
use Rattle.std.specs.Prelude.{Err, IfErr, List, None, Ok, OnOk, Result, [], false, length, ℕ, ◌-◌}
use Rattle.std.specs.Prelude.{◌^◌, ◌≡◌, ◌≤◌, ◌⊎◌}
use Rattle.std.specs.List.{AllByRecursion}
use Rattle.sqlite_trees.specs.declared.store.Store.{Ghosts}
use Rattle.sqlite_value.specs.Order.{Row}
use Rattle.sqlite.specs.declared.error.Error.{Error}
use Rattle.sqlite.specs.Given.{HasGiven, Advances}
use Rattle.sqlite.specs.Held.{Held, state}
use Rattle.sqlite.specs.State.{CommitsShowing, Fails, FailsToQuery, HasCleanDisk, IsUnchanged}
use Rattle.sqlite.specs.State.{Shown, Survives}
use Rattle.index_sql_schema.specs.Unchanged.{IsUnchangedIfOpen}
use Rattle.index_sql_schema.specs.Faults.{fault_by}
use Rattle.index_sql_schema.specs.Reasons.{HasReason}
use Rattle.index_rules.specs.declared.answer.Fault.TheVariants as fault
use Rattle.index_rules.specs.declared.rows.WalkEnd.{WalkEnd}
use Rattle.index_rules.specs.declared.rows.WalkEnd.TheVariants.{Store}
use Rattle.index_rules.specs.Walks.{TakerStep, WalksTo, has_fault}
use Rattle.index_sql_schema.specs.OnStore.{ConnectionStep}

-- a row of these can't be read, or there are more than a walk counts
abbrev pub IsUnread : (Row → Type 0) → List Row → Type 0
IsUnread IsRow rows = (¬ AllByRecursion IsRow rows) ⊎ (2 ^ 64 - 1 ≤ length rows)

-- ---- what a query leaves of the connection, row by row

module _ {S : Type 0} (g : Ghosts S) where
  -- the connection is outside a transaction, and on a clean disk as it was
  pub record HasStayed (sql : List ℕ) (params : Row) (old now : Held S) : Type 0 where
    pub outside : now.in_transaction ≡ false
    pub survives : Survives (state g old) (state g now) (CommitsShowing sql params (state g old))
    pub same : HasCleanDisk (state g now) → IsUnchanged (state g old) (state g now)

  -- the connection runs the query, and has given these rows
  pub record IsGiving (sql : List ℕ) (params : Row) (old now : Held S)
      (given : List Row) : Type 0 where
    pub stayed : HasStayed sql params old now
    pub gave : HasCleanDisk (state g now) → HasGiven g sql params now given

  -- a query that stood at its start has given these rows
  abbrev pub Gives : Held S → Held S → List Row → Type 0
  Gives old now given =
      (sql : List ℕ) (params : Row) (before : Held S) → IsGiving sql params before old []
      → IsGiving sql params before now given

  -- the last look for a row: none was left, the query failed, or nothing was done
  pub record IsLastLook (old new : Held S) (result : Result (Unit {0}) WalkEnd) : Type 0 where
    pub mode : old.in_transaction ≡ false → new.in_transaction ≡ false
    pub survives : Survives (state g old) (state g new) (λ _. ⊥)
    pub kept : HasCleanDisk (state g new) → IsUnchangedIfOpen (state g old) (state g new)
        ⊎ ((error : Error) × Fails (state g old) (state g new) ⊥ error)
    pub same : has_fault result ≡ false → HasCleanDisk (state g new)
        → IsUnchanged (state g old) (state g new)
    pub ended : HasCleanDisk (state g new) → OnOk result (Advances g old new None)

  -- why a walk ends with `Store`: the query fails so after these rows, or they can't be read
  abbrev pub WalkFailsAfterRows : (Row → Type 0) → List ℕ → Row → Held S → Held S → List Row
      → Type 0
  WalkFailsAfterRows IsRow sql params last new rows =
      ((error : Error) × FailsToQuery sql params (state g last) (state g new) error
      × (fault_by error ≡ fault.Store))
      ⊎ IsUnread IsRow rows

  -- ---- the rows and the tables

  -- the rows of the query's answer, or, if the walk ended early, those that the query had given by
  -- then
  abbrev pub IsOf : List ℕ → Row → Held S → List Row → Result (Unit {0}) WalkEnd → Type 0
  IsOf sql params held rows (Ok done) =
      (old new : Held S) × IsUnchanged (state g held) (state g old)
      × Shown sql params (state g old) (state g new) rows
  IsOf sql params held rows (Err end) =
      (rows ≡ [])
      ⊎ ((at : Held S) × IsUnchanged (state g held) (state g at) × HasGiven g sql params at rows)

  -- the first rows of a query's answer can't be read
  abbrev pub GivesUnread : (Row → Type 0) → List ℕ → Row → Held S → Type 0
  GivesUnread IsRow sql params held =
      (rows : List Row) × (at : Held S) × IsUnchanged (state g held) (state g at)
      × HasGiven g sql params at rows × IsUnread IsRow rows

-- ---- a query, and a walk over its rows

-- the rows that were left of a query were passed to a taker
pub record HasHanded {S K : Type 0} (IsRow : Row → Type 0) (conn : ConnectionStep S)
    (taker : TakerStep K Row) (result : Result (Unit {0}) WalkEnd) : Type 0 where
  pub rows : List Row
  pub walks : WalksTo taker rows result
  -- the connection as it was after the last of these rows
  pub last : Held S
  pub gives : Gives conn.store conn.old last rows
  pub looks : IsLastLook conn.store last conn.new result
  pub reason : HasCleanDisk (state conn.store conn.new) → (sql : List ℕ) (params : Row)
      → HasGiven conn.store sql params last rows
      → IfErr result (λ end. end ≡ Store
      → WalkFailsAfterRows conn.store IsRow sql params last conn.new rows)

-- some rows were passed to a taker; on a clean disk those of a query, or a prefix of them
pub record HandsQuery {S K : Type 0} (sql : List ℕ) (params : Row) (conn : ConnectionStep S)
    (taker : TakerStep K Row) (result : Result (Unit {0}) WalkEnd) : Type 0 where
  pub rows : List Row
  pub walks : WalksTo taker rows result
  pub shown : HasCleanDisk (state conn.store conn.new)
      → IsOf conn.store sql params conn.old rows result

-- on a clean disk a query and its walk ended with `Store` only for a reason of a look, or because
-- the first rows of its answer can't be read
pub record QueryEndsForReason {S : Type 0} (IsRow : Row → Type 0) (sql : List ℕ) (params : Row)
    (conn : ConnectionStep S) (result : Result (Unit {0}) WalkEnd) : Type 0 where
  pub reason : HasCleanDisk (state conn.store conn.new)
      → IfErr result (λ end. end ≡ Store
      → HasReason (state conn.store conn.old) (state conn.store conn.new)
      ⊎ GivesUnread conn.store IsRow sql params conn.old)
