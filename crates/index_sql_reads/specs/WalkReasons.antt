-- What a walk over the rows of the tables returns, and what it leaves.
use Rattle.std.specs.Prelude.{◌≡◌, ◌⊎◌, ◌≤◌, ◌-◌, ◌^◌, List, length, not, IfErr, Result}
use Rattle.sqlite_trees.specs.declared.store.Store.{Ghosts}
use Rattle.sqlite.specs.Held.{Held, state}
use Rattle.sqlite.specs.State.{HasCleanDisk}
use Rattle.index_sql_schema.specs.Reasons.{HasReason}
use Rattle.index_rules.specs.declared.rows.WalkEnd.{WalkEnd}
use Rattle.index_rules.specs.declared.rows.WalkEnd.TheVariants.{Store}
use Rattle.index_rules.specs.Tables.{Tables}
use Rattle.index_rules.specs.Walks.{TakerStep, WalksTo, has_fault}
use Rattle.index_sql_schema.specs.Looks.{QueriesOnly}
use Rattle.index_sql_schema.specs.RecordRows.{AreRecords}
use Rattle.index_sql_reads.specs.ConnectionTables.{tables_of}
use Rattle.index_sql_schema.specs.OnStore.{ConnectionStep}

-- on a clean disk, if all rows are records, a walk over these rows ends with `Store` only for a
-- reason of a look, or because they are more than it counts
abbrev pub EndsForReason : {S A R : Type 0} → Ghosts S → Held S → Held S → List R
    → Result A WalkEnd → Type 0
EndsForReason g old new rows result =
    HasCleanDisk (state g new) → AreRecords (state g old).now
    → IfErr result
    (λ end. end ≡ Store → HasReason (state g old) (state g new) ⊎ (2 ^ 64 - 1 ≤ length rows))

-- a walk passes some rows to the taker, on a clean disk those of the tables; the tables stay as
-- they are
pub record HandsRows {S K R A : Type 0} (rows_in : Tables → List R) (conn : ConnectionStep S)
    (taker : TakerStep K R) (result : Result A WalkEnd) : Type 0 where
  pub walked : let rows = rows_in (tables_of conn.store conn.old) in
      HasCleanDisk (state conn.store conn.new) → WalksTo taker rows result
  pub given : (rows : List R) × WalksTo taker rows result
  pub looks : QueriesOnly conn.store conn.old conn.new (not (has_fault result))
  pub reason : let rows = rows_in (tables_of conn.store conn.old) in
      EndsForReason conn.store conn.old conn.new rows result
