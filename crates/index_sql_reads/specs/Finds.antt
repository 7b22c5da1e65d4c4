-- What a look-up returns, and what it leaves.
use Rattle.std.specs.Prelude.{◌≡◌, Result, IfOk, is_ok}
use Rattle.sqlite_trees.specs.declared.store.Store.{Ghosts}
use Rattle.sqlite.specs.Held.{Held, state}
use Rattle.sqlite.specs.State.{HasCleanDisk}
use Rattle.index_rules.specs.declared.answer.Fault.{Fault}
use Rattle.index_rules.specs.Tables.{Tables}
use Rattle.index_sql_schema.specs.Looks.{QueriesOnly}
use Rattle.index_sql_schema.specs.Reasons.{FailsForReason}
use Rattle.index_sql_reads.specs.ConnectionTables.{tables_of}

-- On a clean disk the result is what the tables have. The tables stay as they are, and a fault of
-- the store has a reason.
pub record FindsInTables {S A : Type 0} (g : Ghosts S) (old new : Held S) (result : Result A Fault)
    (Has : Tables → A → Type 0) : Type 0 where
  pub found : HasCleanDisk (state g new) → IfOk result (Has (tables_of g old))
  pub looks : QueriesOnly g old new (is_ok result)
  pub reason : FailsForReason g old new result

-- a look-up returns this value of the tables
abbrev pub Gets : {S A : Type 0} → Ghosts S → Held S → Held S → Result A Fault
    → (Tables → A) → Type 0
Gets g old new result value = FindsInTables g old new result (λ T it. it ≡ value T)
