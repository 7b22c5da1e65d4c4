-- The version in a database.
use Rattle.std.specs.Prelude.{IfErr, IfOk, List, Option, Result, [], option_map, slice_get, true, ℕ}
use Rattle.std.specs.Prelude.{◌≡◌}
use Rattle.sqlite_value.specs.Order.{Row, column}
use Rattle.sqlite_trees.specs.declared.store.Store.{Ghosts}
use Rattle.sqlite.specs.declared.error.Error.{Error}
use Rattle.sqlite.specs.Held.{Held, state}
use Rattle.sqlite.specs.State.{FailsToQuery, HasCleanDisk, Shown}
use Rattle.index_sql_schema.specs.Faults.{fault_by}
use Rattle.index_sql_schema.specs.Reasons.{HasReason}
use Rattle.index_rules.specs.declared.answer.Fault.{Fault}
use Rattle.index_rules.specs.declared.answer.Fault.TheVariants.{Store}
use Rattle.index_sql_schema.specs.Records.{number_in}
use Rattle.index_sql_schema.specs.StatementTexts.{select_version_text}

-- the number in the first row of an answer; 0 if the row has none from 0 on
abbrev pub first_number : List Row → Option ℕ
first_number rows = option_map (λ r. number_in (column r 0)) (slice_get rows 0)

-- inside a transaction, the query of the version shows rows, and this is the number in the first;
-- of tables that are not those of an index no more is known
pub record VersionQueryShows {S : Type 0} (g : Ghosts S) (inside : Held S) (version : Option ℕ)
    : Type 0 where
  pub after : Held S
  pub rows : List Row
  pub shown : Shown select_version_text [] (state g inside) (state g after) rows
  pub first : version ≡ first_number rows

-- the query of the version fails with an error that is told as this fault
pub record VersionQueryFails {S : Type 0} (g : Ghosts S) (old new : Held S) (fault : Fault)
    : Type 0 where
  pub error : Error
  pub fails : FailsToQuery select_version_text [] (state g old) (state g new) error
  pub told : fault_by error ≡ fault

-- inside a transaction, which is then dropped, the query of the version fails with an error that is
-- told as this fault
abbrev pub VersionQueryFailsInside : {S : Type 0} → Ghosts S → Held S → Fault → Type 0
VersionQueryFailsInside {S} g inside fault =
    (after : Held S) × VersionQueryFails g inside after fault

-- on a clean disk, the version of an index is not read: the query fails with an error that is told
-- as this fault, with `Store` only for a reason of the store
pub record FailsToReadVersion {S : Type 0} (g : Ghosts S) (old new : Held S) (fault : Fault)
    : Type 0 where
  pub query : HasCleanDisk (state g new) → VersionQueryFails g old new fault
  pub reason : HasCleanDisk (state g new)
      → fault ≡ Store → HasReason (state g old) (state g new)

-- on a clean disk the result is the version that the query shows, or the fault that its error is
-- told as
pub record VersionQueryAnswers {S : Type 0} (g : Ghosts S)
    (inside new : Held S)
    (result : Result (Option ℕ) Fault) : Type 0 where
  pub told : HasCleanDisk (state g new) → IfOk result (VersionQueryShows g inside)
  pub fails : HasCleanDisk (state g new)
      → IfErr result (VersionQueryFailsInside g inside)

-- the connection with a transaction begun
abbrev pub begun : {S : Type 0} → Held S → Held S
begun held = record held { in_transaction = true }
