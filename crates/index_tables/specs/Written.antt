-- Why a write fails with `Store`.
use Rattle.std.specs.Prelude.{◌≡◌, ◌⊎◌, IfErr, Result}
use Rattle.sqlite_trees.specs.declared.store.Store.{Ghosts}
use Rattle.sqlite.specs.Held.{Held, state}
use Rattle.sqlite.specs.State.{HasCleanDisk}
use Rattle.index_sql_writes.specs.ChangeAsks.{asks_of}
use Rattle.index_sql_writes.specs.StepAsks.{AreRefused}
use Rattle.index_sql_schema.specs.Reasons.{HasReason}
use Rattle.index_rules.specs.declared.answer.Fault.{Fault}
use Rattle.index_rules.specs.declared.answer.Fault.TheVariants.{Store}
use Rattle.index_rules.specs.declared.change.Change.{Change}
use Rattle.index_sql_schema.specs.RecordRows.{AreRecords}

-- On a clean disk, if all rows are records, a write fails with `Store` only for a reason of the
-- store, or if SQL refuses a statement of the change on the tables as they stand.
abbrev pub FailsToWrite : {S A : Type 0} → Ghosts S → Change → Held S → Held S → Result A Fault
    → Type 0
FailsToWrite g change old new result =
    HasCleanDisk (state g new) → AreRecords (state g old).now
    → IfErr result (λ fault. fault ≡ Store → HasReason (state g old) (state g new)
    ⊎ AreRefused (asks_of change) (state g old).now)
