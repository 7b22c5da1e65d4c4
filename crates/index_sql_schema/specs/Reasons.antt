-- Why a look fails with `Store`.
use Rattle.std.specs.Prelude.{◌≡◌, ◌⊎◌, false, IsSome, IfErr, Result}
use Rattle.sqlite_disk.specs.Disk.{MoreFaults}
use Rattle.sqlite_trees.specs.declared.store.Store.{Ghosts}
use Rattle.sqlite.specs.Held.{Held, state}
use Rattle.sqlite.specs.State.{State, HasCleanDisk}
use Rattle.index_rules.specs.declared.answer.Fault.{Fault}
use Rattle.index_rules.specs.declared.answer.Fault.TheVariants.{Store}
use Rattle.index_sql_schema.specs.RecordRows.{AreRecords}

-- the disk had a fault during the call, the connection was shut before, or its queries' steps are
-- limited
abbrev pub HasReason : State → State → Type 0
HasReason old new =
    MoreFaults old.faults new.faults ⊎ ((old.is_open ≡ false) ⊎ IsSome old.step_limit)

-- the result is `Store` only if there was such a reason
abbrev pub StoreForReason : {S A : Type 0} → Ghosts S → Held S → Held S → Result A Fault → Type 0
StoreForReason g old new result =
    IfErr result (λ fault. fault ≡ Store → HasReason (state g old) (state g new))

-- on a clean disk, if all rows are records, the result is `Store` only if there was such a reason
abbrev pub FailsForReason : {S A : Type 0} → Ghosts S → Held S → Held S → Result A Fault → Type 0
FailsForReason g old new result =
    HasCleanDisk (state g new)
    → AreRecords (state g old).now
    → StoreForReason g old new result
