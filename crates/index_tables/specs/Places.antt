-- The place that ends last, of those that a walk passes on.
use Rattle.std.specs.Prelude.{◌≡◌, ◌⊎◌, ◌≤◌, ◌-◌, ◌^◌, ℕ, Bool, true, Option, Some, None, Result}
use Rattle.std.specs.Prelude.{IfErr, IsTrue, OnOk, cond, length, nat_lt}
use Rattle.std.specs.FinMap.{entries}
use Rattle.sqlite_trees.specs.declared.store.Store.{Ghosts}
use Rattle.sqlite.specs.Held.{Held, state}
use Rattle.sqlite.specs.State.{HasCleanDisk}
use Rattle.index_rules.specs.Maps.{Bytes}
use Rattle.index_rules.specs.declared.answer.Fault.{Fault}
use Rattle.index_rules.specs.declared.answer.Fault.TheVariants.{Store}
use Rattle.index_sql_reads.specs.ConnectionTables.{tables_of}
use Rattle.index_sql_schema.specs.Reasons.{HasReason}
use Rattle.index_sql_schema.specs.RecordRows.{AreRecords}
use Rattle.index_volume.specs.Places.{LiesBelow, place_end, place_length}
use Rattle.index_volume_books.specs.Over.{Fits}

-- a look that succeeds on a clean disk leaves an open connection
abbrev pub IsOpenedIfOk : {S A E : Type 0} → Ghosts S → Held S → Result A E → Type 0
IsOpenedIfOk g held result =
    OnOk result (HasCleanDisk (state g held) → IsTrue (state g held).is_open)

-- a file with the end of its place
abbrev pub place_of : Bytes × Bytes → Bytes × ℕ
place_of row = (row.0, place_end row.1)

-- whether a place with this end ends later than the last one
abbrev pub is_later : Option (Bytes × ℕ) → ℕ → Bool
is_later None end = true
is_later (Some last) end = nat_lt last.1 end

-- the last place and one more that was taken, which has the length of a place
pub record TakesPlace (before : Option (Bytes × ℕ)) (row : Bytes × Bytes)
    (after : Option (Bytes × ℕ)) : Type 0 where
  pub size : length row.1 ≡ place_length
  pub last : after ≡ cond (is_later before (place_end row.1)) (Some (place_of row)) before

-- the greatest number of 64 bits: where the last place can end, and the most rows of a walk
abbrev pub greatest_number : ℕ
greatest_number = 2 ^ 64 - 1

-- the walk stops at a row for what is stored there, which is no place that ends where one can, or
-- for want of memory
abbrev pub StopsAtPlace : Bytes × Bytes → Fault → Type 0
StopsAtPlace row why = why ≡ Store → LiesBelow greatest_number row.1 → ⊥

-- on a clean disk, if all rows are records and each body is a place that ends where one can, the
-- result is `Store` only for a reason of a look, or because a walk counts no more files
abbrev pub LastForReason : {S A : Type 0} → Ghosts S → Held S → Held S → Result A Fault → Type 0
LastForReason g old new result =
    let T = tables_of g old in
    HasCleanDisk (state g new) → AreRecords (state g old).now → Fits greatest_number T
    → IfErr result (λ fault. fault ≡ Store → HasReason (state g old) (state g new)
    ⊎ (greatest_number ≤ length (entries T.bodies)))
