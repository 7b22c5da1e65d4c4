-- Faults of the store.
use Rattle.std.specs.Prelude.{◌≡◌, ℕ, Bool, true, false, not, Result, Ok, Err}
use Rattle.index_io.specs.Counts.{next_count}
use Rattle.index_rules.specs.declared.answer.Answer.{Answer}
use Rattle.index_rules.specs.declared.answer.Answer.TheVariants as answer
use Rattle.index_rules.specs.declared.answer.Fault.{Fault}
use Rattle.index_rules.specs.declared.answer.Fault.TheVariants as fault
use Rattle.index_rules.specs.declared.rows.WalkEnd.{WalkEnd}
use Rattle.index_rules.specs.declared.rows.WalkEnd.TheVariants as walk_end

-- whether a fault is one of the store
abbrev pub is_store_fault : Fault → Bool
is_store_fault fault.OutOfMemory = false
is_store_fault fault.Store = true

-- whether a look or a change failed with `Store`
abbrev pub fails_by_store : {A : Type 0} → Result A Fault → Bool
fails_by_store (Ok done) = false
fails_by_store (Err why) = is_store_fault why

-- whether the end of a walk is a fault of the store
abbrev pub is_store_end : WalkEnd → Bool
is_store_end walk_end.Stopped = false
is_store_end walk_end.OutOfMemory = false
is_store_end walk_end.Store = true

-- whether a walk ended with `Store`
abbrev pub ends_by_store : {A : Type 0} → Result A WalkEnd → Bool
ends_by_store (Ok done) = false
ends_by_store (Err end) = is_store_end end

-- whether the answer to a call is a fault of the store
abbrev pub answers_store_fault : Answer → Bool
answers_store_fault (answer.Fault why) = is_store_fault why
answers_store_fault answer.Accepted = false
answers_store_fault answer.Already = false
answers_store_fault (answer.Refused refusal) = false

-- a fault of the store was counted exactly if there was one
abbrev pub CountsStoreFault : ℕ → ℕ → Bool → Type 0
CountsStoreFault before now is_store_fault = now ≡ next_count before (not is_store_fault)
