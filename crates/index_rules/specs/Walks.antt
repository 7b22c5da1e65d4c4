-- How a walk over rows ends, and what it does to the taker of the rows.
use Rattle.std.specs.Prelude.{Bool, true, false, List, Result, Ok, Err}
use Rattle.index_rules.specs.declared.answer.Fault.{Fault}
use Rattle.index_rules.specs.declared.answer.Fault.TheVariants as fault
use Rattle.index_rules.specs.declared.rows.WalkEnd.{WalkEnd}
use Rattle.index_rules.specs.declared.rows.WalkEnd.TheVariants.{Stopped, OutOfMemory, Store}
use Rattle.index_rules.specs.Rows.{Took, TookFront, StoppedAmong}

-- whether a fault ended the walk; a taker that wants no more rows is no fault
abbrev pub is_fault : WalkEnd → Bool
is_fault Stopped = false
is_fault OutOfMemory = true
is_fault Store = true

-- whether a fault ended the walk
abbrev pub has_fault : {A : Type 0} → Result A WalkEnd → Bool
has_fault (Ok done) = false
has_fault (Err end) = is_fault end

-- the end of a walk by a fault of another look at the tables
abbrev pub walk_end_of : Fault → WalkEnd
walk_end_of fault.OutOfMemory = OutOfMemory
walk_end_of fault.Store = Store

-- what a taker is after an early end: it stopped among the rows, or it took a prefix of them
abbrev pub EndsEarly : {K R : Type 0} → (K → R → K → Type 0) → (K → R → K → Type 0) → List R → K → K
    → WalkEnd → Type 0
EndsEarly takes stops rows before after Stopped = StoppedAmong takes stops rows before after
EndsEarly takes stops rows before after OutOfMemory = TookFront takes rows before after
EndsEarly takes stops rows before after Store = TookFront takes rows before after

-- a walk that does not end early gave the taker all rows, and it took them
abbrev pub Walks : {K R A : Type 0} → (K → R → K → Type 0) → (K → R → K → Type 0) → List R → K → K
    → Result A WalkEnd → Type 0
Walks takes stops rows before after (Ok done) = Took takes rows before after
Walks takes stops rows before after (Err end) = EndsEarly takes stops rows before after end

-- a walk gave the taker some rows in this way
abbrev pub WalksSome : {K R A : Type 0} → (K → R → K → Type 0) → (K → R → K → Type 0) → K → K
    → Result A WalkEnd → Type 0
WalksSome {K} {R} takes stops before after result =
    (rows : List R) × Walks takes stops rows before after result

-- a taker of rows before and after a walk
pub record TakerStep (K R : Type 0) : Type 1 where
  -- what a row that the taker takes does to it
  pub takes : K → R → K → Type 0
  -- what a row that the taker stops at does to it
  pub stops : K → R → K → Type 0
  pub old : K
  pub new : K

abbrev pub to_taker : {K R : Type 0} → (K → R → K → Type 0) → (K → R → K → Type 0) → K → K
    → TakerStep K R
to_taker takes stops old new = record { takes = takes; stops = stops; old = old; new = new }

-- a taker of what rows stand for, as a taker of the rows
abbrev pub of_rows : {K X R : Type 0} → (X → R) → TakerStep K R → TakerStep K X
of_rows stands_for taker = record {
  takes = λ before row after. taker.takes before (stands_for row) after;
  stops = λ before row after. taker.stops before (stands_for row) after;
  old = taker.old;
  new = taker.new;
}

-- a walk over these rows passes them to the taker
abbrev pub WalksTo : {K R A : Type 0} → TakerStep K R → List R → Result A WalkEnd → Type 0
WalksTo taker rows result = Walks taker.takes taker.stops rows taker.old taker.new result
