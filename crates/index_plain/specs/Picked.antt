-- A key of a table, whichever the code picks.
use Rattle.std.specs.Prelude.{◌≡◌, Option, None, MatchOption, IsSome}
use Rattle.std.specs.declared.cmp.Ordering.{Ordering}
use Rattle.std.specs.Borrow.{Bor}
use Rattle.std.specs.BTreeMap.{BTreeMap}
use Rattle.std.specs.FinMap.{FinMap, empty, get}
use Rattle.index_plain.specs.Pairs.{pairs_in}

-- a key of a table, or none of an empty one
abbrev pub PicksKey : {K X : Type 0} {R : K → K → Ordering} → FinMap R X → Option (Bor K) → Type 0
PicksKey table picked = MatchOption picked (table ≡ empty) (λ key. IsSome (get table key.now))

-- a second key that is stored at this first key, or none if there is none
abbrev pub PicksSecond : {A B X : Type 0} (P : A → A → Ordering) (Q : B → B → Ordering)
    → BTreeMap A (BTreeMap B X) → A → Option (Bor B) → Type 0
PicksSecond {A} {B} P Q m first picked =
    let pairs = pairs_in P Q m in
    MatchOption picked ((second : B) → get pairs (first, second) ≡ None)
    (λ second. IsSome (get pairs (first, second.now)))
