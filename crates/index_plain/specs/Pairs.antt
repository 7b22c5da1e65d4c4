-- Maps of maps as maps from pairs.
use Rattle.std.specs.Prelude.{◌≡◌, not, List, [], ◌∷◌, ◌++◌, map, Result}
use Rattle.std.specs.declared.cmp.Ordering.{Ordering}
use Rattle.std.specs.Ordering.{ordering_then, eq_by_cmp}
use Rattle.std.specs.BTreeMap.{BTreeMap}
use Rattle.std.specs.FinMap.{FinMap, entries, from_entries, insert, retain_keys}
use Rattle.std.specs.FinMap.Entries.{where_key}
use Rattle.index_plain.specs.Trees.{Puts, TurnsTo, map_of}

module _ {A B : Type 0} (P : A → A → Ordering) (Q : B → B → Ordering) where
  -- the order of pairs: by the first key, and then by the second
  abbrev pub by_both : A × B → A × B → Ordering
  by_both p q = ordering_then (P p.0 q.0) (Q p.1 q.1)

  module _ {X : Type 0} where
    -- the entries of an inner map, each with the first key at which that map is stored
    abbrev pub entries_at : A → List (B × X) → List ((A × B) × X)
    entries_at a inner = map (λ e. ((a, e.0), e.1)) inner

    -- the entries of all inner maps; of those at one key the first counts
    abbrev pub entries_of_all : List (A × BTreeMap B X) → List ((A × B) × X)
    entries_of_all [] = []
    entries_of_all (e ∷ es) =
        entries_at e.0 e.1.entries
        ++ where_key by_both (λ p. not (eq_by_cmp P e.0 p.0)) (entries_of_all es)

    -- the map from pairs that a map of maps is
    abbrev pub pairs_of : FinMap P (BTreeMap B X) → FinMap by_both X
    pairs_of m = from_entries (entries_of_all (entries m))

    -- the map without the entries at this first key
    abbrev pub without_first : A → FinMap by_both X → FinMap by_both X
    without_first a m = retain_keys m (λ p. not (eq_by_cmp P a p.0))

    -- the map from pairs that an ordered map of ordered maps is
    abbrev pub pairs_in : BTreeMap A (BTreeMap B X) → FinMap by_both X
    pairs_in m = pairs_of (map_of P m)

    -- the map from pairs has changed in this way
    abbrev pub TurnsBy : BTreeMap A (BTreeMap B X) → BTreeMap A (BTreeMap B X)
        → (FinMap by_both X → FinMap by_both X) → Type 0
    TurnsBy old new change = pairs_in new ≡ change (pairs_in old)

-- a map from pairs before a call and after it
pub record PairsStep {A B : Type 0} (P : A → A → Ordering) (Q : B → B → Ordering)
    (X : Type 0) : Type 0 where
  pub old : FinMap (by_both P Q) X
  pub new : FinMap (by_both P Q) X

-- the map from pairs that an ordered map of ordered maps is, before a call and after it
abbrev pub as_pairs : {A B X : Type 0} (P : A → A → Ordering) (Q : B → B → Ordering)
    → BTreeMap A (BTreeMap B X) → BTreeMap A (BTreeMap B X) → PairsStep P Q X
as_pairs P Q old new = record { old = pairs_in P Q old; new = pairs_in P Q new }

-- the map has this value at the pair, or, if memory ran out, is as it was
abbrev pub PutsPair : {A B X T E : Type 0} {P : A → A → Ordering} {Q : B → B → Ordering}
    → PairsStep P Q X → A × B → X → Result T E → Type 0
PutsPair pairs pair value result = Puts pairs.old pairs.new pair value result

-- the map has this value at the pair and nothing else at its first key, or, if memory ran out, is
-- as it was
abbrev pub PutsPairAlone : {A B X T E : Type 0} {P : A → A → Ordering} {Q : B → B → Ordering}
    → PairsStep P Q X → A × B → X → Result T E → Type 0
PutsPairAlone {A} {B} {X} {T} {E} {P} {Q} pairs pair value result =
    TurnsTo pairs.old pairs.new (insert (without_first P Q pair.0 pairs.old) pair value) result
