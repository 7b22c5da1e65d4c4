-- Ordered maps of std as finite maps.
use Rattle.std.specs.Prelude.{◌≡◌, Option, Some, None, Result, OnOk, OnErr}
use Rattle.std.specs.declared.cmp.Ordering.{Ordering}
use Rattle.std.specs.BTreeMap.{BTreeMap}
use Rattle.std.specs.FinMap.{FinMap, from_entries, insert, remove}
use Rattle.index_rules.specs.Maps.{Bytes, Map, bytes_cmp}

-- the finite map that a `BTreeMap` is
abbrev pub map_of : {K X : Type 0} (R : K → K → Ordering) → BTreeMap K X → FinMap R X
map_of R m = from_entries m.entries

-- the table that an ordered map from texts is
abbrev pub table_of : {X : Type 0} → BTreeMap Bytes X → Map X
table_of m = map_of bytes_cmp m

-- the map with this value at a key, or with none there
abbrev pub with_at : {K X : Type 0} {R : K → K → Ordering} → FinMap R X → K → Option X → FinMap R X
with_at m k None = remove m k
with_at m k (Some x) = insert m k x

-- a map has become this one, or, if memory ran out, is as it was
pub record TurnsTo {M A E : Type 0} (old new made : M) (result : Result A E) : Type 0 where
  pub written : OnOk result (new ≡ made)
  pub unchanged : OnErr result (new ≡ old)

-- a map has this value at the key, or, if memory ran out, is as it was
abbrev pub Puts : {K X A E : Type 0} {R : K → K → Ordering} → FinMap R X → FinMap R X → K → X
    → Result A E → Type 0
Puts old new key value result = TurnsTo old new (insert old key value) result
