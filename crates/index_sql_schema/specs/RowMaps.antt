-- The map that the rows of a table stand for.
use Rattle.std.specs.Prelude.{List, map}
use Rattle.std.specs.declared.cmp.Ordering.{Ordering}
use Rattle.std.specs.FinMap.{FinMap, from_entries}

-- each row as its key and its value; of two rows with one key the first counts
abbrev pub map_from :
    {A K X : Type 0} {R : K → K → Ordering} → (A → K) → (A → X) → List A → FinMap R X
map_from key value rows = from_entries (map (λ r. (key r, value r)) rows)
