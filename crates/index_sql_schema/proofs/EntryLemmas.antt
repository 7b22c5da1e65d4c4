-- The entries of the map that rows stand for: they are the rows, in the order of their keys.
use Rattle.index_sql_schema.proofs.Words.{◌≡◌, Bool, false, cond, List, [], ◌∷◌, map, filter, find, length, refl, sym, ap, ap₂, subst, ◌∙◌}
use Rattle.index_sql_schema.proofs.Words.{arith, Some, None, option_map, IsPermutation, IsSorted, AllByRecursion, Ordering, Less, Equal}
use Rattle.index_sql_schema.proofs.Words.{Greater, eq_by_cmp, is_eq, IsTotalOrder, IsAntisymmetric, entries, IsPermutation-map}
use Rattle.index_sql_schema.proofs.Words.{IsPermutation-refl, IsPermutation-sym, IsPermutation-cons, IsPermutation-trans}
use Rattle.index_sql_schema.proofs.Words.{IsPermutation-middle, IsAscending, ascending-filter, IsPermutation-filter, sorted_unique}
use Rattle.index_sql_schema.proofs.Words.{map_from}
use Rattle.std.specs.List.Sorted.{IsStrictlySortedBy}
use Rattle.std.specs.FinMap.{empty, len-entries, len-empty, get-entries, entries-insert}
use Rattle.std.specs.FinMap as fin
use Rattle.std.specs.FinMap.Entries.{put, by_order}
use Rattle.std.proofs.lemmas.Cmp.{on_total}
use Rattle.sqlite_keyed.proofs.ListLemmas.{ascending_from_map, ascending_weaker, ascending-map}
use Rattle.index_rules.proofs.Rising.{IsStrictlySortedBy-keys}
use Rattle.index_sql_schema.proofs.RowLemmas.{entry, is_at, AreApart, get-map_from}

put_permutation : {K X : Type 0} (R : K → K → Ordering) (k : K) (v : X) (es : List (K × X)) → fin.find R k es ≡ None
    → IsPermutation ((k, v) ∷ es) (put R k v es)
put_permutation R k v [] none = IsPermutation-refl ((k, v) ∷ [])
put_permutation R k v (e ∷ es) none = go (R k e.0) none (put_permutation R k v es)
  where
    go : (b : Ordering) → cond (is_eq b) (Some e.1) (fin.find R k es) ≡ None
        → (fin.find R k es ≡ None → IsPermutation ((k, v) ∷ es) (put R k v es))
        → IsPermutation ((k, v) ∷ e ∷ es) (by_order b ((k, v) ∷ e ∷ es) ((e.0, v) ∷ es) (e ∷ put R k v es))
    go Less f more = IsPermutation-refl ((k, v) ∷ e ∷ es)
    go Equal f more = absurd (let g = f in cc)
    go Greater f more = IsPermutation-trans _ _ _ (IsPermutation-middle ((k, v) ∷ []) e es) (IsPermutation-cons e _ _ (more f))

no_length : {A : Type 0} (es : List A) → length es ≡ 0 → es ≡ []
no_length [] e = refl
no_length (x ∷ es) e = absurd (omega arith)

no_entries : {K X : Type 0} (R : K → K → Ordering) → entries (empty {X = X} {R = R}) ≡ []
no_entries {X = X} R = no_length _ (sym (len-entries (empty {X = X} {R = R})) ∙ len-empty R X)

-- a list that strictly rises, in the words of the trees
pub ascends : {K : Type 0} (R : K → K → Ordering) (keys : List K) → IsStrictlySortedBy R keys → IsAscending (λ a b. R a b ≡ Less) keys
unfolding IsStrictlySortedBy
ascends R [] h = tt
ascends R (k ∷ keys) h = (h.0, ascends R keys h.1)

module _ {A K X : Type 0} {R : K → K → Ordering} (total : IsTotalOrder R) (exact : IsAntisymmetric R) (key : A → K) (value : A → X) where
  abbrev entry_of : A → K × X
  entry_of = entry total exact key value

  none_found : (q : K) (rows : List A) → AllByRecursion (λ b. eq_by_cmp R q (key b) ≡ false) rows
      → find (is_at total exact key value q) rows ≡ None
  none_found q [] all = refl
  none_found q (b ∷ rows) all = rw all.0 (none_found q rows all.1)

  pub entries_permutation : (rows : List A) → AreApart total exact key value rows
      → IsPermutation (map entry_of rows) (entries (map_from {R = R} key value rows))
  entries_permutation [] apart = subst (IsPermutation []) (sym (no_entries R)) (IsPermutation-refl [])
  entries_permutation (r ∷ rows) apart =
      let m = map_from {R = R} key value rows in
      let free : fin.find R (key r) (entries m) ≡ None =
      sym (get-entries m (key r)) ∙ get-map_from total exact key value rows (key r)
      ∙ ap (option_map value) (none_found (key r) rows apart.0) in
      let more = IsPermutation-cons (entry_of r) (map entry_of rows) (entries m) (entries_permutation rows apart.1) in
      subst (IsPermutation (entry_of r ∷ map entry_of rows)) (sym (entries-insert total m (key r) (value r)))
      (IsPermutation-trans _ _ _ more (put_permutation R (key r) (value r) (entries m) free))

  -- what is made of the rows that pass, listed in the order of their keys, is made of the entries that pass
  pub sorted_entries : {B : Type 0} (passes : K × X → Bool) (make : K × X → B) (key_of : B → K) → ((e : K × X) → key_of (make e) ≡ e.0)
      → (rows : List A) (listed : List B) → AreApart total exact key value rows
      → IsPermutation (map make (filter passes (map entry_of rows))) listed → IsSorted (λ a b. R (key_of a) (key_of b)) listed
      → listed ≡ map make (filter passes (entries (map_from {R = R} key value rows)))
  sorted_entries passes make key_of keyed rows listed apart same sorted =
      let m = map_from {R = R} key value rows in
      let es = filter passes (entries m) in
      let keys_rise = ascending_from_map (λ a b. R a b ≡ Less) (λ e. e.0) (entries m) (ascends R _ (IsStrictlySortedBy-keys R m)) in
      let rise = ascending_weaker _ (λ a b. R (key_of (make a)) (key_of (make b)) ≡ Less) (λ a b up. ap₂ R (keyed a) (keyed b) ∙ up) es
      (ascending-filter _ passes (entries m) keys_rise) in
      let made = IsPermutation-map make _ _ (IsPermutation-filter passes _ _ (entries_permutation rows apart)) in
      sorted_unique (λ a b. R (key_of a) (key_of b)) (on_total key_of total) (map make es) listed
      (ascending-map (λ a b. R (key_of a) (key_of b) ≡ Less) make es rise)
      (IsPermutation-trans _ _ _ (IsPermutation-sym _ _ made) same) sorted
