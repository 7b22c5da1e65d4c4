-- Texts as keys: the test `same`, and what a map or a map from pairs has after a change.
use Rattle.index_rules.proofs.Words.{◌≡◌, Bool, true, false, cond, not, ◌&&◌, ◌⊎◌, inl, inr, refl, sym, ap, ◌∙◌, subst, List, [], ◌∷◌}
use Rattle.index_rules.proofs.Words.{Option, Some, None, is_some, map, option_map, T, eq_by_cmp, is_lt, get, insert, remove, retain_keys}
use Rattle.index_rules.proofs.Words.{contains_key, entries, entries_sorted, is_sorted, get-entries, below_all, nat_list_cmp_total}
use Rattle.index_rules.proofs.Words.{bytes_eq-Decides, is_eq-slice_cmp, exact_bytes, cases_Bool, Bytes, Map, PairMap, Pairs, same}
use Rattle.index_rules.proofs.Words.{bytes_cmp, change_values, without_name}
use Rattle.std.specs.FinMap.{get-insert, get-remove}
use Rattle.std.specs.FinMap.{get-retain_keys, get-from_sorted, entries-from_sorted}
use Rattle.std.specs.FinMap as fin
use Rattle.index_rules.proofs.OwnerLists.{same-is, pair_total, exact_pair, same_pair}

pub same-refl : (a : Bytes) → same a a ≡ true
same-refl a = (bytes_eq-Decides a a).1 refl

pub same-sym : (a b : Bytes) → same a b ≡ true → same b a ≡ true
same-sym a b h = ap (λ x. same x a) (sym (same-is a b h)) ∙ same-refl a

-- a key is the one, or the test is false
pub cases_same : (q k : Bytes) → (q ≡ k) ⊎ (same q k ≡ false)
cases_same q k = elim (cases_Bool (same q k)) [ inl h ↦ inl (same-is q k h) | inr h ↦ inr h ]

-- if two truths follow from each other, they are equal
pub same_truth : (a b : Bool) → (a ≡ true → b ≡ true) → (b ≡ true → a ≡ true) → a ≡ b
same_truth true b f g = sym (f refl)
same_truth false true f g = g refl
same_truth false false f g = refl

-- ---- maps

-- after an entry was put, after one was taken away, after those whose keys fail a test went
module _ {X : Type 0} (m : Map X) where
  pub get-put : (k : Bytes) (v : X) (q : Bytes) → get (insert m k v) q ≡ cond (same q k) (Some v) (get m q)
  get-put k v q = get-insert nat_list_cmp_total m k v q ∙ ap (λ b. cond b (Some v) (get m q)) (is_eq-slice_cmp q k)

  pub get-without : (k q : Bytes) → get (remove m k) q ≡ cond (same q k) None (get m q)
  get-without k q = get-remove nat_list_cmp_total m k q ∙ ap (λ b. cond b None (get m q)) (is_eq-slice_cmp q k)

  pub get-kept : (p : Bytes → Bool) (q : Bytes) → get (retain_keys m p) q ≡ cond (p q) (get m q) None
  get-kept p q = get-retain_keys m p q (λ x t. ap p (sym (exact_bytes q x t)))

-- after each value was changed
module _ {X : Type 0} (change : X → X) where
  abbrev pub changed : List (Bytes × X) → List (Bytes × X)
  changed es = map (λ e. (e.0, change e.1)) es

  below_all-changed : (k : Bytes) (es : List (Bytes × X)) → below_all bytes_cmp k (changed es) ≡ below_all bytes_cmp k es
  below_all-changed k [] = refl
  below_all-changed k (e ∷ es) = λ i. is_lt (bytes_cmp k e.0) && below_all-changed k es i

  is_sorted-changed : (es : List (Bytes × X)) → is_sorted bytes_cmp (changed es) ≡ is_sorted bytes_cmp es
  is_sorted-changed [] = refl
  is_sorted-changed (e ∷ es) = λ i. below_all-changed e.0 es i && is_sorted-changed es i

  find-changed : (q : Bytes) (es : List (Bytes × X)) → fin.find bytes_cmp q (changed es) ≡ option_map change (fin.find bytes_cmp q es)
  find-changed q [] = refl
  find-changed q (e ∷ es) =
      elim (eq_by_cmp bytes_cmp q e.0) as (λ b. cond b (Some (change e.1)) (fin.find bytes_cmp q (changed es))
      ≡ option_map change (cond b (Some e.1) (fin.find bytes_cmp q es))) [
        | true ↦ refl
        | false ↦ find-changed q es
      ]

  sorted_changed : (m : Map X) → T (is_sorted bytes_cmp (changed (entries m)))
  sorted_changed m = subst T (sym (is_sorted-changed (entries m))) (entries_sorted m)

  pub entries-change_values : (m : Map X) → entries (change_values change m) ≡ changed (entries m)
  entries-change_values m = entries-from_sorted bytes_cmp (changed (entries m)) (sorted_changed m)

  pub get-change_values : (m : Map X) (q : Bytes) → get (change_values change m) q ≡ option_map change (get m q)
  get-change_values m q =
      get-from_sorted bytes_cmp (changed (entries m)) q (sorted_changed m)
      ∙ find-changed q (entries m)
      ∙ ap (option_map change) (sym (get-entries m q))

-- ---- maps from pairs

-- after an entry was put, after one was taken away, after those whose keys fail a test went
module _ {X : Type 0} (m : PairMap X) where
  pub get-put_pair : (k l : Bytes) (v : X) (n u : Bytes)
      → get (insert m (k, l) v) (n, u) ≡ cond (same n k && same u l) (Some v) (get m (n, u))
  get-put_pair k l v n u = get-insert pair_total m (k, l) v (n, u) ∙ ap (λ b. cond b (Some v) (get m (n, u))) (same_pair (n, u) (k, l))

  pub get-without_pair : (k l n u : Bytes) → get (remove m (k, l)) (n, u) ≡ cond (same n k && same u l) None (get m (n, u))
  get-without_pair k l n u = get-remove pair_total m (k, l) (n, u) ∙ ap (λ b. cond b None (get m (n, u))) (same_pair (n, u) (k, l))

  pub get-kept_pair : (p : Bytes × Bytes → Bool) (n u : Bytes) → get (retain_keys m p) (n, u) ≡ cond (p (n, u)) (get m (n, u)) None
  get-kept_pair p n u = get-retain_keys m p (n, u) (λ x t. ap p (sym (exact_pair (n, u) x t)))

-- what stands at a name goes, and the rest stays
pub get-without_name : {X : Type 0} (k : Bytes) (m : PairMap X) (n u : Bytes)
    → get (without_name k m) (n, u) ≡ cond (not (same k n)) (get m (n, u)) None
get-without_name k m n u = get-kept_pair m (λ pair. not (same k pair.0)) n u

pub get-without_name_other : {X : Type 0} (m : PairMap X) (k n u : Bytes) → same k n ≡ false → get (without_name k m) (n, u) ≡ get m (n, u)
get-without_name_other m k n u other = get-without_name k m n u ∙ ap (λ b. cond (not b) (get m (n, u)) None) other

-- ---- sets of pairs

is_some-cond : (b : Bool) (x : Option (Unit {0})) → is_some (cond b (Some tt) x) ≡ cond b true (is_some x)
is_some-cond true x = refl
is_some-cond false x = refl

is_some-cond_none : (b : Bool) (x : Option (Unit {0})) → is_some (cond b None x) ≡ cond b false (is_some x)
is_some-cond_none true x = refl
is_some-cond_none false x = refl

is_some-cond_some : (b : Bool) (x : Option (Unit {0})) → is_some (cond b x None) ≡ cond b (is_some x) false
is_some-cond_some true x = refl
is_some-cond_some false x = refl

-- after a pair was added, after one was taken away, after those with one first part went
pub has-put : (m : Pairs) (k l n u : Bytes) → contains_key (insert m (k, l) tt) (n, u)
    ≡ cond (same n k && same u l) true (contains_key m (n, u))
has-put m k l n u = ap is_some (get-put_pair m k l tt n u) ∙ is_some-cond _ _

pub has-without : (m : Pairs) (k l n u : Bytes)
    → contains_key (remove m (k, l)) (n, u) ≡ cond (same n k && same u l) false (contains_key m (n, u))
has-without m k l n u = ap is_some (get-without_pair m k l n u) ∙ is_some-cond_none _ _

pub has-cleared : (m : Pairs) (k n u : Bytes) → contains_key (without_name k m) (n, u) ≡ cond (not (same k n)) (contains_key m (n, u)) false
has-cleared m k n u = ap is_some (get-without_name k m n u) ∙ is_some-cond_some _ _
