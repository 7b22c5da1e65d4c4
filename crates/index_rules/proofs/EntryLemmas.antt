-- Entries of maps that pass a test, and lists that a test passes whole.
use Rattle.index_rules.proofs.Words.{◌≡◌, Bool, true, false, cond, not, ◌&&◌, ◌||◌, inl, inr, refl, sym, ap, ◌∙◌, List, [], ◌∷◌, T, Some}
use Rattle.index_rules.proofs.Words.{None, find, list_any, list_all, eq_by_cmp, is_eq, is_lt, Ordering, Less, Equal, Greater, get, entries}
use Rattle.index_rules.proofs.Words.{entries_sorted, keys, contains_key, contains_key-keys, get-entries, is_sorted, below_all}
use Rattle.index_rules.proofs.Words.{is_eq-slice_cmp, cases_Bool, and_parts, or_cases, or_left, or_right, and_from, false≢true, Bytes, Map}
use Rattle.index_rules.proofs.Words.{same, bytes_cmp, pair_cmp, Tables}
use Rattle.std.specs.FinMap as fin
use Rattle.index_rules.proofs.OwnerLists.{same-is, same_pair}
use Rattle.index_rules.proofs.KeyLemmas.{same-refl, same-sym}

has_first : (x : Bytes) (xs : List Bytes) → list_any (same x) (x ∷ xs) ≡ true
has_first x xs = or_left _ _ (same-refl x)

pub list_all-at : (p : Bytes → Bool) (xs : List Bytes) (x : Bytes) → list_all p xs ≡ true → list_any (same x) xs ≡ true → p x ≡ true
list_all-at p [] x all h = absurd (false≢true h)
list_all-at p (y ∷ xs) x all h = elim (or_cases _ _ h) [
  | inl e ↦ ap p (same-is x y e) ∙ (and_parts _ _ all).0
  | inr e ↦ list_all-at p xs x (and_parts _ _ all).1 e
]

pub list_all-from : (p : Bytes → Bool) (xs : List Bytes) → ((x : Bytes) → list_any (same x) xs ≡ true → p x ≡ true) → list_all p xs ≡ true
list_all-from p [] each = refl
list_all-from p (y ∷ xs) each = and_from _ _ (each y (has_first y xs)) (list_all-from p xs (λ x h. each x (or_right _ _ h)))

pub find-passes : {A : Type 0} (p : A → Bool) (xs : List A) (x : A) → find p xs ≡ Some x → p x ≡ true
find-passes p [] x e = cc
find-passes p (y ∷ xs) x e = elim (p y) as (λ b. p y ≡ b → cond b (Some y) (find p xs) ≡ Some x → p x ≡ true) [
  | true ↦ λ t e. let is : y ≡ x = cc in ap p (sym is) ∙ t
  | false ↦ λ _ e. find-passes p xs x e
] refl e

-- ---- entries of a map

pub both_hold : (a b : Bool) → T (a && b) → T a × T b
both_hold true b p = (tt, p)
both_hold false b p = absurd p

not_both : (o : Ordering) → T (is_lt o) → is_eq o ≡ true → ⊥
not_both Less p e = false≢true e
not_both Equal p e = absurd p
not_both Greater p e = absurd p

above_is_other : (k q : Bytes) → T (is_lt (bytes_cmp k q)) → same q k ≡ false
above_is_other k q low = elim (cases_Bool (same q k)) [
  | inl e ↦ absurd (not_both (bytes_cmp k q) low (is_eq-slice_cmp k q ∙ same-sym q k e))
  | inr e ↦ e
]

module _ {X : Type 0} where
  -- a key below all is none of them
  below_is_other : (k : Bytes) (es : List (Bytes × X)) (test : Bytes × X → Bool) (e : Bytes × X) → T (below_all bytes_cmp k es)
      → find test es ≡ Some e → same e.0 k ≡ false
  below_is_other k [] test e low found = cc
  below_is_other k (x ∷ es) test e low found = elim (test x) as (λ b. cond b (Some x) (find test es) ≡ Some e → same e.0 k ≡ false) [
    | true ↦ λ found. let is : x ≡ e = cc in ap (λ (y : Bytes × X). same y.0 k) (sym is) ∙ above_is_other k x.0 (both_hold _ _ low).0
    | false ↦ λ found. below_is_other k es test e (both_hold _ _ low).1 found
  ] found

  found_at : (es : List (Bytes × X)) (test : Bytes × X → Bool) (e : Bytes × X) → T (is_sorted bytes_cmp es) → find test es ≡ Some e
      → fin.find bytes_cmp e.0 es ≡ Some e.1
  found_at [] test e sorted found = cc
  found_at (x ∷ es) test e sorted found = elim (test x) as (λ b. cond b (Some x) (find test es) ≡ Some e
      → fin.find bytes_cmp e.0 (x ∷ es) ≡ Some e.1) [
        | true ↦ λ found. let is : x ≡ e = cc in
            (λ i. cond (eq_by_cmp bytes_cmp (sym is i).0 x.0) (Some x.1) (fin.find bytes_cmp (sym is i).0 es))
            ∙ ap (λ b. cond b (Some x.1) (fin.find bytes_cmp x.0 es)) (is_eq-slice_cmp x.0 x.0 ∙ same-refl x.0)
            ∙ ap (λ (y : Bytes × X). Some y.1) is
        | false ↦ λ found.
            ap (λ b. cond b (Some x.1) (fin.find bytes_cmp e.0 es))
            (is_eq-slice_cmp e.0 x.0 ∙ below_is_other x.0 es test e (both_hold _ _ sorted).0 found)
            ∙ found_at es test e (both_hold _ _ sorted).1 found
      ] found

  -- an entry that passes is found by its key
  pub get-found : (m : Map X) (test : Bytes × X → Bool) (e : Bytes × X) → find test (entries m) ≡ Some e → get m e.0 ≡ Some e.1
  get-found m test e found = get-entries m e.0 ∙ found_at (entries m) test e (entries_sorted m) found

  missed_at : (es : List (Bytes × X)) (test : Bytes × X → Bool) (k : Bytes) (v : X) → find test es ≡ None → fin.find bytes_cmp k es ≡ Some v
      → test (k, v) ≡ false
  missed_at [] test k v missed found = cc
  missed_at (x ∷ es) test k v missed found = elim (test x) as (λ b. test x ≡ b → cond b (Some x) (find test es) ≡ None
      → test (k, v) ≡ false) [
        | true ↦ λ t missed. cc
        | false ↦ λ t missed. elim (eq_by_cmp bytes_cmp k x.0) as (λ b. eq_by_cmp bytes_cmp k x.0 ≡ b
            → cond b (Some x.1) (fin.find bytes_cmp k es) ≡ Some v → test (k, v) ≡ false) [
              | true ↦ λ tied found.
                  let keys : k ≡ x.0 = same-is k x.0 (sym (is_eq-slice_cmp k x.0) ∙ tied) in
                  let values : x.1 ≡ v = cc in
                  (λ i. test (keys i, sym values i)) ∙ t
              | false ↦ λ _ found. missed_at es test k v missed found
            ] refl found
      ] refl missed

  -- if no entry passes, none that is found by its key does
  pub get-missed : (m : Map X) (test : Bytes × X → Bool) (k : Bytes) (v : X) → find test (entries m) ≡ None → get m k ≡ Some v
      → test (k, v) ≡ false
  get-missed m test k v missed found = missed_at (entries m) test k v missed (sym (get-entries m k) ∙ found)

-- ---- the pairs with one first part

module _ (p : Bytes × Bytes → Bool) where
  all_pairs_at : (ks : List (Bytes × Bytes)) (n v : Bytes) → list_all p ks ≡ true → list_any (eq_by_cmp pair_cmp (n, v)) ks ≡ true
      → p (n, v) ≡ true
  all_pairs_at [] n v all h = absurd (false≢true h)
  all_pairs_at (k ∷ ks) n v all h = elim (or_cases _ _ h) [
    | inl e ↦
        let parts = and_parts _ _ (sym (same_pair (n, v) k) ∙ e) in
        (λ i. p (same-is n k.0 parts.0 i, same-is v k.1 parts.1 i)) ∙ (and_parts _ _ all).0
    | inr e ↦ all_pairs_at ks n v (and_parts _ _ all).1 e
  ]

  all_pairs_from : (ks : List (Bytes × Bytes)) → ((n v : Bytes) → list_any (eq_by_cmp pair_cmp (n, v)) ks ≡ true → p (n, v) ≡ true)
      → list_all p ks ≡ true
  all_pairs_from [] each = refl
  all_pairs_from (k ∷ ks) each = and_from _ _
      (each k.0 k.1 (or_left _ _ (same_pair (k.0, k.1) k ∙ and_from _ _ (same-refl k.0) (same-refl k.1))))
      (all_pairs_from ks (λ n v h. each n v (or_right _ _ h)))

-- if all pairs with a first part have this second, each owner is it; and the other way round
pub each_owner : (T : Tables) (n u : Bytes) → list_all (λ pair. not (same n pair.0) || same u pair.1) (keys T.owners) ≡ true
    → (v : Bytes) → contains_key T.owners (n, v) ≡ true → same u v ≡ true
each_owner T n u all v there =
    ap (λ b. not b || same u v) (sym (same-refl n))
    ∙ all_pairs_at (λ pair. not (same n pair.0) || same u pair.1) (keys T.owners) n v all (sym (contains_key-keys T.owners (n, v)) ∙ there)

pub each_pair : (T : Tables) (n u : Bytes) → ((v : Bytes) → contains_key T.owners (n, v) ≡ true → same u v ≡ true)
    → list_all (λ pair. not (same n pair.0) || same u pair.1) (keys T.owners) ≡ true
each_pair T n u each = all_pairs_from (λ pair. not (same n pair.0) || same u pair.1) (keys T.owners)
    (λ m v h. elim (cases_Bool (same n m)) [
      | inl e ↦ or_right _ _ (each v (ap (λ x. contains_key T.owners (x, v)) (same-is n m e) ∙ contains_key-keys T.owners (m, v) ∙ h))
      | inr e ↦ or_left _ _ (ap not e)
    ])
