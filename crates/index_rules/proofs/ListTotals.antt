-- A sum and a test over the entries of a map, taken over a list that has each of its keys.
use Rattle.index_rules.proofs.Words.{◌≡◌, ℕ, ◌+◌, Bool, true, false, cond, ◌||◌, inl, inr, refl, sym, ap, ◌∙◌, List, [], ◌∷◌, Some, None}
use Rattle.index_rules.proofs.Words.{is_some, arith, sum_by, find, option_map_or, list_any, get, insert, remove, entries, same_map}
use Rattle.index_rules.proofs.Words.{false≢true, or_left, or_right, or_cases, nat_list_cmp_total, exact_bytes, sum_by-cons, Bytes, Map}
use Rattle.std.proofs.lemmas.Bool.{or_from}
use Rattle.index_rules.proofs.OwnerLists.{same-is}
use Rattle.index_rules.proofs.KeyLemmas.{same-refl, cases_same}
use Rattle.index_rules.proofs.PutLemmas.{get-put_here, get-put_other, get-without_here, get-without_other}
use Rattle.index_rules.proofs.EntryLemmas.{get-found, get-missed, find-passes}
use Rattle.index_rules.proofs.Totals.{total_of, total-insert, total-zero}
use Rattle.index_rules.proofs.PastWords.{has, Apart}

-- the list has each key of the map
abbrev pub HasKeys : {X : Type 0} → Map X → List Bytes → Type 0
HasKeys m fs = (k : Bytes) → is_some (get m k) ≡ true → has fs k ≡ true

-- ---- lists of texts

-- weights that agree on the list have the same sum
sum_by-same : (w v : Bytes → ℕ) (fs : List Bytes) → ((f : Bytes) → has fs f ≡ true → w f ≡ v f) → sum_by w fs ≡ sum_by v fs
sum_by-same w v [] each = refl
sum_by-same w v (f ∷ fs) each =
    sum_by-cons w f fs
    ∙ (λ i. each f (or_left _ _ (same-refl f)) i + sum_by-same w v fs (λ g there. each g (or_right _ _ there)) i)
    ∙ sym (sum_by-cons v f fs)

list_any-none : (p : Bytes → Bool) (fs : List Bytes) → ((f : Bytes) → p f ≡ false) → list_any p fs ≡ false
list_any-none p [] each = refl
list_any-none p (f ∷ fs) each = or_from _ _ (each f) (list_any-none p fs each)

list_any-at : (p : Bytes → Bool) (fs : List Bytes) (f : Bytes) → has fs f ≡ true → p f ≡ true → list_any p fs ≡ true
list_any-at p [] f there passes = absurd (false≢true there)
list_any-at p (g ∷ fs) f there passes = elim (or_cases _ _ there) [
  | inl here ↦ or_left _ _ (ap p (sym (same-is f g here)) ∙ passes)
  | inr later ↦ or_right _ _ (list_any-at p fs f later passes)
]

is_some-find : {A : Type 0} (test : A → Bool) (xs : List A) → is_some (find test xs) ≡ list_any test xs
is_some-find test [] = refl
is_some-find test (x ∷ xs) = elim (test x) as (λ b. is_some (cond b (Some x) (find test xs)) ≡ (b || list_any test xs)) [
  | true ↦ refl
  | false ↦ is_some-find test xs
]

-- ---- an entry that is taken away

module _ {X : Type 0} (m : Map X) (k : Bytes) where
  remove_nothing : get m k ≡ None → remove m k ≡ m
  remove_nothing none = same_map nat_list_cmp_total exact_bytes (remove m k) m (λ q. elim (cases_same q k) [
    | inl is ↦ ap (get (remove m k)) is ∙ get-without_here m k ∙ sym (ap (get m) is ∙ none)
    | inr other ↦ get-without_other m k q other
  ])

  -- an entry that is put back where it was taken away
  put_back : (v : X) → get m k ≡ Some v → insert (remove m k) k v ≡ m
  put_back v there = same_map nat_list_cmp_total exact_bytes (insert (remove m k) k v) m (λ q. elim (cases_same q k) [
    | inl is ↦ ap (get (insert (remove m k) k v)) is ∙ get-put_here (remove m k) k v ∙ sym (ap (get m) is ∙ there)
    | inr other ↦ get-put_other (remove m k) k v q other ∙ get-without_other m k q other
  ])

-- ---- a sum

module _ {X : Type 0} (weight : X → ℕ) where
  -- an entry that is taken away takes its weight along
  pub total-remove : (m : Map X) (k : Bytes) → total_of weight (entries (remove m k)) + option_map_or weight (get m k) 0
      ≡ total_of weight (entries m)
  total-remove m k = elim (get m k) as (λ o. get m k ≡ o
      → total_of weight (entries (remove m k)) + option_map_or weight o 0 ≡ total_of weight (entries m)) [
        | None ↦ λ none. omega (arith, ap (λ n. total_of weight (entries n)) (remove_nothing m k none))
        | Some v ↦ λ there.
            let gone : option_map_or weight (get (remove m k) k) 0 ≡ 0 = ap (λ o. option_map_or weight o 0) (get-without_here m k) in
            omega (arith, total-insert weight (remove m k) k v, gone, ap (λ n. total_of weight (entries n)) (put_back m k v there))
      ] refl

  -- the entries weigh what is found at the keys of a list that has each key, and each of its own once
  pub total-listed : (m : Map X) (fs : List Bytes) → Apart fs → HasKeys m fs
      → sum_by (λ f. option_map_or weight (get m f) 0) fs ≡ total_of weight (entries m)
  total-listed m [] apart keys = sym (total-zero weight m (λ k v there. absurd (false≢true (keys k (ap is_some there)))))
  total-listed m (f ∷ fs) apart keys =
      let rest = total-listed (remove m f) fs apart.1 others in
      omega (arith, sum_by-cons (λ g. option_map_or weight (get m g) 0) f fs, sum_by-same _ _ fs unmoved, rest, total-remove m f)
    where
      others : HasKeys (remove m f) fs
      others k there = elim (cases_same k f) [
        | inl is ↦ absurd (false≢true (ap is_some (sym (ap (get (remove m f)) is ∙ get-without_here m f)) ∙ there))
        | inr other ↦ elim (or_cases _ _ (keys k (ap is_some (sym (get-without_other m f k other)) ∙ there))) [
          | inl here ↦ absurd (false≢true (sym other ∙ here))
          | inr later ↦ later
        ]
      ]

      unmoved : (g : Bytes) → has fs g ≡ true → option_map_or weight (get m g) 0 ≡ option_map_or weight (get (remove m f) g) 0
      unmoved g there = elim (cases_same g f) [
        | inl is ↦ absurd (false≢true (sym apart.0 ∙ ap (has fs) (sym is) ∙ there))
        | inr other ↦ ap (λ o. option_map_or weight o 0) (sym (get-without_other m f g other))
      ]

-- ---- a test

module _ {X : Type 0} (test : X → Bool) where
  -- an entry passes exactly if what is found at a key of a list that has each key does
  pub any-listed : (m : Map X) (fs : List Bytes) → HasKeys m fs
      → list_any (λ e. test e.1) (entries m) ≡ list_any (λ f. option_map_or test (get m f) false) fs
  any-listed m fs keys =
      sym (is_some-find passes (entries m))
      ∙ elim (find passes (entries m)) as (λ o. find passes (entries m) ≡ o
      → is_some o ≡ list_any (λ f. option_map_or test (get m f) false) fs) [
        | None ↦ λ missed. sym (list_any-none _ fs (none_at missed))
        | Some e ↦ λ found.
            let there : get m e.0 ≡ Some e.1 = get-found m passes e found in
            sym (list_any-at _ fs e.0 (keys e.0 (ap is_some there))
            (ap (λ o. option_map_or test o false) there ∙ find-passes passes (entries m) e found))
      ] refl
    where
      passes : Bytes × X → Bool
      passes e = test e.1

      none_at : find passes (entries m) ≡ None → (f : Bytes) → option_map_or test (get m f) false ≡ false
      none_at missed f = elim (get m f) as (λ o. get m f ≡ o → option_map_or test o false ≡ false) [
        | None ↦ λ _. refl
        | Some v ↦ λ there. get-missed m passes f v missed there
      ] refl
