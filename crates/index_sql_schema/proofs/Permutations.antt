-- Lists in another order.
use Rattle.index_sql_schema.proofs.Words.{◌≡◌, ◌≤◌, Bool, true, false, cond, List, [], ◌∷◌, filter, length, refl, ap, arith, All}
use Rattle.index_sql_schema.proofs.Words.{IsPermutation, AllByRecursion, All-permutation, IsAscending, all_weaker, along_permutation}
use Rattle.std.proofs.lemmas.List.Sorted.{length_permutation}
use Rattle.sqlite_keyed.proofs.ListLemmas.{filter_none}

-- a test that passes at most one of two elements passes at most one element
pub one_passes : {A : Type 0} (R : A → A → Type 0) (p : A → Bool) (xs : List A) → ((a b : A) → R a b → p a ≡ true → p b ≡ false)
    → IsAscending R xs → length (filter p xs) ≤ 1
one_passes R p [] apart up = omega arith
one_passes R p (x ∷ xs) apart up = go (p x) refl (one_passes R p xs apart up.1)
  where
    go : (b : Bool) → p x ≡ b → length (filter p xs) ≤ 1 → length (cond b (x ∷ filter p xs) (filter p xs)) ≤ 1
    go true e more =
        let none : filter p xs ≡ [] = filter_none p xs (all_weaker _ (λ y. p y ≡ false) (λ y h. apart x y h e) xs up.0) in
        rw none (omega arith)
    go false e more = more

alone : {A : Type 0} (x : A) (ys : List A) → length ys ≡ 1 → All (λ y. y ≡ x) ys → ys ≡ x ∷ []
alone x [] len all = absurd (omega arith)
alone x (y ∷ []) len all = ap (λ z. z ∷ []) (all 0 y (omega arith))
alone x (y ∷ z ∷ more) len all = absurd (omega arith)

single : {A : Type 0} (x : A) (ys : List A) → IsPermutation (x ∷ []) ys → ys ≡ x ∷ []
single x ys h = alone x ys (length_permutation (x ∷ []) ys h)
    (All-permutation (λ y. y ≡ x) (x ∷ []) ys h (λ i d low. let first : i ≡ 0 = omega arith in rw first))

-- a list of at most one element has no other order
pub short_permutation : {A : Type 0} (xs ys : List A) → length xs ≤ 1 → IsPermutation xs ys → ys ≡ xs
short_permutation [] [] short h = refl
short_permutation [] (y ∷ ys) short h = absurd (let same = length_permutation [] (y ∷ ys) h in cc)
short_permutation (x ∷ []) ys short h = single x ys h
short_permutation (x ∷ z ∷ more) ys short h = absurd (omega arith)

-- what holds of all, or of any two, holds of them in any order
module _ {A : Type 0} (P : A → Type 0) where
  pub all_permutation : (xs ys : List A) → IsPermutation xs ys → AllByRecursion P xs → AllByRecursion P ys
  all_permutation = along_permutation (λ xs ys. AllByRecursion P xs → AllByRecursion P ys)
      (λ xs h. h)
      (λ x xs ys more h. (h.0, more h.1))
      (λ x y xs h. (h.1.0, (h.0, h.1.1)))
      (λ xs ys zs f g h. g (f h))

module _ {A : Type 0} (R : A → A → Type 0) (flip : (a b : A) → R a b → R b a) where
  pub ascending_permutation : (xs ys : List A) → IsPermutation xs ys → IsAscending R xs → IsAscending R ys
  ascending_permutation xs ys p = (along_permutation
      (λ xs ys. (IsAscending R xs → IsAscending R ys) × ((a : A) → AllByRecursion (R a) xs → AllByRecursion (R a) ys))
      (λ xs. (λ h. h, λ a h. h))
      (λ x xs ys more. (λ h. (more.1 x h.0, more.0 h.1), λ a h. (h.0, more.1 a h.1)))
      (λ x y xs. (λ h. ((flip x y h.0.0, h.1.0), (h.0.1, h.1.1)), λ a h. (h.1.0, (h.0, h.1.1))))
      (λ xs ys zs f g. (λ h. g.0 (f.0 h), λ a h. g.1 a (f.1 a h)))
      xs ys p).0
