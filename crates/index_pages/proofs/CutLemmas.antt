-- A list, cut at the first byte that is a separator.
use Rattle.index_pages.proofs.Words.{◌≡◌, ℕ, suc, ◌+◌, ◌<◌, true, false, ◌==◌, List, [], ◌∷◌, length, get_or, refl, ap, ◌∙◌, arith, take}
use Rattle.index_pages.proofs.Words.{drop, nat_tests, byte, cut_at}
use Rattle.std.proofs.Common.{◌≢◌, zero}
use Rattle.std.specs.Prelude.{cond}
use Rattle.std.specs.List.{onto_first}
use Rattle.index_pages.specs.Accept.{are_two}

-- none of the first n bytes is c
abbrev pub Lacks : ℕ → ℕ → List ℕ → Type 0
Lacks c n xs = (i : ℕ) → i < n → get_or xs i 0 ≢ c

head_differs : (c n x : ℕ) (xs : List ℕ) → 0 < n → Lacks c n (x ∷ xs) → (x == c) ≡ false
head_differs c n x xs p h = let ne : x ≢ c = h 0 p in grind (arith, nat_tests)

Lacks-tail : (c n m x : ℕ) (xs : List ℕ) → n ≡ m + 1 → Lacks c n (x ∷ xs) → Lacks c m xs
Lacks-tail c n m x xs e h i lt = h (suc i) (omega arith)

pub cut_at-none : (c : ℕ) (xs : List ℕ) → Lacks c (length xs) xs → cut_at c xs ≡ xs ∷ []
cut_at-none c [] h = refl
cut_at-none c (x ∷ xs) h =
    rw (
      head_differs c (suc (length xs)) x xs (omega arith) h,
      cut_at-none c xs (Lacks-tail c (suc (length xs)) (length xs) x xs (omega arith) h),
    )

pub cut_at-found : (c i : ℕ) (xs : List ℕ) → i < length xs → Lacks c i xs → get_or xs i 0 ≡ c
    → cut_at c xs ≡ take i xs ∷ cut_at c (drop (suc i) xs)
cut_at-found c i [] lt h e = absurd (omega arith)
cut_at-found c zero (x ∷ xs) lt h e = let same : (x == c) ≡ true = grind (arith, nat_tests) in rw same
cut_at-found c (suc i) (x ∷ xs) lt h e =
    let short : i < length xs = omega arith in
    rw (head_differs c (suc i) x xs (omega arith) h, cut_at-found c i xs short (Lacks-tail c (suc i) i x xs (omega arith) h) e)

-- there is a first part
pub cut_at-first : (c : ℕ) (xs : List ℕ) → (part : List ℕ) × (parts : List (List ℕ)) × (cut_at c xs ≡ part ∷ parts)
cut_at-first c [] = ([], [], refl)
cut_at-first c (x ∷ xs) =
    let first = cut_at-first c xs in
    elim (x == c) as (λ b. (part : List ℕ) × (parts : List (List ℕ))
    × (cond b ([] ∷ cut_at c xs) (onto_first x (cut_at c xs)) ≡ part ∷ parts))
    [ true ↦ ([], cut_at c xs, refl) | false ↦ (x ∷ first.0, first.1, ap (onto_first x) first.2) ]

-- three parts are not two
pub are_two-three : (range a rest b last : List ℕ) → cut_at (byte "/") range ≡ a ∷ cut_at (byte "/") rest
    → cut_at (byte "/") rest ≡ b ∷ cut_at (byte "/") last
    → are_two (cut_at (byte "/") range) ≡ false
are_two-three range a rest b last first second =
    let more = cut_at-first 47 last in
    ap are_two (first ∙ ap (λ parts. a ∷ parts) (second ∙ ap (λ parts. b ∷ parts) more.2))
