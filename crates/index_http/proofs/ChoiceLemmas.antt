-- The fields of a request choose one type of a page at most.
use Rattle.index_http.proofs.Words.{◌≡◌, ◌∙◌, ℕ, zero, suc, ◌≤◌, ◌<◌, ◌⊎◌, inl, inr, List, [], ◌∷◌, ◌++◌, Bor, Option, Some, None, refl}
use Rattle.index_http.proofs.Words.{sym, ap, subst, arith, flat_map, Served, Bytes, Field}
use Rattle.std.proofs.Common.{map}
use Rattle.std.specs.List.{AllByRecursion}
use Rattle.std.specs.Str.{byte}
use Rattle.index_pages.specs.declared.served.Served.TheVariants.{PlainHtml, Html, Json}
use Rattle.index_pages.specs.declared.tally.Claim.{Claim}
use Rattle.index_pages.specs.Accept.{IsAtMost, IsChosen, IsFirstGreatest, IsQuality, Item, SomeOf, claim, cut_at, item_of, items_of}
use Rattle.index_pages.specs.Accept.{no_claim, or_anything, rank}
use Rattle.index_http.specs.Exchanges.{IsAccepted}

-- ---- the quality of a type

-- the items in the bytes of a value
items_in : Bytes → List Item
items_in bytes = map item_of (cut_at (byte ",") bytes)

by_bytes : (values : List (Bor Bytes)) → items_of values ≡ flat_map items_in (map (λ (value : Bor Bytes). value.now) values)
unfolding items_of items_in
by_bytes [] = refl
by_bytes (value ∷ values) = ap (λ (rest : List Item). map item_of (cut_at (byte ",") value.now) ++ rest) (by_bytes values)

least_of : (specificity quality : ℕ) → (0 < specificity) ⊎ ((0 ≡ specificity) × (0 ≤ quality))
least_of zero quality = inr (refl, omega arith)
least_of (suc n) quality = inl (omega arith)

reached_below : (served : Served) (items : List Item) (top above : Claim) → SomeOf (λ (item : Item). claim served item ≡ top) items
    → AllByRecursion (λ (item : Item). IsAtMost (claim served item) above) items → IsAtMost top above
reached_below served [] top above some all = absurd some
reached_below served (item ∷ items) top above (inl is) all = subst (λ (it : Claim). IsAtMost it above) is all.0
reached_below served (item ∷ items) top above (inr some) all = reached_below served items top above some all.1

below : (served : Served) (items : List Item) (top above : Claim)
    → (top ≡ no_claim) ⊎ SomeOf (λ (item : Item). claim served item ≡ top) items
    → AllByRecursion (λ (item : Item). IsAtMost (claim served item) above) items → IsAtMost top above
below served items top above (inl is) all = subst (λ (it : Claim). IsAtMost it above) (sym is) (least_of above.specificity above.quality)
below served items top above (inr some) all = reached_below served items top above some all

both_below : (a b : Claim) → IsAtMost a b → IsAtMost b a → a.quality ≡ b.quality
both_below a b (inl p) (inl q) = absurd (omega (arith, p, q))
both_below a b (inl p) (inr q) = absurd (omega (arith, p, q.0))
both_below a b (inr p) (inl q) = absurd (omega (arith, p.0, q))
both_below a b (inr p) (inr q) = omega (arith, p.1, q.1)

one_quality : (items : List Item) (served : Served) (one other : ℕ) → IsQuality items served one → IsQuality items served other
    → one ≡ other
one_quality items served one other is is' =
    is.is ∙ both_below is.top is'.top (below served items is.top is'.top is.reached is'.none_above)
    (below served items is'.top is.top is'.reached is.none_above) ∙ sym is'.is

-- ---- the choice

same_rank : (a b : Served) → (¬ (rank a < rank b)) → (¬ (rank b < rank a)) → a ≡ b
same_rank PlainHtml PlainHtml first second = refl
same_rank PlainHtml Html first second = absurd (first (omega arith))
same_rank PlainHtml Json first second = absurd (first (omega arith))
same_rank Html PlainHtml first second = absurd (second (omega arith))
same_rank Html Html first second = refl
same_rank Html Json first second = absurd (first (omega arith))
same_rank Json PlainHtml first second = absurd (second (omega arith))
same_rank Json Html first second = absurd (second (omega arith))
same_rank Json Json first second = refl

one_first : (quality : Served → ℕ) (chosen other : Option Served) → IsFirstGreatest quality chosen → IsFirstGreatest quality other
    → chosen ≡ other
one_first quality None None first second = refl
one_first quality None (Some b) none (some, most) = let zero_of_b = none b in absurd (omega (arith, zero_of_b, some))
one_first quality (Some a) None (some, most) none = let zero_of_a = none a in absurd (omega (arith, zero_of_a, some))
one_first quality (Some a) (Some b) (some, most) (some', most') =
    let at_b = most b in
    let at_a = most' a in
    let at_most = at_b.0 in
    let at_most' = at_a.0 in
    ap (λ (it : Served). Some it) (same_rank a b
    (λ before. let less = at_a.1 before in absurd (omega (arith, less, at_most)))
    (λ before. let less = at_b.1 before in absurd (omega (arith, less, at_most'))))

one_choice : (values others : List (Bor Bytes)) (chosen other : Option Served) → items_of values ≡ items_of others
    → IsChosen values chosen → IsChosen others other → chosen ≡ other
one_choice values others chosen other same (quality, each, first) (quality', each', first') =
    let is : quality' ≡ quality = λ i served. one_quality (or_anything (items_of others)) served (quality' served) (quality served)
    (each' served)
    (subst (λ (items : List Item). IsQuality (or_anything items) served (quality served)) same (each served)) i in
    one_first quality chosen other first (subst (λ (it : Served → ℕ). IsFirstGreatest it other) is first')

pub one_type : (fields : List Field) (chosen other : Option Served) → IsAccepted fields chosen → IsAccepted fields other → chosen ≡ other
one_type fields chosen other (values, are, is) (values', are', is') =
    one_choice values values' chosen other (by_bytes values ∙ ap (flat_map items_in) (are ∙ sym are') ∙ sym (by_bytes values')) is is'
