-- The best claims, item by item, are the greatest ones.
use Rattle.index_pages.proofs.Words.{◌≡◌, ℕ, suc, ◌<◌, inl, inr, Bool, true, false, ◌||◌, List, [], ◌∷◌, ◌++◌, length, get_or, refl, sym}
use Rattle.index_pages.proofs.Words.{ap, ◌∙◌, arith, drop, map, Bor, Option, Some, None, cond, nat_tests, option_map_or, byte, list_any}
use Rattle.index_pages.proofs.Words.{AllByRecursion, item_of, items_of, cut_at, after, after_all, items_left, no_tally}
use Rattle.std.proofs.Common.{◌⊎◌}
use Rattle.std.proofs.Math.Seq.{drop-cons}
use Rattle.index_pages.specs.declared.served.Served.{Served}
use Rattle.index_pages.specs.declared.served.Served.TheVariants.{PlainHtml, Html, Json}
use Rattle.index_pages.specs.declared.tally.Claim.{Claim}
use Rattle.index_pages.specs.declared.tally.Tally.{Tally}
use Rattle.index_pages.specs.Accept.{Item, is_readable, no_claim, claim, IsAtMost, SomeOf, IsQuality}
use Rattle.index_pages.specs.Accept.{IsFirstGreatest, anything, or_anything, names, names_all_beside, specificity}
use Rattle.index_pages.specs.Tally.{is_above, better, best_from, quality_on}

-- ---- the items

pub after_all-append : (t : Tally) (xs ys : List Item) → after_all t (xs ++ ys) ≡ after_all (after_all t xs) ys
unfolding after_all
after_all-append t [] ys = refl
after_all-append t (x ∷ xs) ys = after_all-append (after t x) xs ys

pub items_left-map : (left : Option (Bor (List ℕ)))
    → map item_of (option_map_or (λ rest. cut_at (byte ",") rest.now) left []) ≡ items_left left
items_left-map None = refl
items_left-map (Some rest) = refl

-- the first item of a value, and those that are left
pub after_all-cut : (t : Tally) (rest item : List ℕ) (left : Option (Bor (List ℕ)))
    → cut_at (byte ",") rest ≡ item ∷ option_map_or (λ rest. cut_at (byte ",") rest.now) left []
    → after_all t (map item_of (cut_at (byte ",") rest)) ≡ after_all (after t (item_of item)) (items_left left)
unfolding after_all
after_all-cut t rest item left e =
    ap (λ parts. after_all t (map item_of parts)) e ∙ ap (after_all (after t (item_of item))) (items_left-map left)

-- the items of a value, and those of the values after it
pub items_of-drop : (values : List (Bor (List ℕ))) (i : ℕ) (d : Bor (List ℕ)) → i < length values
    → items_of (drop i values) ≡ map item_of (cut_at (byte ",") (get_or values i d).now) ++ items_of (drop (suc i) values)
unfolding items_of
items_of-drop values i d lt = ap items_of (drop-cons values i d lt)

-- ---- what a tally holds

or-false : (b : Bool) → b ≡ (b || false)
or-false true = refl
or-false false = refl

or-assoc : (a b c : Bool) → ((a || b) || c) ≡ (a || (b || c))
or-assoc true b c = refl
or-assoc false b c = refl

pub readable-after_all : (t : Tally) (xs : List Item) → (after_all t xs).is_readable ≡ (t.is_readable || list_any is_readable xs)
unfolding after_all
readable-after_all t [] = or-false t.is_readable
readable-after_all t (x ∷ xs) = readable-after_all (after t x) xs ∙ or-assoc t.is_readable (is_readable x) (list_any is_readable xs)

pub plain-after_all : (t : Tally) (xs : List Item) → (after_all t xs).plain ≡ best_from PlainHtml t.plain xs
unfolding after_all
plain-after_all t [] = refl
plain-after_all t (x ∷ xs) = plain-after_all (after t x) xs

pub html-after_all : (t : Tally) (xs : List Item) → (after_all t xs).html ≡ best_from Html t.html xs
unfolding after_all
html-after_all t [] = refl
html-after_all t (x ∷ xs) = html-after_all (after t x) xs

pub json-after_all : (t : Tally) (xs : List Item) → (after_all t xs).json ≡ best_from Json t.json xs
unfolding after_all
json-after_all t [] = refl
json-after_all t (x ∷ xs) = json-after_all (after t x) xs

-- ---- the greatest claim

IsAtMost-refl : (a : Claim) → IsAtMost a a
IsAtMost-refl a = inr (refl, omega arith)

IsAtMost-trans : (a b c : Claim) → IsAtMost a b → IsAtMost b c → IsAtMost a c
IsAtMost-trans a b c (inl p) (inl q) = inl (omega arith)
IsAtMost-trans a b c (inl p) (inr q) = inl (omega arith)
IsAtMost-trans a b c (inr p) (inl q) = inl (omega arith)
IsAtMost-trans a b c (inr p) (inr q) = inr (omega arith, omega arith)

-- the better of two claims is one of them, and neither is above it
record IsBetter (a b c : Claim) : Type 0 where
  left : IsAtMost a c
  right : IsAtMost b c
  one : (c ≡ a) ⊎ (c ≡ b)

above : (a b : Claim) → is_above b a ≡ true → IsAtMost a b
above a b e = grind (arith, nat_tests)

not_above : (a b : Claim) → is_above b a ≡ false → IsAtMost b a
not_above a b e = grind (arith, nat_tests)

better_is : (a b : Claim) → IsBetter a b (better a b)
better_is a b =
    elim (is_above b a) as (λ v. is_above b a ≡ v → IsBetter a b (cond v b a)) [
      | true ↦ (λ e. record { left = above a b e; right = IsAtMost-refl b; one = inr refl })
      | false ↦ (λ e. record { left = IsAtMost-refl a; right = not_above a b e; one = inl refl })
    ] refl

record IsBest (s : Served) (start : Claim) (items : List Item) (top : Claim) : Type 0 where
  above_start : IsAtMost start top
  none_above : AllByRecursion (λ item. IsAtMost (claim s item) top) items
  reached : (top ≡ start) ⊎ SomeOf (λ item. claim s item ≡ top) items

reached_more : {P : Type 0} (top start mid c : Claim) → (mid ≡ start) ⊎ (mid ≡ c) → (top ≡ mid) ⊎ P → (top ≡ start) ⊎ ((c ≡ top) ⊎ P)
reached_more top start mid c (inl e) (inl f) = inl (f ∙ e)
reached_more top start mid c (inr e) (inl f) = inr (inl (sym (f ∙ e)))
reached_more top start mid c one (inr p) = inr (inr p)

best_is : (s : Served) (start : Claim) (items : List Item) → IsBest s start items (best_from s start items)
best_is s start [] = record { above_start = IsAtMost-refl start; none_above = tt; reached = inl refl }
best_is s start (item ∷ items) =
    let step = better_is start (claim s item) in
    let rest = best_is s (better start (claim s item)) items in
    record {
      above_start = IsAtMost-trans start (better start (claim s item)) _ step.left rest.above_start;
      none_above = (IsAtMost-trans (claim s item) (better start (claim s item)) _ step.right rest.above_start, rest.none_above);
      reached = reached_more _ start (better start (claim s item)) (claim s item) step.one rest.reached;
    }

-- the best claim has the type's quality
pub best_is_quality : (items : List Item) (s : Served) → IsQuality items s (best_from s no_claim items).quality
best_is_quality items s =
    let best = best_is s no_claim items in
    record { top = best_from s no_claim items; none_above = best.none_above; reached = best.reached; is = refl }

-- ---- the choice

-- the tally of all items has each type's quality
pub tally_quality : (b : Tally) (items : List Item) → b ≡ after_all no_tally items → (served : Served)
    → IsQuality items served (quality_on b served)
tally_quality b items e PlainHtml =
    let same : b.plain.quality ≡ (best_from PlainHtml no_claim items).quality =
    ap (λ (t : Tally). t.plain.quality) e ∙ ap (λ (c : Claim). c.quality) (plain-after_all no_tally items) in
    rw same (best_is_quality items PlainHtml)
tally_quality b items e Html =
    let same : b.html.quality ≡ (best_from Html no_claim items).quality =
    ap (λ (t : Tally). t.html.quality) e ∙ ap (λ (c : Claim). c.quality) (html-after_all no_tally items) in
    rw same (best_is_quality items Html)
tally_quality b items e Json =
    let same : b.json.quality ≡ (best_from Json no_claim items).quality =
    ap (λ (t : Tally). t.json.quality) e ∙ ap (λ (c : Claim). c.quality) (json-after_all no_tally items) in
    rw same (best_is_quality items Json)

-- whether an item was readable
pub tally_readable : (b : Tally) (items : List Item) → b ≡ after_all no_tally items → b.is_readable ≡ list_any is_readable items
tally_readable b items e = ap (λ (t : Tally). t.is_readable) e ∙ readable-after_all no_tally items

-- `*/*` gives each type the quality 1
pub any_quality : (served : Served) → IsQuality (anything ∷ []) served 1000
unfolding specificity names names_all_beside
any_quality PlainHtml = record {
  top = record { specificity = 1; quality = 1000 };
  none_above = (inr (refl, omega arith), tt);
  reached = inr (inl refl);
  is = refl;
}
any_quality Html = record {
  top = record { specificity = 1; quality = 1000 };
  none_above = (inr (refl, omega arith), tt);
  reached = inr (inl refl);
  is = refl;
}
any_quality Json = record {
  top = record { specificity = 1; quality = 1000 };
  none_above = (inr (refl, omega arith), tt);
  reached = inr (inl refl);
  is = refl;
}

pub chooses_any : (items : List Item) → list_any is_readable items ≡ false
    → (quality : Served → ℕ) × ((served : Served) → IsQuality (or_anything items) served (quality served))
    × IsFirstGreatest quality (Some PlainHtml)
chooses_any items e = (
  λ _. 1000,
  λ served. rw e (any_quality served),
  (omega arith, λ served. (omega arith, λ before. absurd (omega arith))),
)

pub chooses_best : (items : List Item) (b : Tally) (chosen : Option Served) → b ≡ after_all no_tally items → b.is_readable ≡ true
    → IsFirstGreatest (quality_on b) chosen
    → (quality : Served → ℕ) × ((served : Served) → IsQuality (or_anything items) served (quality served)) × IsFirstGreatest quality chosen
chooses_best items b chosen e readable first =
    let some : list_any is_readable items ≡ true = sym (tally_readable b items e) ∙ readable in
    (quality_on b, λ served. rw some (tally_quality b items e served), first)
