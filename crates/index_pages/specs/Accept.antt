-- The choice of a page's type from the values of the `Accept` headers (RFC 9110, section 12.5.1;
-- PEP 691, "Version + Format Selection").
use Rattle.std.specs.Prelude.{◌≡◌, ℕ, ◌+◌, ◌-◌, ◌*◌, ◌<◌, ◌≤◌, ◌⊎◌, Bool, true, false, ◌&&◌, ◌||◌}
use Rattle.std.specs.Prelude.{List, [], ◌∷◌, map, drop, reverse, codes, if◌then◌else◌, ◌==◌}
use Rattle.std.specs.Prelude.{bytes_eq, Option, Some, None, is_some}
use Rattle.std.specs.Char.{to_ascii_lowercase, is_ascii_digit}
use Rattle.std.specs.List.{slice_split, flat_map, list_any, AllByRecursion}
use Rattle.std.specs.Str.{byte}
use Rattle.std.specs.Borrow.{Bor}
use Rattle.index_pages.specs.declared.served.Served.{Served}
use Rattle.index_pages.specs.declared.served.Served.TheVariants.{PlainHtml, Html, Json}
use Rattle.index_pages.specs.declared.tally.Claim.{Claim}

-- ---- pieces of a value

-- a space or a tab (RFC 9110, section 5.6.3)
abbrev pub is_blank : ℕ → Bool
is_blank c = (c == 32) || (c == 9)

-- the bytes without the blanks that they begin with
abbrev pub skip_blanks : List ℕ → List ℕ
skip_blanks [] = []
skip_blanks (c ∷ bytes) = if is_blank c then skip_blanks bytes else c ∷ bytes

-- the bytes without the blanks at both ends
unfoldable pub trim : List ℕ → List ℕ
trim bytes = reverse (skip_blanks (reverse (skip_blanks bytes)))

-- the texts between the separators
abbrev pub cut_at : ℕ → List ℕ → List (List ℕ)
cut_at separator bytes = slice_split (λ c. c == separator) bytes

-- ---- qualities (RFC 9110, section 12.4.2), in thousandths

-- the value of a digit
abbrev pub digit_value : ℕ → ℕ
digit_value c = c - byte "0"

-- the number of thousandths in up to three digits after a point
abbrev pub thousandths : List ℕ → Option ℕ
thousandths [] = Some 0
thousandths (a ∷ []) = if is_ascii_digit a then Some (100 * digit_value a) else None
thousandths (a ∷ b ∷ []) =
    if is_ascii_digit a && is_ascii_digit b
    then Some (100 * digit_value a + 10 * digit_value b)
    else None
thousandths (a ∷ b ∷ c ∷ []) =
    if is_ascii_digit a && (is_ascii_digit b && is_ascii_digit c)
    then Some (100 * digit_value a + 10 * digit_value b + digit_value c)
    else None
thousandths (a ∷ b ∷ c ∷ d ∷ more) = None

-- nothing, or a point and up to three digits
abbrev pub fraction : List ℕ → Option ℕ
fraction [] = Some 0
fraction (c ∷ digits) = if c == byte "." then thousandths digits else None

-- 1,000 thousandths, if no digit after the point is other than 0
abbrev pub one_with : Option ℕ → Option ℕ
one_with None = None
one_with (Some n) = if n == 0 then Some 1000 else None

-- a quality: 0 or 1, possibly with a fraction
abbrev pub quality_of : List ℕ → Option ℕ
quality_of [] = None
quality_of (c ∷ bytes) =
    if c == byte "0" then fraction bytes
    else if c == byte "1" then one_with (fraction bytes)
    else None

-- the piece begins with `q=`, in either case
abbrev pub is_quality : List ℕ → Bool
is_quality [] = false
is_quality (a ∷ []) = false
is_quality (a ∷ b ∷ more) = ((a == byte "q") || (a == byte "Q")) && (b == byte "=")

-- the quality of the first piece with `q=`, or 1 if there is none
abbrev pub first_quality : List (List ℕ) → Option ℕ
first_quality [] = Some 1000
first_quality (piece ∷ pieces) =
    if is_quality piece then quality_of (drop 2 piece) else first_quality pieces

-- ---- items

-- a media range, and its quality unless that is malformed
pub record Item : Type 0 where
  pub range : List ℕ
  pub quality : Option ℕ

-- the item of these pieces: the first is its range
abbrev pub item_from : List (List ℕ) → Item
item_from [] = record { range = []; quality = None }
item_from (range ∷ pieces) = record { range = range; quality = first_quality pieces }

-- the item in the text between two commas
abbrev pub item_of : List ℕ → Item
item_of text = item_from (map trim (cut_at (byte ";") text))

-- there is a byte
abbrev pub is_nonempty : List ℕ → Bool
is_nonempty [] = false
is_nonempty (c ∷ bytes) = true

-- two pieces, both not empty
abbrev pub are_two : List (List ℕ) → Bool
are_two [] = false
are_two (a ∷ []) = false
are_two (a ∷ b ∷ []) = is_nonempty a && is_nonempty b
are_two (a ∷ b ∷ c ∷ more) = false

-- the range is `type/subtype`, and the quality is not malformed
abbrev pub is_readable : Item → Bool
is_readable item = is_some item.quality && are_two (cut_at (byte "/") item.range)

-- the items of all values (RFC 9110, section 5.6.1)
unfoldable pub items_of : List (Bor (List ℕ)) → List Item
items_of values = flat_map (λ value. map item_of (cut_at (byte ",") value.now)) values

-- `*/*`
abbrev pub anything : Item
anything = record { range = codes "*/*"; quality = Some 1000 }

-- the items, or `*/*` if none of them is readable
abbrev pub or_anything : List Item → List Item
or_anything items = if list_any is_readable items then items else anything ∷ []

-- ---- the claim of an item on a type

-- Whether a range in lower case names the type itself. `latest` is version 1.
unfoldable pub names : Served → List ℕ → Bool
names PlainHtml range = bytes_eq range (codes "text/html")
names Html range =
    bytes_eq range (codes "application/vnd.pypi.simple.v1+html")
    || bytes_eq range (codes "application/vnd.pypi.simple.latest+html")
names Json range =
    bytes_eq range (codes "application/vnd.pypi.simple.v1+json")
    || bytes_eq range (codes "application/vnd.pypi.simple.latest+json")

-- whether a range in lower case names all subtypes of the type's main type
unfoldable pub names_all_beside : Served → List ℕ → Bool
names_all_beside PlainHtml range = bytes_eq range (codes "text/*")
names_all_beside Html range = bytes_eq range (codes "application/*")
names_all_beside Json range = bytes_eq range (codes "application/*")

-- how specifically a range in lower case names a type; 0 if it does not cover it
unfoldable pub specificity : Served → List ℕ → ℕ
specificity served range =
    if names served range then 3
    else if names_all_beside served range then 2
    else if bytes_eq range (codes "*/*") then 1
    else 0

-- the claim of an item that does not cover the type
abbrev pub no_claim : Claim
no_claim = record { specificity = 0; quality = 0 }

-- the claim of a range with this quality; none if the range does not cover the type or the quality
-- is malformed
abbrev pub claim_of : ℕ → Option ℕ → Claim
claim_of specificity None = no_claim
claim_of specificity (Some quality) =
    if specificity == 0 then no_claim else record { specificity = specificity; quality = quality }

-- The claim of an item on a type: how specific it is, and its quality. None if the item does not
-- cover the type or is malformed.
abbrev pub claim : Served → Item → Claim
claim served item = claim_of (specificity served (map to_ascii_lowercase item.range)) item.quality

-- ---- the choice

-- the first claim is less specific, or as specific and of no greater quality
abbrev pub IsAtMost : Claim → Claim → Type 0
IsAtMost a b =
    (a.specificity < b.specificity) ⊎ ((a.specificity ≡ b.specificity) × (a.quality ≤ b.quality))

-- at least one element passes
abbrev pub SomeOf : {X : Type 0} → (X → Type 0) → List X → Type 0
SomeOf P [] = ⊥
SomeOf P (x ∷ xs) = P x ⊎ SomeOf P xs

-- the greatest quality among the most specific items that cover the type; 0 if none does (RFC 9110,
-- section 12.5.1)
pub record IsQuality (items : List Item) (served : Served) (quality : ℕ) : Type 0 where
  pub top : Claim
  pub none_above : AllByRecursion (λ item. IsAtMost (claim served item) top) items
  pub reached : (top ≡ no_claim) ⊎ SomeOf (λ item. claim served item ≡ top) items
  pub is : quality ≡ top.quality

-- the order of the types, which decides a tie
abbrev pub rank : Served → ℕ
rank PlainHtml = 0
rank Html = 1
rank Json = 2

-- the first type with the greatest quality, or none if all are 0
abbrev pub IsFirstGreatest : (Served → ℕ) → Option Served → Type 0
IsFirstGreatest quality None = (served : Served) → quality served ≡ 0
IsFirstGreatest quality (Some chosen) =
    (0 < quality chosen) × ((served : Served) → (quality served ≤ quality chosen)
    × (rank served < rank chosen → quality served < quality chosen))

-- the type that the values of all `Accept` headers choose
abbrev pub IsChosen : List (Bor (List ℕ)) → Option Served → Type 0
IsChosen values chosen =
    (quality : Served → ℕ)
    × ((served : Served) → IsQuality (or_anything (items_of values)) served (quality served))
    × IsFirstGreatest quality chosen
