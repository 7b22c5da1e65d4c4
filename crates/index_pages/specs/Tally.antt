-- How a type is chosen: the best claim on each type so far, item by item.
use Rattle.std.specs.Prelude.{ℕ, Bool, false, ◌||◌, ◌&&◌, List, [], ◌∷◌, map, if◌then◌else◌, ◌==◌}
use Rattle.std.specs.Prelude.{nat_lt, Option}
use Rattle.std.specs.Option.{option_map_or}
use Rattle.std.specs.Str.{byte}
use Rattle.std.specs.Borrow.{Bor}
use Rattle.index_pages.specs.Accept.{Item, claim, no_claim, is_readable, item_of, cut_at, trim}
use Rattle.index_pages.specs.declared.item.Item as code
use Rattle.index_pages.specs.declared.tally.Claim.{Claim}
use Rattle.index_pages.specs.declared.tally.Tally.{Tally}
use Rattle.index_pages.specs.declared.served.Served.{Served}
use Rattle.index_pages.specs.declared.served.Served.TheVariants.{PlainHtml, Html, Json}

-- the first claim is more specific, or as specific and of a greater quality
abbrev pub is_above : Claim → Claim → Bool
is_above a b =
    nat_lt b.specificity a.specificity
    || ((a.specificity == b.specificity) && nat_lt b.quality a.quality)

-- the second claim if it is above the first
abbrev pub better : Claim → Claim → Claim
better a b = if is_above b a then b else a

-- the best of a claim and those of the items
abbrev pub best_from : Served → Claim → List Item → Claim
best_from served best [] = best
best_from served best (item ∷ items) = best_from served (better best (claim served item)) items

-- an item as the definitions see it: the code's has a reference to its range
abbrev pub shown : code.Item → Item
shown item = record { range = item.range.now; quality = item.quality }

-- the pieces behind a separator, if there is one
abbrev pub rest_cut_at : ℕ → Option (Bor (List ℕ)) → List (List ℕ)
rest_cut_at separator left = option_map_or (λ rest. cut_at separator rest.now) left []

-- the pieces of an item that are left
abbrev pub pieces_left : Option (Bor (List ℕ)) → List (List ℕ)
pieces_left left = option_map_or (λ rest. map trim (cut_at (byte ";") rest.now)) left []

-- the items of a value that are left
abbrev pub items_left : Option (Bor (List ℕ)) → List Item
items_left left = option_map_or (λ rest. map item_of (cut_at (byte ",") rest.now)) left []

-- the tally of no items
abbrev pub no_tally : Tally
no_tally = record { is_readable = false; plain = no_claim; html = no_claim; json = no_claim }

-- a tally with one more item
abbrev pub after : Tally → Item → Tally
after tally item = record {
  is_readable = tally.is_readable || is_readable item;
  plain = better tally.plain (claim PlainHtml item);
  html = better tally.html (claim Html item);
  json = better tally.json (claim Json item);
}

-- a tally with these items added
unfoldable pub after_all : Tally → List Item → Tally
after_all tally [] = tally
after_all tally (item ∷ items) = after_all (after tally item) items

-- the quality of the best claim on a type
abbrev pub quality_on : Tally → Served → ℕ
quality_on tally PlainHtml = tally.plain.quality
quality_on tally Html = tally.html.quality
quality_on tally Json = tally.json.quality
