-- The values of a field, one field after another.
use Rattle.std.proofs.Common.{◌≡◌, ◌<◌, ◌+◌, ◌∷◌, [], ◌++◌, map, drop, get_or, length, ℕ, List, Option, Some, None, Bor, is_some, true}
use Rattle.std.proofs.Common.{refl, ◌∙◌}
use Rattle.std.proofs.lemmas.List.{drop_more}
use Rattle.httparse.specs.Spans.{header_bytes, span_bytes}
use Rattle.httparse.specs.declared.spans.HeaderSpan.{HeaderSpan}
use Rattle.index_message.specs.Fields.{is_named, values_of}

-- the value that was found
abbrev pub found_values : Option (Bor (List ℕ)) → List (List ℕ)
found_values None = []
found_values (Some value) = value.now ∷ []

-- the values from a field on
abbrev pub values_from : List ℕ → List ℕ → List HeaderSpan → ℕ → List (List ℕ)
values_from name bytes fields i = values_of name (map (header_bytes bytes) (drop i fields))

-- a field with the name stands behind one that was found
pub found_again : (name bytes : List ℕ) (fields : List HeaderSpan) (i : ℕ) (d : HeaderSpan) (found : Option (Bor (List ℕ)))
    (all : List (List ℕ))
    → i < length fields → all ≡ found_values found ++ values_from name bytes fields i
    → is_named name (header_bytes bytes (get_or fields i d)) ≡ true → is_some found ≡ true
    → (first second : List ℕ) × (more : List (List ℕ)) × (all ≡ first ∷ second ∷ more)
found_again name bytes fields i d None all less is named some = cc some
found_again name bytes fields i d (Some first) all less is named some = (
  first.now,
  span_bytes bytes (get_or fields i d).value,
  values_from name bytes fields (i + 1),
  is ∙ rw (drop_more fields i d less, named) refl,
)
