-- Places in a volume, as texts.
use Rattle.std.specs.Prelude.{◌≡◌, ℕ, ◌+◌, ◌≤◌, List, [], ◌∷◌, ◌++◌}
use Rattle.std.specs.Prelude.{length, take, drop, slice_index}
use Rattle.std.specs.Int.{w64, to_be_bytes, from_be_bytes}

-- how many bytes a place has
abbrev pub place_length : ℕ
place_length = 16

-- the eight bytes of a text from an index on, as a number
abbrev pub number_from : List ℕ → ℕ → ℕ
number_from text i =
    from_be_bytes w64 (slice_index text i ∷ slice_index text (i + 1) ∷ slice_index text (i + 2)
    ∷ slice_index text (i + 3) ∷ slice_index text (i + 4) ∷ slice_index text (i + 5)
    ∷ slice_index text (i + 6) ∷ slice_index text (i + 7) ∷ [])

-- the place of a body: where it begins, and how many bytes it has, in eight bytes each
abbrev pub place_text : ℕ → ℕ → List ℕ
place_text at size = to_be_bytes w64 at ++ to_be_bytes w64 size

-- where a place begins
abbrev pub place_at : List ℕ → ℕ
place_at place = number_from place 0

-- how many bytes lie at a place
abbrev pub place_size : List ℕ → ℕ
place_size place = number_from place 8

-- where a place ends
abbrev pub place_end : List ℕ → ℕ
place_end place = place_at place + place_size place

-- a place that ends at this end or below
pub record LiesBelow (end : ℕ) (place : List ℕ) : Type 0 where
  pub size : length place ≡ place_length
  pub within : place_end place ≤ end

-- the bytes of a volume at a place
abbrev pub bytes_at : List ℕ → List ℕ → List ℕ
bytes_at volume place = take (place_size place) (drop (place_at place) volume)
