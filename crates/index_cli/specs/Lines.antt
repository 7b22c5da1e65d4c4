-- The lines of an input, and what a reader has left after some of them.
use Rattle.std.specs.Prelude.{List, None, Option, Some, [], if◌then◌else◌, length, take, ℕ, ◌++◌}
use Rattle.std.specs.Prelude.{◌+◌, ◌<◌, ◌==◌, ◌∷◌, ◌≡◌, ◌≢◌, ◌⊎◌}
use Rattle.std.specs.List.{All}
use Rattle.std.specs.Io.KnownBytes.{Consumes, IsAtEnd}

-- the byte of a line feed
abbrev pub line_feed : ℕ
line_feed = 10

-- the most bytes of a line that is read
abbrev pub longest_line : ℕ
longest_line = 65536

-- puts a byte before the first line
abbrev pub onto_first : ℕ → List (List ℕ) → List (List ℕ)
onto_first byte [] = (byte ∷ []) ∷ []
onto_first byte (line ∷ lines) = (byte ∷ line) ∷ lines

-- The lines of an input, without their line feeds. The last one may have none.
abbrev pub lines_of : List ℕ → List (List ℕ)
lines_of [] = []
lines_of (byte ∷ input) =
    if byte == line_feed then [] ∷ lines_of input else onto_first byte (lines_of input)

-- the line contains no line feed
abbrev pub HasNoFeed : List ℕ → Type 0
HasNoFeed line = All (λ byte. byte ≢ line_feed) line

-- ---- what a reader has left, before and after

-- a line was taken, with its line feed or up to the end of the input
abbrev pub TakesOneLine : List ℕ → Option (List ℕ) → Option (List ℕ) → Type 0
TakesOneLine line old new =
    Consumes old new (line ++ line_feed ∷ [])
    ⊎ ((0 < length line) × Consumes old new line × IsAtEnd new)

-- a line of this size, with its first 65,536 bytes in `kept`
pub record IsFrontOfLine (size : ℕ) (kept line : List ℕ) : Type 0 where
  pub plain : HasNoFeed line
  pub sized : length line ≡ size
  pub front : kept ≡ take longest_line line

-- a line of this size was taken, or the input was at its end
abbrev pub TakesLine : Option ℕ → List ℕ → Option (List ℕ) → Option (List ℕ) → Type 0
TakesLine None kept old new = Consumes old new [] × IsAtEnd new
TakesLine (Some size) kept old new =
    (line : List ℕ) × IsFrontOfLine size kept line × TakesOneLine line old new

-- a part of one line was taken, without its line feed
abbrev pub PartIsTaken : Option (List ℕ) → Option (List ℕ) → Type 0
PartIsTaken old new = (part : List ℕ) × HasNoFeed part × Consumes old new part

-- the bytes that were taken are subtracted from those that may be read
abbrev pub Charges : ℕ → ℕ → Option (List ℕ) → Option (List ℕ) → Type 0
Charges before now old new =
    (taken : List ℕ) × Consumes old new taken × (now + length taken ≡ before)

-- exactly these lines were taken
abbrev pub TakesLines : List (List ℕ) → Option (List ℕ) → Option (List ℕ) → Type 0
TakesLines lines old new = (taken : List ℕ) × Consumes old new taken × (lines_of taken ≡ lines)

-- exactly these lines were taken, and possibly a part or all of the next one
abbrev pub TakesLinesAndPart : List (List ℕ) → Option (List ℕ) → Option (List ℕ) → Type 0
TakesLinesAndPart lines old new =
    TakesLines lines old new ⊎ ((part : List ℕ) × TakesLines (lines ++ part ∷ []) old new)
