-- The text that is still to be written of a page.
use Rattle.std.specs.Prelude.{◌≡◌, List, ◌∷◌, ◌++◌}
use Rattle.index_rules.specs.Maps.{Bytes}

-- the text that is still to be written, by the rows to come
abbrev pub Rest : Type 0 → Type 0
Rest R = List R → Bytes

-- for any rows it is the whole page of these
abbrev pub IsWholeOf : {R : Type 0} → Rest R → Rest R → Type 0
IsWholeOf {R} rest whole = (rows : List R) → rest rows ≡ whole rows

-- the text of this row, whatever rows come after it
abbrev pub IsNext : {R : Type 0} → Rest R → R → Bytes → Rest R → Type 0
IsNext {R} old row text new = (rows : List R) → old (row ∷ rows) ≡ text ++ new rows
