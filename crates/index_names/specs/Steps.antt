-- What one byte adds to a normal form that is written from the front.
use Rattle.std.specs.Prelude.{ℕ, Bool, if◌then◌else◌, List, [], ◌∷◌}
use Rattle.std.specs.Char.{is_ascii_alphanumeric, to_ascii_lowercase}
use Rattle.std.specs.Str.{byte}

-- a letter or digit, behind a hyphen if there are separators before it
abbrev pub added : Bool → ℕ → List ℕ
added is_apart c =
    if is_ascii_alphanumeric c
    then (if is_apart then byte "-" ∷ to_ascii_lowercase c ∷ [] else to_ascii_lowercase c ∷ [])
    else []
