-- Project names (PEP 508, "Names") and their normal form (PEP 503, "Normalized Names").
use Rattle.std.specs.Prelude.{◌≡◌, ℕ, ◌-◌, Bool, true, false, ◌&&◌, ◌||◌, ◌==◌, nat_le}
use Rattle.std.specs.Prelude.{if◌then◌else◌, List, [], ◌∷◌, Option, Some, None, map, length}
use Rattle.std.specs.Prelude.{slice_index}
use Rattle.std.specs.List.{list_all, join_with_byte}
use Rattle.std.specs.Str.{byte}
use Rattle.std.specs.Char.{is_ascii_alphanumeric, to_ascii_lowercase}

-- whether a byte is a separator: a hyphen, an underscore or a dot (PEP 503)
abbrev pub is_separator : ℕ → Bool
is_separator c = (c == byte "-") || (c == byte "_") || (c == byte ".")

-- the most bytes of a project name
abbrev pub longest_project_name : ℕ
longest_project_name = 128

-- whether a text is a project name: 1 to 128 letters, digits and separators, beginning and ending
-- with a letter or digit
abbrev pub is_project_name : List ℕ → Bool
is_project_name x =
    nat_le 1 (length x) && nat_le (length x) longest_project_name
    && list_all (λ c. is_ascii_alphanumeric c || is_separator c) x
    && is_ascii_alphanumeric (slice_index x 0)
    && is_ascii_alphanumeric (slice_index x (length x - 1))

-- whether a text begins with a letter or digit, and thus with a run of them
abbrev pub begins_run : List ℕ → Bool
begins_run [] = false
begins_run (c ∷ x) = is_ascii_alphanumeric c

-- the runs with a letter or digit in front: it lengthens the run that begins there, or is a run of
-- its own
abbrev pub with_before : ℕ → Bool → List (List ℕ) → List (List ℕ)
with_before c true (run ∷ runs) = (c ∷ run) ∷ runs
with_before c true [] = (c ∷ []) ∷ []
with_before c false runs = (c ∷ []) ∷ runs

-- the maximal runs of letters and digits, in order
abbrev pub runs_of : List ℕ → List (List ℕ)
runs_of [] = []
runs_of (c ∷ x) =
    if is_ascii_alphanumeric c then with_before c (begins_run x) (runs_of x) else runs_of x

-- the runs in lower case, joined by single hyphens
abbrev pub normal_form : List ℕ → List ℕ
normal_form x = join_with_byte (byte "-") (map (map to_ascii_lowercase) (runs_of x))

-- what a text is read as: the normal form of a project name, or nothing of any other text
unfoldable pub read_name : List ℕ → Option (List ℕ)
read_name x = if is_project_name x then Some (normal_form x) else None

-- a normal form: a text that is read as itself
abbrev pub IsNormalName : List ℕ → Type 0
IsNormalName name = read_name name ≡ Some name
