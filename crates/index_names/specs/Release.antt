-- Version texts, and the releases that they name. Versions are not parsed (PEP
-- 440 is left to the installer).
use Rattle.std.specs.Prelude.{◌≡◌, ℕ, ◌-◌, Bool, ◌&&◌, ◌||◌, ◌==◌, nat_le, if◌then◌else◌, List}
use Rattle.std.specs.Prelude.{Option, Some, None, map, length, slice_index}
use Rattle.std.specs.List.{list_all}
use Rattle.std.specs.Str.{byte}
use Rattle.std.specs.Char.{is_ascii_alphanumeric, to_ascii_lowercase}

-- whether version texts may have a byte
abbrev pub is_version_byte : ℕ → Bool
is_version_byte c =
    is_ascii_alphanumeric c || (c == byte ".") || (c == byte "_") || (c == byte "+")
    || (c == byte "!")

-- the most bytes of a version text
abbrev pub longest_version : ℕ
longest_version = 64

-- whether a text is a version text: 1 to 64 version bytes, beginning and ending with a letter or
-- digit
abbrev pub is_version_text : List ℕ → Bool
is_version_text x =
    nat_le 1 (length x) && nat_le (length x) longest_version && list_all is_version_byte x
    && is_ascii_alphanumeric (slice_index x 0)
    && is_ascii_alphanumeric (slice_index x (length x - 1))

-- the release that a version text names: the text in lower case
abbrev pub named_release : List ℕ → List ℕ
named_release version = map to_ascii_lowercase version

-- what a text is read as: the release of a version text, or nothing of any other text
unfoldable pub read_release : List ℕ → Option (List ℕ)
read_release x = if is_version_text x then Some (named_release x) else None

-- a release: a text that is read as itself
abbrev pub IsRelease : List ℕ → Type 0
IsRelease release = read_release release ≡ Some release
