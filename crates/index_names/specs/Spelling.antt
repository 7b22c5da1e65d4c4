-- What the file names of wheels (PEP 427, "File name convention") and of source archives (PEP 625,
-- "Specification") spell.
use Rattle.std.specs.Prelude.{◌≡◌, ℕ, ◌≤◌, Bool, true, not, ◌&&◌, ◌||◌, ◌==◌, nat_le, List, [], ◌∷◌}
use Rattle.std.specs.Prelude.{◌++◌, Option, Some, None, length, slice_index, codes, IsTrue}
use Rattle.std.specs.Char.{is_ascii_alphanumeric, is_ascii_digit}
use Rattle.std.specs.List.{list_all, join_with_byte}
use Rattle.std.specs.Option.{option_map_or}
use Rattle.std.specs.Str.{byte}
use Rattle.index_names.specs.declared.file_name.FileKind.{FileKind}
use Rattle.index_names.specs.declared.file_name.FileKind.TheVariants.{Wheel, Source}
use Rattle.index_names.specs.Project.{is_project_name, normal_form}
use Rattle.index_names.specs.Release.{is_version_text, named_release}

-- the parts of a wheel's name
pub record WheelCut : Type 0 where
  pub distribution : List ℕ
  pub version : List ℕ
  pub build : Option (List ℕ)
  pub python : List ℕ
  pub abi : List ℕ
  pub platform : List ℕ

-- the parts of a source archive's name
pub record SourceCut : Type 0 where
  pub name : List ℕ
  pub version : List ℕ

-- whether a byte is the hyphen, which parts a file name
abbrev pub is_hyphen : ℕ → Bool
is_hyphen c = c == byte "-"

-- whether a text is a project name without a hyphen
abbrev pub is_distribution : List ℕ → Bool
is_distribution x = is_project_name x && list_all (λ c. not (is_hyphen c)) x

-- whether tags may have a byte (PEP 425)
abbrev pub is_tag_byte : ℕ → Bool
is_tag_byte c = is_ascii_alphanumeric c || (c == byte ".") || (c == byte "_")

-- whether a text is a tag: one tag byte or more
abbrev pub is_tag : List ℕ → Bool
is_tag x = nat_le 1 (length x) && list_all is_tag_byte x

-- whether a text is a build tag: a tag that begins with a digit (PEP 427)
abbrev pub is_build_tag : List ℕ → Bool
is_build_tag x = is_tag x && is_ascii_digit (slice_index x 0)

-- whether the parts of a wheel name are valid (PEP 427)
abbrev pub is_wheel_cut : WheelCut → Bool
is_wheel_cut cut =
    is_distribution cut.distribution && is_version_text cut.version
    && option_map_or is_build_tag cut.build true && is_tag cut.python && is_tag cut.abi
    && is_tag cut.platform

-- whether the parts of the name of a source archive are valid (PEP 625)
abbrev pub is_source_cut : SourceCut → Bool
is_source_cut cut = is_project_name cut.name && is_version_text cut.version

-- the parts in their order: five, or six with a build tag
abbrev pub with_build : Option (List ℕ) → List (List ℕ) → List (List ℕ)
with_build None tags = tags
with_build (Some build) tags = build ∷ tags

-- the parts of a wheel name, in order
abbrev pub parts_of : WheelCut → List (List ℕ)
parts_of cut =
    cut.distribution ∷ cut.version ∷ with_build cut.build (cut.python ∷ cut.abi ∷ cut.platform ∷ [])

-- a wheel name: distribution-version(-build)?-python-abi-platform.whl
abbrev pub wheel_name : WheelCut → List ℕ
wheel_name cut = join_with_byte (byte "-") (parts_of cut) ++ codes ".whl"

-- the name of a source archive: name-version.tar.gz
abbrev pub source_name : SourceCut → List ℕ
source_name cut = cut.name ++ codes "-" ++ cut.version ++ codes ".tar.gz"

-- some cut of this wheel's name has the project and the release
pub record IsWheelOf (f project release : List ℕ) : Type 0 where
  pub cut : WheelCut
  pub is_name : f ≡ wheel_name cut
  pub is_cut : IsTrue (is_wheel_cut cut)
  pub is_project : project ≡ normal_form cut.distribution
  pub is_release : release ≡ named_release cut.version

-- some cut of this source archive's name has the project and the release
pub record IsSourceOf (f project release : List ℕ) : Type 0 where
  pub cut : SourceCut
  pub is_name : f ≡ source_name cut
  pub is_cut : IsTrue (is_source_cut cut)
  pub is_project : project ≡ normal_form cut.name
  pub is_release : release ≡ named_release cut.version

-- the most bytes of a file name
abbrev pub longest_file_name : ℕ
longest_file_name = 255

-- a file name of 1 to 255 bytes spells a project, a release and a kind
abbrev pub Spells : List ℕ → List ℕ → List ℕ → FileKind → Type 0
Spells f project release Wheel =
    (1 ≤ length f) × (length f ≤ longest_file_name) × IsWheelOf f project release
Spells f project release Source =
    (1 ≤ length f) × (length f ≤ longest_file_name) × IsSourceOf f project release
