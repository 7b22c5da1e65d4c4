-- How file names are read: as what they spell.
use Rattle.std.specs.Prelude.{◌≡◌, ◌↔◌, ℕ, ◌-◌, bytes_eq, nat_le, if◌then◌else◌, List, [], ◌∷◌}
use Rattle.std.specs.Prelude.{Option, Some, None, option_map, option_and_then, length, take, drop}
use Rattle.std.specs.Prelude.{codes}
use Rattle.std.specs.List.{slice_split, before_last, after_last}
use Rattle.std.specs.Option.{option_map_or}
use Rattle.index_names.specs.declared.file_name.FileKind.{FileKind}
use Rattle.index_names.specs.declared.file_name.FileKind.TheVariants.{Wheel, Source}
use Rattle.index_names.specs.Project.{normal_form}
use Rattle.index_names.specs.Release.{named_release}
use Rattle.index_names.specs.Spelling.{WheelCut, SourceCut, is_hyphen, is_wheel_cut, is_source_cut}
use Rattle.index_names.specs.Spelling.{Spells, longest_file_name}

-- what a file name spells
pub record Spelled : Type 0 where
  pub project : List ℕ
  pub release : List ℕ
  pub kind : FileKind

-- the parts of a wheel's name by their number: five, or six with a build tag
abbrev pub wheel_cut_of : List (List ℕ) → Option WheelCut
wheel_cut_of (distribution ∷ version ∷ python ∷ abi ∷ platform ∷ []) =
    Some (record {
      distribution = distribution;
      version = version;
      build = None;
      python = python;
      abi = abi;
      platform = platform;
    })
wheel_cut_of (distribution ∷ version ∷ build ∷ python ∷ abi ∷ platform ∷ []) =
    Some (record {
      distribution = distribution;
      version = version;
      build = Some build;
      python = python;
      abi = abi;
      platform = platform;
    })
wheel_cut_of _ = None

-- what the name of a wheel spells, if its parts are valid
abbrev pub spelled_by_wheel : WheelCut → Option Spelled
spelled_by_wheel cut =
    if is_wheel_cut cut
    then Some (record {
      project = normal_form cut.distribution;
      release = named_release cut.version;
      kind = Wheel;
    })
    else None

-- what the name of a source archive spells, if its parts are valid
abbrev pub spelled_by_source : SourceCut → Option Spelled
spelled_by_source cut =
    if is_source_cut cut
    then Some (record {
      project = normal_form cut.name;
      release = named_release cut.version;
      kind = Source;
    })
    else None

-- what the stem of a wheel's name spells, cut at each hyphen
abbrev pub read_wheel : List ℕ → Option Spelled
read_wheel stem = option_and_then spelled_by_wheel (wheel_cut_of (slice_split is_hyphen stem))

-- what the stem of a source archive's name spells, cut at its last hyphen
abbrev pub read_source : List ℕ → Option Spelled
read_source stem =
    spelled_by_source (record {
      name = before_last is_hyphen stem;
      version = after_last is_hyphen stem;
    })

-- the text before this ending, if the text has it
abbrev pub strip_suffix : List ℕ → List ℕ → Option (List ℕ)
strip_suffix suffix f =
    if bytes_eq (drop (length f - length suffix) f) suffix
    then Some (take (length f - length suffix) f)
    else None

-- what a file name spells, by its stem as a wheel or as a source archive
abbrev pub read_stem : Option (List ℕ) → Option (List ℕ) → Option Spelled
read_stem (Some wheel) _ = read_wheel wheel
read_stem None (Some source) = read_source source
read_stem None None = None

-- what a text is read as: what it spells, or nothing if it is not a file name
unfoldable pub read_file_name : List ℕ → Option Spelled
read_file_name f =
    if nat_le (length f) longest_file_name
    then read_stem (strip_suffix (codes ".whl") f) (strip_suffix (codes ".tar.gz") f)
    else None

-- a text is read as the name of a file of this project, release and kind
abbrev pub IsReadAs : List ℕ → List ℕ → List ℕ → FileKind → Type 0
IsReadAs f project release kind =
    read_file_name f ≡ Some (record { project = project; release = release; kind = kind })

-- the project that a file name spells; these three have no meaning for any other text
abbrev pub project_of : List ℕ → List ℕ
project_of f = option_map_or (λ spelled. spelled.project) (read_file_name f) []

-- the release that a file name spells
abbrev pub release_of : List ℕ → List ℕ
release_of f = option_map_or (λ spelled. spelled.release) (read_file_name f) []

-- whether a file is a wheel or a source archive
abbrev pub kind_of : List ℕ → FileKind
kind_of f = option_map_or (λ spelled. spelled.kind) (read_file_name f) Source

-- a file name spells the project, the release and the kind that it is read as
abbrev pub SpellsAsRead : List ℕ → Type 0
SpellsAsRead f = Spells f (project_of f) (release_of f) (kind_of f)

-- a file name is read as something with this part
abbrev pub SpellsPart : {A : Type 0} → (Spelled → A) → List ℕ → A → Type 0
SpellsPart part f value = option_map part (read_file_name f) ≡ Some value

-- a file name spells at most one project, release and kind
abbrev pub SpellsAtMostOne : List ℕ → Type 0
SpellsAtMostOne f =
    (project release other_project other_release : List ℕ) (kind other_kind : FileKind)
    → Spells f project release kind → Spells f other_project other_release other_kind
    → (project ≡ other_project) × (release ≡ other_release) × (kind ≡ other_kind)

-- a text is read as exactly what it spells
abbrev pub IsReadAsSpelled : List ℕ → Type 0
IsReadAsSpelled f =
    (spelled : Spelled)
    → (read_file_name f ≡ Some spelled) ↔ Spells f spelled.project spelled.release spelled.kind

-- a text is read as nothing exactly if it spells nothing
abbrev pub IsUnreadWhereUnspelled : List ℕ → Type 0
IsUnreadWhereUnspelled f =
    (read_file_name f ≡ None)
    ↔ ((project release : List ℕ) (kind : FileKind) → ¬ Spells f project release kind)
