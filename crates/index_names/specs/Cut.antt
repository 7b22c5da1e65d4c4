-- How the code cuts a file name.
use Rattle.std.specs.Prelude.{◌≡◌, ℕ, false, List, [], ◌∷◌, Option, Some, None, MatchOption}
use Rattle.std.specs.Prelude.{option_copied, IsTrue}
use Rattle.std.specs.Borrow.{Bor}
use Rattle.std.specs.List.{before_last, after_last, list_any, slice_split}
use Rattle.index_names.specs.declared.file_name.Cut.{Cut}
use Rattle.index_names.specs.declared.wheel.WheelParts.{WheelParts}
use Rattle.index_names.specs.Project.{is_project_name, normal_form}
use Rattle.index_names.specs.Release.{is_version_text, named_release}
use Rattle.index_names.specs.FileName.{Spelled}
use Rattle.index_names.specs.Spelling.{WheelCut, is_hyphen}

-- the name and the version of a cut are valid, and their project, their release and the kind are
-- what is read
pub record IsCutReadAs (cut : Cut) (spelled : Option Spelled) : Type 0 where
  pub value : spelled ≡ Some (record {
    project = normal_form cut.name.now;
    release = named_release cut.version.now;
    kind = cut.kind;
  })
  pub name : IsTrue (is_project_name cut.name.now)
  pub version : IsTrue (is_version_text cut.version.now)

-- the cut of what a file name is read as; nothing is read if there is no cut
abbrev pub IsCutOf : Option Cut → Option Spelled → Type 0
IsCutOf None spelled = spelled ≡ None
IsCutOf (Some cut) spelled = IsCutReadAs cut spelled

-- the parts before and after the first hyphen of a text, if it has one: a cut at each hyphen cuts
-- the text there, and the second part at its hyphens
abbrev pub CutsAtFirstHyphen : List ℕ → Option (Bor (List ℕ) × Bor (List ℕ)) → Type 0
CutsAtFirstHyphen text cut =
    MatchOption cut (slice_split is_hyphen text ≡ text ∷ [])
    (λ parts. slice_split is_hyphen text ≡ parts.0.now ∷ slice_split is_hyphen parts.1.now)

-- the parts before and after the last hyphen of a text, if it has one
abbrev pub CutsAtLastHyphen : List ℕ → Option (Bor (List ℕ) × Bor (List ℕ)) → Type 0
CutsAtLastHyphen text cut =
    MatchOption cut (list_any is_hyphen text ≡ false) (λ parts.
    (parts.0.now ≡ before_last is_hyphen text) × (parts.1.now ≡ after_last is_hyphen text))

-- the parts of a wheel name as texts
abbrev pub wheel_cut : WheelParts → WheelCut
wheel_cut parts = record {
  distribution = parts.distribution.now;
  version = parts.version.now;
  build = option_copied parts.build;
  python = parts.python.now;
  abi = parts.abi.now;
  platform = parts.platform.now;
}
