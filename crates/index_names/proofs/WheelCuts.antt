-- What the test of a wheel's cut says of its parts.
use Rattle.std.proofs.Common.{◌≡◌, ℕ, true, not, cond, List, ◌∷◌, Some, None, ap}
use Rattle.std.specs.List.{list_all, slice_split}
use Rattle.std.specs.Option.{option_map_or}
use Rattle.std.proofs.lemmas.Bool.{and_parts}
use Rattle.index_names.specs.declared.file_name.FileKind.TheVariants.{Wheel}
use Rattle.index_names.specs.Project.{is_project_name, normal_form}
use Rattle.index_names.specs.Release.{is_version_text, named_release}
use Rattle.index_names.specs.FileName.{wheel_cut_of, spelled_by_wheel}
use Rattle.index_names.specs.Spelling.{WheelCut, is_hyphen, is_distribution, is_tag, is_build_tag, is_wheel_cut}
use Rattle.index_names.proofs.HyphenLemmas.{first_part}

pub record HasWheelParts (cut : WheelCut) : Type 0 where
  pub name : is_project_name cut.distribution ≡ true
  pub apart : list_all (λ c. not (is_hyphen c)) cut.distribution ≡ true
  pub version : is_version_text cut.version ≡ true
  pub build : option_map_or is_build_tag cut.build true ≡ true
  pub python : is_tag cut.python ≡ true
  pub abi : is_tag cut.abi ≡ true
  pub platform : is_tag cut.platform ≡ true

pub HasWheelParts-cut : (cut : WheelCut) → is_wheel_cut cut ≡ true → HasWheelParts cut
HasWheelParts-cut cut is_cut =
    let to_platform = and_parts _ (is_tag cut.platform) is_cut in
    let to_abi = and_parts _ (is_tag cut.abi) to_platform.0 in
    let to_python = and_parts _ (is_tag cut.python) to_abi.0 in
    let to_build = and_parts _ (option_map_or is_build_tag cut.build true) to_python.0 in
    let to_version = and_parts (is_distribution cut.distribution) (is_version_text cut.version) to_build.0 in
    let to_name = and_parts (is_project_name cut.distribution) (list_all (λ c. not (is_hyphen c)) cut.distribution) to_version.0 in
    record {
      name = to_name.0;
      apart = to_name.1;
      version = to_version.1;
      build = to_build.1;
      python = to_python.1;
      abi = to_abi.1;
      platform = to_platform.1;
    }

pub spelled_by_wheel-passing : (cut : WheelCut) → is_wheel_cut cut ≡ true
    → spelled_by_wheel cut ≡ Some (record { project = normal_form cut.distribution; release = named_release cut.version; kind = Wheel })
spelled_by_wheel-passing cut is_cut =
    ap (λ b. cond b (Some (record { project = normal_form cut.distribution; release = named_release cut.version; kind = Wheel })) None)
    is_cut

-- seven parts or more are no cut
pub wheel_cut_of-many : (a b c d e f x : List ℕ) → wheel_cut_of (a ∷ b ∷ c ∷ d ∷ e ∷ f ∷ slice_split is_hyphen x) ≡ None
wheel_cut_of-many a b c d e f x = ap (λ more. wheel_cut_of (a ∷ b ∷ c ∷ d ∷ e ∷ f ∷ more)) (first_part x).is
