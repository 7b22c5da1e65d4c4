-- The texts of this crate are ASCII.
use Rattle.std.proofs.Common.{◌≡◌, ℕ, ◌<◌, Bool, true, ◌||◌, List, [], ◌∷◌, ◌++◌, Option, Some, None, refl, sym, subst, arith}
use Rattle.std.specs.Prelude.{codes, nat_lt}
use Rattle.std.specs.Char.{is_ascii_alphanumeric}
use Rattle.std.specs.List.{list_all, join_with_byte, AllByRecursion}
use Rattle.std.specs.Option.{option_map_or}
use Rattle.std.specs.Str.{IsAscii}
use Rattle.std.proofs.lemmas.Bool.{and_parts}
use Rattle.std.proofs.lemmas.Bool.Decides.{nat_tests}
use Rattle.std.proofs.lemmas.Str.{IsAscii-append}
use Rattle.std.proofs.lemmas.Str.Ascii.{IsAscii-nil, IsAscii-cons}
use Rattle.index_names.specs.declared.file_name.FileKind.{FileKind}
use Rattle.index_names.specs.declared.file_name.FileKind.TheVariants.{Wheel, Source}
use Rattle.index_names.specs.Project.{is_separator, is_project_name}
use Rattle.index_names.specs.Release.{is_version_byte, is_version_text}
use Rattle.index_names.specs.FileName.{Spelled, read_file_name}
use Rattle.index_names.specs.Spelling.{WheelCut, Spells, is_tag_byte, is_tag, is_build_tag, with_build, parts_of}
use Rattle.index_names.proofs.WheelCuts.{HasWheelParts, HasWheelParts-cut}
use Rattle.index_names.proofs.Spelling.{IsSpelled-read}

-- what passes a test that only ASCII bytes pass
pub IsAscii-list_all : (p : ℕ → Bool) → ((c : ℕ) → p c ≡ true → c < 128) → (x : List ℕ) → list_all p x ≡ true → IsAscii x
IsAscii-list_all p ascii [] passes = IsAscii-nil
IsAscii-list_all p ascii (c ∷ x) passes =
    let parts = and_parts (p c) (list_all p x) passes in
    IsAscii-cons c x (ascii c parts.0) (IsAscii-list_all p ascii x parts.1)

below-ascii : (c : ℕ) → nat_lt c 128 ≡ true → c < 128
below-ascii c passes = grind (arith, nat_tests)

name_byte-ascii : (c : ℕ) → (is_ascii_alphanumeric c || is_separator c) ≡ true → c < 128
name_byte-ascii c passes = grind (arith, nat_tests)

version_byte-ascii : (c : ℕ) → is_version_byte c ≡ true → c < 128
version_byte-ascii c passes = grind (arith, nat_tests)

tag_byte-ascii : (c : ℕ) → is_tag_byte c ≡ true → c < 128
tag_byte-ascii c passes = grind (arith, nat_tests)

pub IsAscii-name : (x : List ℕ) → is_project_name x ≡ true → IsAscii x
IsAscii-name x passes =
    IsAscii-list_all (λ c. is_ascii_alphanumeric c || is_separator c) name_byte-ascii x
    (and_parts _ _ (and_parts _ _ (and_parts _ _ passes).0).0).1

pub IsAscii-version_text : (x : List ℕ) → is_version_text x ≡ true → IsAscii x
IsAscii-version_text x passes =
    IsAscii-list_all is_version_byte version_byte-ascii x (and_parts _ _ (and_parts _ _ (and_parts _ _ passes).0).0).1

IsAscii-tag : (x : List ℕ) → is_tag x ≡ true → IsAscii x
IsAscii-tag x passes = IsAscii-list_all is_tag_byte tag_byte-ascii x (and_parts _ _ passes).1

IsAscii-join : (parts : List (List ℕ)) → AllByRecursion IsAscii parts → IsAscii (join_with_byte 45 parts)
IsAscii-join [] ascii = IsAscii-nil
IsAscii-join (part ∷ []) ascii = ascii.0
IsAscii-join (part ∷ next ∷ parts) ascii =
    IsAscii-append part (45 ∷ join_with_byte 45 (next ∷ parts)) ascii.0
    (IsAscii-cons 45 _ (below-ascii 45 refl) (IsAscii-join (next ∷ parts) ascii.1))

IsAscii-with_build : (build : Option (List ℕ)) (tags : List (List ℕ)) → option_map_or is_build_tag build true ≡ true
    → AllByRecursion IsAscii tags → AllByRecursion IsAscii (with_build build tags)
IsAscii-with_build None tags passes ascii = ascii
IsAscii-with_build (Some build) tags passes ascii = (IsAscii-tag build (and_parts _ _ passes).0, ascii)

IsAscii-parts : (cut : WheelCut) → HasWheelParts cut → AllByRecursion IsAscii (parts_of cut)
IsAscii-parts cut parts =
    let tags : AllByRecursion IsAscii (cut.python ∷ cut.abi ∷ cut.platform ∷ []) =
    (IsAscii-tag cut.python parts.python, (IsAscii-tag cut.abi parts.abi, (IsAscii-tag cut.platform parts.platform, tt))) in (
      IsAscii-name cut.distribution parts.name,
      (IsAscii-version_text cut.version parts.version, IsAscii-with_build cut.build _ parts.build tags),
    )

IsAscii-Spells : (f project release : List ℕ) (kind : FileKind) → Spells f project release kind → IsAscii f
IsAscii-Spells f project release Wheel spells =
    let wheel = spells.2 in
    subst IsAscii (sym wheel.is_name)
    (IsAscii-append (join_with_byte 45 (parts_of wheel.cut)) (codes ".whl")
    (IsAscii-join (parts_of wheel.cut) (IsAscii-parts wheel.cut (HasWheelParts-cut wheel.cut wheel.is_cut)))
    (IsAscii-list_all (λ c. nat_lt c 128) below-ascii (codes ".whl") refl))
IsAscii-Spells f project release Source spells =
    let source = spells.2 in
    let parts = and_parts _ _ source.is_cut in
    let front = IsAscii-append source.cut.name (codes "-") (IsAscii-name source.cut.name parts.0)
    (IsAscii-list_all (λ c. nat_lt c 128) below-ascii (codes "-") refl) in
    let stem = IsAscii-append (source.cut.name ++ codes "-") source.cut.version front (IsAscii-version_text source.cut.version parts.1) in
    subst IsAscii (sym source.is_name)
    (IsAscii-append (source.cut.name ++ codes "-" ++ source.cut.version) (codes ".tar.gz") stem
    (IsAscii-list_all (λ c. nat_lt c 128) below-ascii (codes ".tar.gz") refl))

pub IsAscii-file_name : (f : List ℕ) (spelled : Spelled) → read_file_name f ≡ Some spelled → IsAscii f
IsAscii-file_name f spelled reads =
    IsAscii-Spells f spelled.project spelled.release spelled.kind (IsSpelled-read f spelled reads)

pub ruleset texts = (IsAscii-version_text)
