-- What is read of a file name is what it spells.
use Rattle.std.proofs.Common.{◌≡◌, ◌≢◌, ℕ, ◌-◌, ◌≤◌, true, false, cond, not, List, [], ◌∷◌, ◌++◌, Option, Some, None, length, take, drop}
use Rattle.std.proofs.Common.{refl, sym, ap, ◌∙◌, subst, arith, length-append, append_assoc, nat_le, inl, inr}
use Rattle.std.specs.Prelude.{codes, bytes_eq, option_and_then}
use Rattle.std.specs.List.{join_with_byte, slice_split, before_last, after_last, AllByRecursion}
use Rattle.std.specs.Option.{option_map_or}
use Rattle.std.proofs.Math.Seq.{take-append_seam, drop-append_seam}
use Rattle.std.proofs.lemmas.Bool.{and_parts, cases_Bool, cond-true, cond-false, false≢true, le-leb, leb-true}
use Rattle.std.proofs.lemmas.Bool.Decides.{nat_tests}
use Rattle.std.proofs.lemmas.List.{take-append-drop}
use Rattle.std.proofs.lemmas.List.Splits.{join_with_byte-slice_split}
use Rattle.std.proofs.lemmas.Option.{none-some, same_Some, option_and_then_some}
use Rattle.std.proofs.lemmas.Slice.Eq.{bytes_eq-Decides}
use Rattle.index_names.specs.declared.file_name.FileKind.{FileKind}
use Rattle.index_names.specs.declared.file_name.FileKind.TheVariants.{Wheel, Source}
use Rattle.index_names.specs.Project.{is_project_name, normal_form}
use Rattle.index_names.specs.Release.{is_version_byte, is_version_text, named_release}
use Rattle.index_names.specs.FileName.{Spelled, wheel_cut_of, spelled_by_wheel, spelled_by_source, read_wheel, read_source, strip_suffix}
use Rattle.index_names.specs.FileName.{read_stem, read_file_name}
use Rattle.index_names.specs.Spelling.{WheelCut, SourceCut, Spells, is_hyphen, is_tag_byte, is_tag, is_build_tag, is_wheel_cut}
use Rattle.index_names.specs.Spelling.{is_source_cut, with_build, parts_of, wheel_name, source_name}
use Rattle.index_names.proofs.HyphenLemmas.{LacksHyphen, LacksHyphen-list_all, before_last-split, after_last-split, join-last}
use Rattle.index_names.proofs.HyphenLemmas.{slice_split-join}
use Rattle.index_names.proofs.WheelCuts.{HasWheelParts, HasWheelParts-cut, spelled_by_wheel-passing}

abbrev pub IsSpelled : List ℕ → Spelled → Type 0
IsSpelled f spelled = Spells f spelled.project spelled.release spelled.kind

-- ---- the end of a file name

strip_suffix-append : (stem suffix : List ℕ) → strip_suffix suffix (stem ++ suffix) ≡ Some stem
strip_suffix-append stem suffix =
    let at : length (stem ++ suffix) - length suffix ≡ length stem = omega (arith, length-append stem suffix) in
    let end : drop (length (stem ++ suffix) - length suffix) (stem ++ suffix) ≡ suffix =
    ap (λ n. drop n (stem ++ suffix)) at ∙ drop-append_seam stem suffix in
    cond-true _ _ _ ((bytes_eq-Decides _ suffix).1 end)
    ∙ ap (λ n. Some (take n (stem ++ suffix))) at
    ∙ ap (λ y. Some y) (take-append_seam stem suffix)

append-strip_suffix : (suffix f stem : List ℕ) → strip_suffix suffix f ≡ Some stem → f ≡ stem ++ suffix
append-strip_suffix suffix f stem stripped =
    let n : ℕ = length f - length suffix in
    elim (cases_Bool (bytes_eq (drop n f) suffix)) [
      | inl same ↦
          let front : take n f ≡ stem = same_Some _ _ (sym (cond-true _ (Some (take n f)) None same) ∙ stripped) in
          let end : drop n f ≡ suffix = (bytes_eq-Decides _ suffix).0 same in
          sym (take-append-drop n f) ∙ (λ i. front i ++ end i)
      | inr other ↦ absurd (none-some stem (sym (cond-false _ (Some (take n f)) None other) ∙ stripped))
    ]

-- a source archive's name does not end as a wheel's
strip_suffix-source : (x : List ℕ) → strip_suffix (codes ".whl") (x ++ codes ".tar.gz") ≡ None
strip_suffix-source x =
    let f : List ℕ = x ++ codes ".tar.gz" in
    let is : f ≡ (x ++ codes ".ta") ++ codes "r.gz" = sym (append_assoc x (codes ".ta") (codes "r.gz")) in
    let at : length f - 4 ≡ length (x ++ codes ".ta") = omega (arith, length-append x (codes ".tar.gz"), length-append x (codes ".ta")) in
    let end : drop (length f - 4) f ≡ codes "r.gz" =
    (λ i. drop (at i) (is i)) ∙ drop-append_seam (x ++ codes ".ta") (codes "r.gz") in
    cond-false _ _ _ (ap (λ y. bytes_eq y (codes ".whl")) end)

-- ---- the parts of a wheel's name

version_byte-apart : (c : ℕ) → is_version_byte c ≡ true → is_hyphen c ≡ false
version_byte-apart c passes = grind (arith, nat_tests)

tag_byte-apart : (c : ℕ) → is_tag_byte c ≡ true → is_hyphen c ≡ false
tag_byte-apart c passes = grind (arith, nat_tests)

other-apart : (c : ℕ) → not (is_hyphen c) ≡ true → is_hyphen c ≡ false
other-apart c passes = grind (arith, nat_tests)

LacksHyphen-version : (x : List ℕ) → is_version_text x ≡ true → LacksHyphen x
LacksHyphen-version x passes =
    LacksHyphen-list_all is_version_byte version_byte-apart x (and_parts _ _ (and_parts _ _ (and_parts _ _ passes).0).0).1

LacksHyphen-tag : (x : List ℕ) → is_tag x ≡ true → LacksHyphen x
LacksHyphen-tag x passes = LacksHyphen-list_all is_tag_byte tag_byte-apart x (and_parts _ _ passes).1

-- each part of a wheel's cut stands between hyphens
LacksHyphen-with_build : (build : Option (List ℕ)) (tags : List (List ℕ)) → option_map_or is_build_tag build true ≡ true
    → AllByRecursion LacksHyphen tags → AllByRecursion LacksHyphen (with_build build tags)
LacksHyphen-with_build None tags passes lack = lack
LacksHyphen-with_build (Some build) tags passes lack = (LacksHyphen-tag build (and_parts _ _ passes).0, lack)

LacksHyphen-parts : (cut : WheelCut) → HasWheelParts cut → AllByRecursion LacksHyphen (parts_of cut)
LacksHyphen-parts cut parts =
    let tags : AllByRecursion LacksHyphen (cut.python ∷ cut.abi ∷ cut.platform ∷ []) =
    (LacksHyphen-tag cut.python parts.python, (LacksHyphen-tag cut.abi parts.abi, (LacksHyphen-tag cut.platform parts.platform, tt))) in (
      LacksHyphen-list_all (λ c. not (is_hyphen c)) other-apart cut.distribution parts.apart,
      (LacksHyphen-version cut.version parts.version, LacksHyphen-with_build cut.build _ parts.build tags),
    )

-- the parts by their number are the cut that has these parts
cut_from_parts : (cut : WheelCut) (build : Option (List ℕ)) → cut.build ≡ build → wheel_cut_of (parts_of cut) ≡ Some cut
cut_from_parts cut None is = subst (λ o. wheel_cut_of
    (cut.distribution ∷ cut.version ∷ with_build o (cut.python ∷ cut.abi ∷ cut.platform ∷ [])) ≡ Some (record cut { build = o })) (sym is)
    refl
cut_from_parts cut (Some build) is = subst (λ o. wheel_cut_of
    (cut.distribution ∷ cut.version ∷ with_build o (cut.python ∷ cut.abi ∷ cut.platform ∷ [])) ≡ Some (record cut { build = o })) (sym is)
    refl

parts_from_cut : (parts : List (List ℕ)) (cut : WheelCut) → wheel_cut_of parts ≡ Some cut → parts ≡ parts_of cut
parts_from_cut [] cut is = absurd (none-some cut is)
parts_from_cut (a ∷ []) cut is = absurd (none-some cut is)
parts_from_cut (a ∷ b ∷ []) cut is = absurd (none-some cut is)
parts_from_cut (a ∷ b ∷ c ∷ []) cut is = absurd (none-some cut is)
parts_from_cut (a ∷ b ∷ c ∷ d ∷ []) cut is = absurd (none-some cut is)
parts_from_cut (a ∷ b ∷ c ∷ d ∷ e ∷ []) cut is = ap parts_of (same_Some _ cut is)
parts_from_cut (a ∷ b ∷ c ∷ d ∷ e ∷ f ∷ []) cut is = ap parts_of (same_Some _ cut is)
parts_from_cut (a ∷ b ∷ c ∷ d ∷ e ∷ f ∷ g ∷ more) cut is = absurd (none-some cut is)

read_wheel-cut : (cut : WheelCut) → is_wheel_cut cut ≡ true
    → read_wheel (join_with_byte 45 (parts_of cut))
    ≡ Some (record { project = normal_form cut.distribution; release = named_release cut.version; kind = Wheel })
read_wheel-cut cut passes =
    ap (λ parts. option_and_then spelled_by_wheel (wheel_cut_of parts))
    (slice_split-join cut.distribution (cut.version ∷ with_build cut.build (cut.python ∷ cut.abi ∷ cut.platform ∷ []))
    (LacksHyphen-parts cut (HasWheelParts-cut cut passes)))
    ∙ ap (option_and_then spelled_by_wheel) (cut_from_parts cut cut.build refl)
    ∙ spelled_by_wheel-passing cut passes

IsSpelled-wheel : (f stem : List ℕ) (spelled : Spelled) → length f ≤ 255 → f ≡ stem ++ codes ".whl" → read_wheel stem ≡ Some spelled
    → IsSpelled f spelled
IsSpelled-wheel f stem spelled short is reads =
    option_and_then_some spelled_by_wheel (wheel_cut_of (slice_split is_hyphen stem)) spelled reads (λ cut found spells.
    elim (cases_Bool (is_wheel_cut cut)) [
      | inl passes ↦
          let same : record { project = normal_form cut.distribution; release = named_release cut.version; kind = Wheel } ≡ spelled =
          same_Some _ spelled (sym (spelled_by_wheel-passing cut passes) ∙ spells) in
          let joined : stem ≡ join_with_byte 45 (parts_of cut) =
          sym (join_with_byte-slice_split 45 stem) ∙ ap (join_with_byte 45) (parts_from_cut (slice_split is_hyphen stem) cut found) in
          let named : f ≡ wheel_name cut = is ∙ ap (λ y. y ++ codes ".whl") joined in
          subst (IsSpelled f) same (
            omega (arith, ap length named, length-append (join_with_byte 45 (parts_of cut)) (codes ".whl")),
            short,
            record { cut = cut; is_name = named; is_cut = passes; is_project = refl; is_release = refl },
          )
      | inr fails ↦ absurd (none-some spelled (sym (cond-false _ _ _ fails) ∙ spells))
    ])

-- ---- the parts of a source archive's name

spelled_by_source-passing : (cut : SourceCut) → is_source_cut cut ≡ true
    → spelled_by_source cut ≡ Some (record { project = normal_form cut.name; release = named_release cut.version; kind = Source })
spelled_by_source-passing cut passes =
    ap (λ b. cond b (Some (record { project = normal_form cut.name; release = named_release cut.version; kind = Source })) None) passes

read_source-cut : (cut : SourceCut) → is_source_cut cut ≡ true
    → read_source (cut.name ++ 45 ∷ cut.version)
    ≡ Some (record { project = normal_form cut.name; release = named_release cut.version; kind = Source })
read_source-cut cut passes =
    let lacks : LacksHyphen cut.version = LacksHyphen-version cut.version (and_parts _ _ passes).1 in
    let before = before_last-split cut.name cut.version lacks in
    let after = after_last-split cut.name cut.version lacks in
    (λ i. spelled_by_source (record { name = before i; version = after i })) ∙ spelled_by_source-passing cut passes

-- the hyphen of a source archive's name joins what stands before it and after it
source_stem : (name version : List ℕ) → name ++ codes "-" ++ version ≡ name ++ 45 ∷ version
source_stem name version = append_assoc name (codes "-") version

IsSpelled-source : (f stem : List ℕ) (spelled : Spelled) → length f ≤ 255 → f ≡ stem ++ codes ".tar.gz" → read_source stem ≡ Some spelled
    → IsSpelled f spelled
IsSpelled-source f stem spelled short is reads =
    let cut : SourceCut = record { name = before_last is_hyphen stem; version = after_last is_hyphen stem } in
    elim (cases_Bool (is_source_cut cut)) [
      | inl passes ↦
          let same : record { project = normal_form cut.name; release = named_release cut.version; kind = Source } ≡ spelled =
          same_Some _ spelled (sym (spelled_by_source-passing cut passes) ∙ reads) in
          let something : before_last is_hyphen stem ≢ [] = λ none. false≢true (ap is_project_name (sym none) ∙ (and_parts _ _ passes).0) in
          let joined : stem ≡ cut.name ++ codes "-" ++ cut.version = join-last stem something ∙ sym (source_stem cut.name cut.version) in
          let named : f ≡ source_name cut = is ∙ ap (λ y. y ++ codes ".tar.gz") joined in
          subst (IsSpelled f) same (
            omega (arith, ap length is, length-append stem (codes ".tar.gz")),
            short,
            record { cut = cut; is_name = named; is_cut = passes; is_project = refl; is_release = refl },
          )
      | inr fails ↦ absurd (none-some spelled (sym (cond-false _ _ _ fails) ∙ reads))
    ]

-- ---- the whole

IsSpelled-stem : (f : List ℕ) (spelled : Spelled) → length f ≤ 255 → (wheel source : Option (List ℕ))
    → strip_suffix (codes ".whl") f ≡ wheel → strip_suffix (codes ".tar.gz") f ≡ source → read_stem wheel source ≡ Some spelled
    → IsSpelled f spelled
IsSpelled-stem f spelled short (Some stem) source is_wheel is_source reads =
    IsSpelled-wheel f stem spelled short (append-strip_suffix (codes ".whl") f stem is_wheel) reads
IsSpelled-stem f spelled short None (Some stem) is_wheel is_source reads =
    IsSpelled-source f stem spelled short (append-strip_suffix (codes ".tar.gz") f stem is_source) reads
IsSpelled-stem f spelled short None None is_wheel is_source reads = absurd (none-some spelled reads)

-- what is read is spelled
pub IsSpelled-read : (f : List ℕ) (spelled : Spelled) → read_file_name f ≡ Some spelled → IsSpelled f spelled
unfolding read_file_name
IsSpelled-read f spelled reads = elim (cases_Bool (nat_le (length f) 255)) [
  | inl short ↦ IsSpelled-stem f spelled (leb-true _ 255 short) _ _ refl refl (sym (cond-true _ _ _ short) ∙ reads)
  | inr long ↦ absurd (none-some spelled (sym (cond-false _ _ _ long) ∙ reads))
]

-- what is spelled is read
pub read-Spells : (f project release : List ℕ) (kind : FileKind) → Spells f project release kind
    → read_file_name f ≡ Some (record { project = project; release = release; kind = kind })
unfolding read_file_name
read-Spells f project release Wheel spells =
    let wheel = spells.2 in
    cond-true _ _ _ (le-leb _ 255 spells.1)
    ∙ ap (λ o. read_stem o (strip_suffix (codes ".tar.gz") f))
    (ap (strip_suffix (codes ".whl")) wheel.is_name ∙ strip_suffix-append (join_with_byte 45 (parts_of wheel.cut)) (codes ".whl"))
    ∙ read_wheel-cut wheel.cut wheel.is_cut
    ∙ (λ i. Some (record { project = sym wheel.is_project i; release = sym wheel.is_release i; kind = Wheel }))
read-Spells f project release Source spells =
    let source = spells.2 in
    let stem = source.cut.name ++ codes "-" ++ source.cut.version in
    let no_wheel : strip_suffix (codes ".whl") f ≡ None = ap (strip_suffix (codes ".whl")) source.is_name ∙ strip_suffix-source stem in
    let stripped : strip_suffix (codes ".tar.gz") f ≡ Some stem =
    ap (strip_suffix (codes ".tar.gz")) source.is_name ∙ strip_suffix-append stem (codes ".tar.gz") in
    cond-true _ _ _ (le-leb _ 255 spells.1)
    ∙ (λ i. read_stem (no_wheel i) (stripped i))
    ∙ ap read_source (source_stem source.cut.name source.cut.version)
    ∙ read_source-cut source.cut source.is_cut
    ∙ (λ i. Some (record { project = sym source.is_project i; release = sym source.is_release i; kind = Source }))
