-- The laws of what a file name spells.
use Rattle.std.proofs.Common.{◌≡◌, ℕ, true, List, [], Option, Some, None, sym, ap, ◌∙◌, refl, subst}
use Rattle.std.specs.Option.{option_map_or}
use Rattle.std.proofs.lemmas.Bool.{and_parts}
use Rattle.std.proofs.lemmas.Option.{none-some, same_Some}
use Rattle.index_names.specs.declared.file_name.FileKind.{FileKind}
use Rattle.index_names.specs.declared.file_name.FileKind.TheVariants.{Wheel, Source}
use Rattle.index_names.specs.Project.{is_project_name, normal_form, IsNormalName}
use Rattle.index_names.specs.Release.{is_version_text, named_release, IsRelease}
use Rattle.index_names.specs.FileName.{Spelled, SpellsAtMostOne, IsReadAsSpelled, IsUnreadWhereUnspelled, read_file_name, project_of}
use Rattle.index_names.specs.FileName.{release_of, kind_of}
use Rattle.index_names.specs.Spelling.{Spells}
use Rattle.index_names.proofs.NormalFormLaws.{IsNormalName-normal_form}
use Rattle.index_names.proofs.ReleaseLaws.{IsRelease-named_release}
use Rattle.index_names.proofs.Spelling.{IsSpelled-read, read-Spells}
use Rattle.index_names.proofs.WheelCuts.{HasWheelParts-cut}

pub spells_at_most_one : (f : List ℕ) → SpellsAtMostOne f
spells_at_most_one f project release other_project other_release kind other_kind spells spells_other =
    let same = same_Some _ _ (sym (read-Spells f project release kind spells)
    ∙ read-Spells f other_project other_release other_kind spells_other) in
    (ap (λ spelled. spelled.project) same, ap (λ spelled. spelled.release) same, ap (λ spelled. spelled.kind) same)

pub read_as_spelled : (f : List ℕ) → IsReadAsSpelled f
read_as_spelled f spelled = (IsSpelled-read f spelled, read-Spells f spelled.project spelled.release spelled.kind)

pub Spells-read_file_name : (f : List ℕ) (spelled : Spelled) → read_file_name f ≡ Some spelled
    → Spells f (project_of f) (release_of f) (kind_of f)
Spells-read_file_name f spelled reads =
    subst (λ read. Spells f (option_map_or (λ s. s.project) read []) (option_map_or (λ s. s.release) read [])
    (option_map_or (λ s. s.kind) read Source)) (sym reads) (IsSpelled-read f spelled reads)

unread : (f : List ℕ) (read : Option Spelled) → read_file_name f ≡ read → ((spelled : Spelled) → ¬ (read_file_name f ≡ Some spelled))
    → read_file_name f ≡ None
unread f None is lacks = is
unread f (Some spelled) is lacks = absurd (lacks spelled is)

pub unread_where_unspelled : (f : List ℕ) → IsUnreadWhereUnspelled f
unread_where_unspelled f = (
  λ none project release kind spells. none-some _ (sym none ∙ read-Spells f project release kind spells),
  λ unspelled. unread f (read_file_name f) refl
      (λ spelled reads. unspelled spelled.project spelled.release spelled.kind (IsSpelled-read f spelled reads)),
)

-- ---- the project and the release of a file name are read as themselves

parts-read : (name version project release : List ℕ) → is_project_name name ≡ true → is_version_text version ≡ true
    → project ≡ normal_form name → release ≡ named_release version → IsNormalName project × IsRelease release
parts-read name version project release is_name is_version is_project is_release = (
  subst IsNormalName (sym is_project) (IsNormalName-normal_form name is_name),
  subst IsRelease (sym is_release) (IsRelease-named_release version is_version),
)

spelled_parts-read : (f project release : List ℕ) (kind : FileKind) → Spells f project release kind
    → IsNormalName project × IsRelease release
spelled_parts-read f project release Wheel spells =
    let wheel = spells.2 in
    let parts = HasWheelParts-cut wheel.cut wheel.is_cut in
    parts-read wheel.cut.distribution wheel.cut.version project release parts.name parts.version wheel.is_project wheel.is_release
spelled_parts-read f project release Source spells =
    let source = spells.2 in
    let parts = and_parts _ _ source.is_cut in
    parts-read source.cut.name source.cut.version project release parts.0 parts.1 source.is_project source.is_release

pub parts-read_file_name : (f : List ℕ) (spelled : Spelled) → read_file_name f ≡ Some spelled
    → IsNormalName spelled.project × IsRelease spelled.release
parts-read_file_name f spelled reads =
    spelled_parts-read f spelled.project spelled.release spelled.kind (IsSpelled-read f spelled reads)
