-- A file that is found by its name alone tells of its release.
use Rattle.index_sql_reads.proofs.Words.{◌≡◌, true, Bool, Some, None, is_some, refl, sym, ◌∙◌, get, entries, has_release_in, Tables}
use Rattle.std.proofs.Common.{find}
use Rattle.std.proofs.lemmas.Bool.{false≢true}
use Rattle.sqlite_keyed.proofs.SliceLemmas.{any_is_found}
use Rattle.index_rules.specs.Maps.{Bytes}
use Rattle.index_rules.specs.Facts.{is_undeleted_of_release}
use Rattle.index_rules.specs.declared.records.FileRecord.{FileRecord}
use Rattle.index_rules.proofs.EntryLemmas.{get-missed}

-- the release has the file, if that is undeleted
pub release_is_there : (T : Tables) (name release file : Bytes) (known : FileRecord) → get T.files file ≡ Some known
    → is_undeleted_of_release name release known ≡ true → has_release_in T name release ≡ true
release_is_there T name release file known at is =
    let test : Bytes × FileRecord → Bool = λ it. is_undeleted_of_release name release it.1 in
    any_is_found test (entries T.files) ∙ (elim (find test (entries T.files)) as (λ o. find test (entries T.files) ≡ o → is_some o ≡ true) [
      | None ↦ λ missed. absurd (false≢true (sym (get-missed T.files test file known missed at) ∙ is))
      | Some e ↦ λ _. refl
    ] refl)
