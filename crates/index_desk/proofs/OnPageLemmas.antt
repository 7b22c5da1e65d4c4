-- A file that is served stands on the page of its project, once, and on no other page.
use Rattle.index_desk.proofs.Words.{◌≡◌, ◌||◌, ℕ, Bool, true, false, cond, ◌&&◌, inl, inr, refl, sym, ap, ◌∙◌, subst, List, [], ◌∷◌, Option}
use Rattle.index_desk.proofs.Words.{Some, None, is_some, map, option_map, option_map_or, AllByRecursion, list_any, IsStrictlySortedBy, get}
use Rattle.index_desk.proofs.Words.{false≢true, and_parts, project_of, FileRecord, FileRow, Bytes, bytes_cmp, same, is_held, History}
use Rattle.index_desk.proofs.Words.{IsLegal, State, Free, Held, Prohibited, state_after, is_held_now, first_upload_after, is_charged_after}
use Rattle.index_desk.proofs.Words.{is_undeleted_after, requires_after, file_of_upload, project_after, record_of_state, same-refl, same-is}
use Rattle.index_desk.proofs.Words.{undeleted_known, file_row_after}
use Rattle.std.proofs.lemmas.Bool.{or_cases}
use Rattle.index_digest.specs.Digest.{sha256}
use Rattle.index_rules.specs.PastFiles.{last_body_after}
use Rattle.index_rules.specs.StandsFor.{body_after}
use Rattle.index_rules.proofs.StandsOn.{tables_of, legal_made}
use Rattle.index_desk.specs.PastRows.{digest_after}
use Rattle.index_desk.specs.OnPages.{has_file, IsOnItsPage, RefutesOtherBytes, ServesWhatItShows, ShowsWhatItServes}

some_is : {A : Type 0} (o : Option A) → is_some o ≡ true → (x : A) × (o ≡ Some x)
some_is None there = absurd (false≢true there)
some_is (Some x) there = (x, refl)

any-rows : (h : History) (f : Bytes) (files : List Bytes) → has_file f (map (file_row_after h) files) ≡ list_any (same f) files
any-rows h f [] = refl
any-rows h f (g ∷ files) = ap (λ b. same f g || b) (any-rows h f files)

files-rows : (h : History) (files : List Bytes) → map (λ row. row.file) (map (file_row_after h) files) ≡ files
files-rows h [] = refl
files-rows h (g ∷ files) = ap (λ rest. g ∷ rest) (files-rows h files)

digests-rows : (h : History) (f digest : Bytes) → digest_after h f ≡ digest → (files : List Bytes)
    → AllByRecursion (λ row. row.file ≡ f → row.digest ≡ digest) (map (file_row_after h) files)
digests-rows h f digest is [] = tt
digests-rows h f digest is (g ∷ files) = (λ same. ap (digest_after h) same ∙ is, digests-rows h f digest is files)

held_state : (h : History) (n : Bytes) (s : State) → is_held (record_of_state s (project_after h n)) ≡ is_held_now s
held_state h n Free = refl
held_state h n Held = refl
held_state h n Prohibited = refl

undeleted_of : (h : History) (f bytes : Bytes) → body_after h f ≡ Some bytes → is_undeleted_after h f ≡ true
undeleted_of h f bytes is = by (is_undeleted_after h f) is
  where
    by : (b : Bool) → cond b (Some (last_body_after h f)) None ≡ Some bytes → b ≡ true
    by true is = refl
    by false is = absurd cc

module _ (h : History) (legal : IsLegal h) (f bytes : Bytes) (is : body_after h f ≡ Some bytes) where
  there : is_undeleted_after h f ≡ true
  there = undeleted_of h f bytes is

  first : (x : Bytes × ℕ) × (first_upload_after h f ≡ Some x)
  first = some_is (first_upload_after h f) (undeleted_known h f there)

  abbrev record_there : FileRecord
  record_there = file_of_upload f (requires_after h f) (is_undeleted_after h f) first.0

  found : get (tables_of h).files f ≡ Some record_there
  found = (legal_made h legal).stands.files f ∙ ap (option_map (file_of_upload f (requires_after h f) (is_undeleted_after h f))) first.1

  on_page : IsOnItsPage h f bytes
  on_page = record {
    held = sym (held_state h (project_of f) (state_after h (project_of f)))
        ∙ sym (ap is_held ((legal_made h legal).stands.names (project_of f)))
        ∙ (legal_made h legal).sound.undeleted_held f record_there found there;
    page = λ n rows are. ap (has_file f) are.1.2 ∙ any-rows h f are.1.0 ∙ are.1.1.1 f ∙ ap (λ b. b && same n (project_of f)) there;
    once = λ n rows are. subst (λ files. IsStrictlySortedBy bytes_cmp files)
        (sym (files-rows h are.1.0) ∙ sym (ap (map (λ row. row.file)) are.1.2)) are.1.1.0;
    digest = λ n rows are. subst (λ rows. AllByRecursion (λ row. row.file ≡ f → row.digest ≡ sha256 bytes) rows) (sym are.1.2)
        (digests-rows h f (sha256 bytes) (ap (λ o. option_map_or (λ x. x.0) o []) first.1
        ∙ sym ((legal_made h legal).sound.bytes f bytes record_there ((legal_made h legal).stands.bodies f ∙ is) found).digest)
        are.1.0);
  }

pub serves_what_it_shows : (h : History) → IsLegal h → ServesWhatItShows h
serves_what_it_shows h legal f bytes is = on_page h legal f bytes is

pub shows_what_it_serves : (h : History) → ShowsWhatItServes h
shows_what_it_serves h n f rows are has =
    let charged : is_charged_after h n f ≡ true = sym (are.1.1.1 f) ∙ sym (any-rows h f are.1.0) ∙ sym (ap (has_file f) are.1.2) ∙ has in
    (last_body_after h f, ap (λ b. cond b (Some (last_body_after h f)) None) (and_parts _ _ charged).0)

-- the rows of a file have one digest
one_digest : (f shown served : Bytes) (rows : List FileRow) → has_file f rows ≡ true
    → AllByRecursion (λ row. row.file ≡ f → row.digest ≡ shown) rows
    → AllByRecursion (λ row. row.file ≡ f → row.digest ≡ served) rows → shown ≡ served
one_digest f shown served [] has one other = absurd (false≢true has)
one_digest f shown served (row ∷ rows) has one other = elim (or_cases _ _ has) [
  | inl is ↦ let at : row.file ≡ f = sym (same-is f row.file is) in sym (one.0 at) ∙ other.0 at
  | inr later ↦ one_digest f shown served rows later one.1 other.1
]

pub refutes_other_bytes : (h : History) → IsLegal h → RefutesOtherBytes h
refutes_other_bytes h legal f bytes other rows is are differ =
    let right = on_page h legal f bytes is in (
      right,
      λ wrong. differ (one_digest f (sha256 other) (sha256 bytes) rows (right.page (project_of f) rows are ∙ same-refl (project_of f))
          (wrong.digest (project_of f) rows are) (right.digest (project_of f) rows are)),
    )
