-- What tables add up and find of a name's files is what a history does, if they have the history's files.
use Rattle.index_rules.proofs.Words.{◌≡◌, ℕ, Bool, true, false, cond, ◌&&◌, refl, sym, ap, ◌∙◌, Option, Some, None, is_some, option_map}
use Rattle.index_rules.proofs.Words.{sum_by, option_map_or, list_any, get, false≢true, project_of, release_of, FileRecord, Bytes, same}
use Rattle.index_rules.proofs.Words.{Tables, is_undeleted_of_release, has_release_in, is_undeleted_of, charged_size, charge_in}
use Rattle.index_rules.proofs.Words.{undeleted_count_in, History, first_upload_after, is_undeleted_after, requires_after}
use Rattle.index_rules.proofs.Words.{uploaded_files_after, charge_after, undeleted_count_after, is_charged_after, size_after}
use Rattle.index_rules.proofs.Words.{has_release_after, file_of_upload, file_after}
use Rattle.index_rules.proofs.PastWords.{Apart-uploaded, known_is_uploaded, undeleted_known}
use Rattle.index_rules.proofs.ListTotals.{HasKeys, total-listed, any-listed}

pub is_some-map : {A B : Type 0} (part : A → B) (o : Option A) → is_some (option_map part o) ≡ is_some o
is_some-map part None = refl
is_some-map part (Some x) = refl

-- ---- what one file counts for

-- an undeleted file of the name is one
abbrev pub one_if_undeleted : Bytes → FileRecord → ℕ
one_if_undeleted n known = cond (is_undeleted_of n known) 1 0

module _ (h : History) (n f : Bytes) where
  pub charged_at : option_map_or (charged_size n) (file_after h f) 0 ≡ cond (is_charged_after h n f) (size_after h f) 0
  charged_at = by (first_upload_after h f) (is_undeleted_after h f) (undeleted_known h f)
    where
      by : (o : Option (Bytes × ℕ)) (b : Bool) → (b ≡ true → is_some o ≡ true)
          → option_map_or (charged_size n) (option_map (file_of_upload f (requires_after h f) b) o) 0
          ≡ cond (b && same n (project_of f)) (option_map_or (λ first. first.1) o 0) 0
      by None true there = absurd (false≢true (there refl))
      by None false there = refl
      by (Some first) b there = refl

  pub one_if_undeleted_at : option_map_or (one_if_undeleted n) (file_after h f) 0 ≡ cond (is_charged_after h n f) 1 0
  one_if_undeleted_at = by (first_upload_after h f) (is_undeleted_after h f) (undeleted_known h f)
    where
      by : (o : Option (Bytes × ℕ)) (b : Bool) → (b ≡ true → is_some o ≡ true)
          → option_map_or (one_if_undeleted n) (option_map (file_of_upload f (requires_after h f) b) o) 0
          ≡ cond (b && same n (project_of f)) 1 0
      by None true there = absurd (false≢true (there refl))
      by None false there = refl
      by (Some first) b there = refl

  pub released_at : (r : Bytes) → option_map_or (is_undeleted_of_release n r) (file_after h f) false
      ≡ (is_charged_after h n f && same r (release_of f))
  released_at r = by (first_upload_after h f) (is_undeleted_after h f) (undeleted_known h f)
    where
      by : (o : Option (Bytes × ℕ)) (b : Bool) → (b ≡ true → is_some o ≡ true)
          → option_map_or (is_undeleted_of_release n r) (option_map (file_of_upload f (requires_after h f) b) o) false
          ≡ ((b && same n (project_of f)) && same r (release_of f))
      by None true there = absurd (false≢true (there refl))
      by None false there = refl
      by (Some first) true there = refl
      by (Some first) false there = refl

-- ---- over all files

module _ (T : Tables) (h : History) (files : (f : Bytes) → get T.files f ≡ file_after h f) where
  has_keys : HasKeys T.files (uploaded_files_after h)
  has_keys f there = sym (known_is_uploaded h f) ∙ sym (is_some-map _ (first_upload_after h f)) ∙ ap is_some (sym (files f)) ∙ there

  -- the charge of a name
  pub charge_agrees : (n : Bytes) → charge_in T n ≡ charge_after h n
  charge_agrees n =
      sym (total-listed (charged_size n) T.files (uploaded_files_after h) (Apart-uploaded h) has_keys)
      ∙ (λ i. sum_by (λ f. (ap (λ o. option_map_or (charged_size n) o 0) (files f) ∙ charged_at h n f) i) (uploaded_files_after h))

  -- how many undeleted files it has
  pub count_agrees : (n : Bytes) → undeleted_count_in T n ≡ undeleted_count_after h n
  count_agrees n =
      sym (total-listed (one_if_undeleted n) T.files (uploaded_files_after h) (Apart-uploaded h) has_keys)
      ∙ (λ i. sum_by (λ f. (ap (λ o. option_map_or (one_if_undeleted n) o 0) (files f) ∙ one_if_undeleted_at h n f) i)
      (uploaded_files_after h))

  -- whether a release of it has one
  pub has_release_agrees : (n r : Bytes) → has_release_in T n r ≡ has_release_after h n r
  has_release_agrees n r =
      any-listed (is_undeleted_of_release n r) T.files (uploaded_files_after h) has_keys
      ∙ (λ i. list_any (λ f. (ap (λ o. option_map_or (is_undeleted_of_release n r) o false) (files f) ∙ released_at h n f r) i)
      (uploaded_files_after h))
