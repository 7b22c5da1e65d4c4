-- A sum over a name's undeleted files, after an upload, after a delete and after the end of a name.
use Rattle.index_rules.proofs.Words.{◌≡◌, ℕ, ◌+◌, true, false, cond, ◌&&◌, inl, inr, refl, sym, ap, ◌∙◌, Option, Some, None, arith}
use Rattle.index_rules.proofs.Words.{option_map_or, get, insert, entries, and-false, cases_Bool, FileRecord, Bytes, same, change_values}
use Rattle.index_rules.proofs.Words.{Tables, is_undeleted, as_deleted, as_deleted_of, is_undeleted_of, undeleted_count_in}
use Rattle.index_rules.proofs.OwnerLists.{same-is}
use Rattle.index_rules.proofs.Totals.{total_of, total-insert, total-at, total-changed}

module _ (size : FileRecord → ℕ) where
  abbrev weight : Bytes → FileRecord → ℕ
  weight name known = cond (is_undeleted_of name known) (size known) 0

  weight-deleted : (name : Bytes) (found : Option FileRecord) → is_undeleted found ≡ false → option_map_or (weight name) found 0 ≡ 0
  weight-deleted name None deleted = refl
  weight-deleted name (Some known) deleted = λ i. cond (deleted i && same name known.project) (size known) 0

  -- grows for the uploaded file's project, and for no other name
  pub total-upload : (T : Tables) (file : Bytes) (known : FileRecord) → known.is_undeleted ≡ true → is_undeleted (get T.files file) ≡ false
      → (name : Bytes)
      → total_of (weight name) (entries (insert T.files file known))
      ≡ total_of (weight name) (entries T.files) + cond (same name known.project) (size known) 0
  total-upload T file known undeleted deleted name =
      let new : weight name known ≡ cond (same name known.project) (size known) 0 =
      λ i. cond (undeleted i && same name known.project) (size known) 0 in
      omega (arith, total-insert (weight name) T.files file known, weight-deleted name (get T.files file) deleted, new)

  -- falls by as much if that file is deleted
  pub total-delete : (T : Tables) (file : Bytes) (known : FileRecord) → known.is_undeleted ≡ true → get T.files file ≡ Some known
      → (name : Bytes)
      → total_of (weight name) (entries (insert T.files file (as_deleted known))) + cond (same name known.project) (size known) 0
      ≡ total_of (weight name) (entries T.files)
  total-delete T file known undeleted there name =
      let old : option_map_or (weight name) (get T.files file) 0 ≡ cond (same name known.project) (size known) 0 =
      ap (λ o. option_map_or (weight name) o 0) there ∙ (λ i. cond (undeleted i && same name known.project) (size known) 0) in
      omega (arith, total-insert (weight name) T.files file (as_deleted known), old)

  weight-other : (n : Bytes) (known : FileRecord) → same n known.project ≡ false → weight n known ≡ 0
  weight-other n known other = ap (λ b. cond (known.is_undeleted && b) (size known) 0) other
      ∙ ap (λ b. cond b (size known) 0) (and-false known.is_undeleted)

  -- is as before for each other name if all of a name are deleted
  pub total-delete_all : (T : Tables) (name n : Bytes) → same n name ≡ false
      → total_of (weight n) (entries (change_values (as_deleted_of name) T.files)) ≡ total_of (weight n) (entries T.files)
  total-delete_all T name n other = total-changed (weight n) (as_deleted_of name) T.files (λ known.
      elim (same name known.project) as (λ b. same name known.project ≡ b → weight n (cond b (as_deleted known) known) ≡ weight n known) [
        | true ↦ λ is. sym (weight-other n known (ap (same n) (sym (same-is name known.project is)) ∙ other))
        | false ↦ λ _. refl
      ] refl)

-- if the files of a name are none, each is of another name or deleted
pub none_undeleted : (T : Tables) (name : Bytes) → undeleted_count_in T name ≡ 0 → (file : Bytes) (known : FileRecord)
    → get T.files file ≡ Some known → is_undeleted_of name known ≡ false
none_undeleted T name none file known there = elim (cases_Bool (is_undeleted_of name known)) [
  | inl e ↦
      let counts : weight (λ _. 1) name known ≡ 1 = λ i. cond (e i) 1 0 in
      absurd (omega (arith, total-at (weight (λ _. 1) name) T.files file known there, counts, none))
  | inr e ↦ e
]
