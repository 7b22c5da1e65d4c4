-- The rows of tables are those that a history makes for which the tables stand.
use Rattle.index_desk.proofs.Words.{◌≡◌, ℕ, Bool, true, false, cond, ◌&&◌, refl, sym, ap, ◌∙◌, [], Option, Some, None, is_some, option_map}
use Rattle.index_desk.proofs.Words.{option_map_or, get, entries, false≢true, and_parts, project_of, FileRecord, NameRecord, Bytes, same}
use Rattle.index_desk.proofs.Words.{Tables, name_row, is_held_row, held_rows_in, file_row_in, file_rows_in, is_held, is_undeleted_of}
use Rattle.index_desk.proofs.Words.{History, State, Free, Held, Prohibited, state_after, is_held_now, first_upload_after, is_charged_after}
use Rattle.index_desk.proofs.Words.{is_undeleted_after, requires_after, StandsFor, record_of_state, project_after, file_of_upload, same-is}
use Rattle.index_desk.proofs.Words.{undeleted_known, AreHeldRowsAfter, AreProjectRowsAfter, file_row_after, project_rows_in}
use Rattle.index_names.specs.FileName.{release_of}
use Rattle.index_rules.specs.declared.records.NameRecord.TheVariants as known
use Rattle.index_rules.specs.Facts.{yank_in}
use Rattle.index_rules.specs.PastNames.{yank_after}
use Rattle.index_desk.specs.PastRows.{AreFileRowsAfter, held_row_after}
use Rattle.index_desk.proofs.EntryRows.{keys_where, AreThose-keys_where, each_entry, rows_by_key, filter-rows}

abbrev is_held_entry : Bytes × NameRecord → Bool
is_held_entry entry = is_held (Some entry.1)

abbrev is_entry_of : Bytes → Bytes × FileRecord → Bool
is_entry_of name entry = is_undeleted_of name entry.1

module _ (h : History) (T : Tables) (stands : StandsFor T h) where
  -- ---- names

  held_by : (n : Bytes) (s : State) → is_held (record_of_state s (project_after h n)) ≡ is_held_now s
  held_by n Free = refl
  held_by n Held = refl
  held_by n Prohibited = refl

  pub is_held_agrees : (n : Bytes) → is_held (get T.names n) ≡ is_held_now (state_after h n)
  is_held_agrees n = ap is_held (stands.names n) ∙ held_by n (state_after h n)

  held_found : (o : Option NameRecord) → option_map_or (λ record_of. is_held (Some record_of)) o false ≡ is_held o
  held_found None = refl
  held_found (Some found) = refl

  row_of_name : (n : Bytes) (found : NameRecord) → get T.names n ≡ Some found → is_held (Some found) ≡ true
      → name_row (n, found) ≡ held_row_after h n
  row_of_name n found there held = by (state_after h n) (sym (stands.names n) ∙ there)
    where
      by : (s : State) → record_of_state s (project_after h n) ≡ Some found → name_row (n, found) ≡ held_row_after h n
      by Free is = cc
      by Held is = let found_is : known.Held (project_after h n) ≡ found = cc in ap (λ r. name_row (n, r)) (sym found_is)
      by Prohibited is = let found_is : known.Prohibited ≡ found = cc in absurd (false≢true (ap (λ r. is_held (Some r)) found_is ∙ held))

  pub AreHeldRowsAfter-held_rows_in : AreHeldRowsAfter h (held_rows_in T)
  AreHeldRowsAfter-held_rows_in = (
    keys_where is_held_entry (entries T.names),
    AreThose-keys_where is_held_entry T.names (λ n. is_held_now (state_after h n)) (λ n. held_found (get T.names n) ∙ is_held_agrees n),
    filter-rows is_held_row name_row (entries T.names)
        ∙ rows_by_key is_held_entry name_row (held_row_after h) (entries T.names)
        (each_entry (λ e. is_held_entry e ≡ true → name_row e ≡ held_row_after h e.0) T.names row_of_name),
  )

  -- ---- files

  charged_by : (n f : Bytes) (o : Option (Bytes × ℕ)) (b : Bool) → (b ≡ true → is_some o ≡ true)
      → option_map_or (is_undeleted_of n) (option_map (file_of_upload f (requires_after h f) b) o) false ≡ (b && same n (project_of f))
  charged_by n f None true there = absurd (false≢true (there refl))
  charged_by n f None false there = refl
  charged_by n f (Some first) b there = refl

  is_charged_agrees : (n f : Bytes) → option_map_or (is_undeleted_of n) (get T.files f) false ≡ is_charged_after h n f
  is_charged_agrees n f =
      ap (λ o. option_map_or (is_undeleted_of n) o false) (stands.files f)
      ∙ charged_by n f (first_upload_after h f) (is_undeleted_after h f) (undeleted_known h f)

  row_of_file : (n f : Bytes) (found : FileRecord) → get T.files f ≡ Some found → is_undeleted_of n found ≡ true
      → file_row_in T n (f, found) ≡ file_row_after h f
  row_of_file n f found there mine = by (first_upload_after h f) refl (sym (stands.files f) ∙ there)
    where
      by : (o : Option (Bytes × ℕ)) → first_upload_after h f ≡ o
          → option_map (file_of_upload f (requires_after h f) (is_undeleted_after h f)) o ≡ Some found
          → file_row_in T n (f, found) ≡ file_row_after h f
      by None is e = cc
      by (Some first) is e =
          let found_is : file_of_upload f (requires_after h f) (is_undeleted_after h f) first ≡ found = cc in
          let name : n ≡ project_of f = same-is n (project_of f)
          (ap (λ (r : FileRecord). same n r.project) found_is ∙ (and_parts _ _ mine).1) in
          let yanked : yank_in T n (release_of f) ≡ yank_after h (project_of f) (release_of f) =
          stands.yanks n (release_of f) ∙ ap (λ m. yank_after h m (release_of f)) name in
          ap (λ r. file_row_in T n (f, r)) (sym found_is)
          ∙ (λ i. record {
            file = f;
            release = release_of f;
            digest = option_map_or (λ d. d.0) (sym is i) [];
            size = option_map_or (λ d. d.1) (sym is i) 0;
            requires_python = requires_after h f;
            yanked = yanked i;
          })

  pub AreFileRowsAfter-file_rows_in : (n : Bytes) → AreFileRowsAfter h n (file_rows_in T n)
  AreFileRowsAfter-file_rows_in n = (
    keys_where (is_entry_of n) (entries T.files),
    AreThose-keys_where (is_entry_of n) T.files (is_charged_after h n) (is_charged_agrees n),
    rows_by_key (is_entry_of n) (file_row_in T n) (file_row_after h) (entries T.files)
        (each_entry (λ e. is_entry_of n e ≡ true → file_row_in T n e ≡ file_row_after h e.0) T.files (row_of_file n)),
  )

  pub AreProjectRowsAfter-project_rows_in : (n : Bytes) → AreProjectRowsAfter h n (project_rows_in T n)
  AreProjectRowsAfter-project_rows_in n = elim (is_held (get T.names n)) as (λ b. is_held (get T.names n) ≡ b
      → AreProjectRowsAfter h n (cond b (Some (file_rows_in T n)) None)) [
        | true ↦ λ held. (sym (is_held_agrees n) ∙ held, AreFileRowsAfter-file_rows_in n)
        | false ↦ λ free. sym (is_held_agrees n) ∙ free
      ] refl
