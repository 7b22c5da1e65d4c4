-- What is shown of a name depends on the entries of that name alone.
use Rattle.index_desk.proofs.Words.{◌≡◌, arith, ◌+◌, ◌&&◌, ℕ, Bool, true, false, cond, inl, inr, refl, sym, ap, ◌∙◌, subst, List, [], ◌∷◌}
use Rattle.index_desk.proofs.Words.{Option, Some, None, map, filter, option_map, option_map_or, list_any, sum_by, false≢true, and_parts}
use Rattle.index_desk.proofs.Words.{project_of, FileRow, Bytes, same, same-refl, same-is, History, State, Free, Held, Prohibited}
use Rattle.index_desk.proofs.Words.{state_after, is_held_now, first_upload_after, is_charged_after}
use Rattle.index_desk.proofs.Words.{project_after, file_row_after, IsStandingAfter, AreProjectRowsAfter}
use Rattle.std.proofs.lemmas.Bool.{or_left, or_right, and_right}
use Rattle.std.proofs.lemmas.Cmp.{nat_list_cmp_total}
use Rattle.std.proofs.lemmas.List.Sums.{sum_by-cons}
use Rattle.std.proofs.lemmas.Map.Lookups.{exact_bytes}
use Rattle.std.proofs.lemmas.Map.Text.{is_eq-slice_cmp}
use Rattle.index_names.specs.FileName.{release_of}
use Rattle.index_rules.specs.declared.standing.Standing.{Standing}
use Rattle.index_rules.specs.declared.standing.Standing.TheVariants as standing
use Rattle.index_rules.specs.PastFiles.{size_after, uploaded_files_after}
use Rattle.index_rules.specs.PastNames.{greatest, owns_after, yank_after}
use Rattle.index_rules.specs.StandsFor.{body_after, record_of_case}
use Rattle.index_rules.proofs.KeyLemmas.{cases_same}
use Rattle.index_rules.proofs.Rising.{same_rising}
use Rattle.index_desk.specs.Lists.{AreThose}
use Rattle.index_desk.specs.Apart.{ShowSame, entries_of}
use Rattle.index_desk.proofs.ApartWords.{body_same, case_same, files_same, first_same, given_same, is_of_name, quota_same, reason_same}
use Rattle.index_desk.proofs.ApartWords.{requires_same, shown_same, state_same, undeleted_same, uploads_same}

-- ---- lists

-- two lists of the same texts are equal
same_texts : (test test' : Bytes → Bool) → ((text : Bytes) → test text ≡ test' text) → (xs ys : List Bytes)
    → AreThose test xs → AreThose test' ys → xs ≡ ys
same_texts test test' each xs ys are are' = same_rising nat_list_cmp_total exact_bytes xs ys are.0 are'.0 (λ q.
    (λ i. list_any (λ y. is_eq-slice_cmp q y i) xs) ∙ are.1 q ∙ each q ∙ sym (are'.1 q)
    ∙ sym (λ i. list_any (λ y. is_eq-slice_cmp q y i) ys))

module _ (n : Bytes) where
  -- a sum over files, in which the name's files alone count, is one over these
  sum_of_name : (w : Bytes → ℕ) → ((f : Bytes) → is_of_name n f ≡ false → w f ≡ 0) → (files : List Bytes)
      → sum_by w files ≡ sum_by w (filter (is_of_name n) files)
  sum_of_name w none [] = refl
  sum_of_name w none (f ∷ files) = sum_by-cons w f files ∙ ap (λ rest. w f + rest) (sum_of_name w none files)
      ∙ elim (is_of_name n f) as (λ b. is_of_name n f ≡ b
      → w f + sum_by w (filter (is_of_name n) files) ≡ sum_by w (cond b (f ∷ filter (is_of_name n) files) (filter (is_of_name n) files))) [
        | true ↦ λ _. sym (sum_by-cons w f (filter (is_of_name n) files))
        | false ↦ λ other. let nothing = none f other in omega (arith, nothing)
      ] refl

  -- rows of the name's files are the same if each of its files has the same row
  same_rows : (row row' : Bytes → FileRow) → ((f : Bytes) → project_of f ≡ n → row f ≡ row' f) → (files : List Bytes)
      → ((f : Bytes) → list_any (same f) files ≡ true → project_of f ≡ n) → map row files ≡ map row' files
  same_rows row row' each [] mine = refl
  same_rows row row' each (f ∷ files) mine =
      λ i. each f (mine f (or_left _ _ (same-refl f))) i ∷ same_rows row row' each files (λ g there. mine g (or_right _ _ there)) i

-- ---- two histories

module _ (n : Bytes) (h h' : History) (agree : entries_of n h ≡ entries_of n h') where
  state : state_after h n ≡ state_after h' n
  state = state_same n h h' agree

  owns : (u : Bytes) → owns_after h n u ≡ owns_after h' n u
  owns u = λ i. is_held_now (state i) && given_same n h h' agree u i

  yank : (release : Bytes) → yank_after h n release ≡ yank_after h' n release
  yank release = λ i. cond (is_held_now (state i)) (reason_same n h h' agree release i) None

  module _ (f : Bytes) (project : project_of f ≡ n) where
    first : first_upload_after h f ≡ first_upload_after h' f
    first = first_same n h h' agree f project

    body : body_after h f ≡ body_after h' f
    body = λ i. cond (undeleted_same n h h' agree f project i) (Some (body_same n h h' agree f project i)) None

    yank_of_file : yank_after h (project_of f) (release_of f) ≡ yank_after h' (project_of f) (release_of f)
    yank_of_file = subst (λ m. yank_after h m (release_of f) ≡ yank_after h' m (release_of f)) (sym project) (yank (release_of f))

    row : file_row_after h f ≡ file_row_after h' f
    row = λ i. record {
      file = f;
      release = release_of f;
      digest = option_map_or (λ digest_and_size. digest_and_size.0) (first i) [];
      size = option_map_or (λ digest_and_size. digest_and_size.1) (first i) 0;
      requires_python = requires_same n h h' agree f project i;
      yanked = yank_of_file i;
    }

  charged : (f : Bytes) → is_charged_after h n f ≡ is_charged_after h' n f
  charged f = elim (cases_same n (project_of f)) [
    | inl mine ↦ ap (λ b. b && same n (project_of f)) (undeleted_same n h h' agree f (sym mine))
    | inr other ↦ and_right _ _ other ∙ sym (and_right _ _ other)
  ]

  -- what a file adds to a sum over the files that the name is charged for
  abbrev weight : (Bytes → ℕ) → History → Bytes → ℕ
  weight w g f = cond (is_charged_after g n f) (w f) 0

  no_weight : (g : History) (w : Bytes → ℕ) (f : Bytes) → is_of_name n f ≡ false → weight w g f ≡ 0
  no_weight g w f other = ap (λ b. cond b (w f) 0) (and_right _ _ other)

  same_weight : (w w' : Bytes → ℕ) → ((f : Bytes) → project_of f ≡ n → w f ≡ w' f) → (f : Bytes) → weight w h f ≡ weight w' h' f
  same_weight w w' each f = elim (cases_same n (project_of f)) [
    | inl mine ↦ λ i. cond (charged f i) (each f (sym mine) i) 0
    | inr other ↦ no_weight h w f other ∙ sym (no_weight h' w' f other)
  ]

  total : (w w' : Bytes → ℕ) → ((f : Bytes) → project_of f ≡ n → w f ≡ w' f)
      → sum_by (weight w h) (uploaded_files_after h) ≡ sum_by (weight w' h') (uploaded_files_after h')
  total w w' each =
      sum_of_name n (weight w h) (no_weight h w) (uploaded_files_after h)
      ∙ (λ i. sum_by (λ f. same_weight w w' each f i) (files_same n h h' agree i))
      ∙ sym (sum_of_name n (weight w' h') (no_weight h' w') (uploaded_files_after h'))

  project : project_after h n ≡ project_after h' n
  project = λ i. record {
    shown = shown_same n h h' agree i;
    quota = quota_same n h h' agree i;
    charge = total (size_after h) (size_after h') (λ f mine. ap (λ o. option_map_or (λ first. first.1) o 0) (first f mine)) i;
    undeleted = total (λ f. 1) (λ f. 1) (λ f mine. refl) i;
    last_upload = greatest (uploads_same n h h' agree i);
  }

  -- ---- what is shown

  abbrev is_free : State → Bool
  is_free Free = true
  is_free Held = false
  is_free Prohibited = false

  standing_agrees : (one other : Standing) → IsStandingAfter h n one → IsStandingAfter h' n other → one ≡ other
  standing_agrees (standing.Free of) (standing.Free of') is is' = ap standing.Free (is.0 ∙ sym is'.0)
  standing_agrees (standing.Free of) (standing.Prohibited of') is is' =
      absurd (false≢true (ap is_free (sym is'.1 ∙ sym state ∙ is.1)))
  standing_agrees (standing.Free of) (standing.Held held') is is' =
      absurd (false≢true (ap is_held_now (sym is.1 ∙ state ∙ is'.1)))
  standing_agrees (standing.Prohibited of) (standing.Free of') is is' =
      absurd (false≢true (ap is_free (sym is.1 ∙ state ∙ is'.1)))
  standing_agrees (standing.Prohibited of) (standing.Prohibited of') is is' = ap standing.Prohibited (is.0 ∙ sym is'.0)
  standing_agrees (standing.Prohibited of) (standing.Held held') is is' =
      absurd (false≢true (ap is_held_now (sym is.1 ∙ state ∙ is'.1)))
  standing_agrees (standing.Held held) (standing.Free of') is is' =
      absurd (false≢true (ap is_held_now (sym is'.1 ∙ sym state ∙ is.1)))
  standing_agrees (standing.Held held) (standing.Prohibited of') is is' =
      absurd (false≢true (ap is_held_now (sym is'.1 ∙ sym state ∙ is.1)))
  standing_agrees (standing.Held held) (standing.Held held') is is' = λ i. standing.Held (record {
    name = (is.0 ∙ sym is'.0) i;
    project = (is.2 ∙ project ∙ sym is'.2) i;
    owners = same_texts (owns_after h n) (owns_after h' n) owns held.owners held'.owners is.3 is'.3 i;
    case = (is.4 ∙ ap (option_map record_of_case) (case_same n h h' agree) ∙ sym is'.4) i;
  })

  page_agrees : (one other : Option (List FileRow)) → AreProjectRowsAfter h n one → AreProjectRowsAfter h' n other → one ≡ other
  page_agrees None None is is' = refl
  page_agrees None (Some rows') is is' = absurd (false≢true (sym is ∙ ap is_held_now state ∙ is'.0))
  page_agrees (Some rows) None is is' = absurd (false≢true (sym is' ∙ ap is_held_now (sym state) ∙ is.0))
  page_agrees (Some rows) (Some rows') (held, (files, are, is)) (held', (files', are', is')) =
      let mine : (f : Bytes) → list_any (same f) files ≡ true → project_of f ≡ n =
      λ f there. sym (same-is n (project_of f) (and_parts _ _ (sym (are.1 f) ∙ there)).1) in
      ap Some (is ∙ same_rows n (file_row_after h) (file_row_after h') row files mine
      ∙ ap (map (file_row_after h')) (same_texts (is_charged_after h n) (is_charged_after h' n) charged files files' are are') ∙ sym is')

  pub show_same : ShowSame n h h'
  show_same = record {
    standing = standing_agrees;
    page = page_agrees;
    bytes = λ f mine one other is is'. is ∙ body f mine ∙ sym is';
  }
