-- The entries of one name, with those on users, are a legal history, and its calls have the same verdicts there.
use Rattle.index_rules.proofs.Words.{◌≡◌, ◌⊎◌, inl, inr, Bool, true, false, cond, not, ◌&&◌, ◌||◌, refl, sym, ap, ◌∙◌, List, Option, Some}
use Rattle.index_rules.proofs.Words.{None, is_some, option_map, option_and_then, sum_by, list_any, list_all, option_map_or, get, entries}
use Rattle.index_rules.proofs.Words.{retain_keys, cases_Bool, and_parts, and_right, or_left, false≢true, project_of, release_of, Call}
use Rattle.index_rules.proofs.Words.{Request, AddUser, SetToken, Upload, Delete, BanFile, FileRecord, Bytes, Map, same, read_file, user_key}
use Rattle.index_rules.proofs.Words.{token_key, name_key, file_key, release_key, is_undeleted_of_release, of_both, at_both, verdict_on}
use Rattle.index_rules.proofs.Words.{charged_size, History, begins, more, is_read_as, user_after, bearer_after, greatest, is_held_now}
use Rattle.index_rules.proofs.Words.{owns_after, receivers_after, owns_alone_after, yank_after, uploaded_files_after, is_banned_after}
use Rattle.index_rules.proofs.Words.{is_charged_after, size_after, charge_after, undeleted_count_after, has_release_after, record_of_state}
use Rattle.index_rules.proofs.Words.{name_after, file_of_upload, file_after, record_of_case, case_record_after, IsLegal, facts_after}
use Rattle.index_rules.proofs.Words.{is_kept, history_of_name}
use Rattle.index_rules.specs.Laws.{StandsAlone}
use Rattle.index_rules.proofs.OwnerLists.{same-is}
use Rattle.index_rules.proofs.KeyLemmas.{same-refl, cases_same, same_truth, get-kept}
use Rattle.index_rules.proofs.EntryLemmas.{list_all-at, list_all-from}
use Rattle.index_rules.proofs.ListTotals.{HasKeys, total-listed, any-listed}
use Rattle.index_rules.proofs.Totals.{total_of}
use Rattle.index_rules.proofs.PastWords.{received, Apart-uploaded, known_is_uploaded}
use Rattle.index_rules.proofs.PastTotals.{is_some-map, one_if_undeleted, charged_at, one_if_undeleted_at, released_at}
use Rattle.index_rules.proofs.Agree.{agree_at}
use Rattle.index_rules.proofs.AloneWords.{user-only, bearer-only, state-only, shown-only, quota-only, uploads-only, case-only, given-only}
use Rattle.index_rules.proofs.AloneWords.{yanked-only, known-only, undeleted-only, banned-only, requires-only}
use Rattle.index_rules.proofs.StandsOn.{tables_of, legal_made}

-- ---- the name's files

module _ (n : Bytes) (h : History) (legal : IsLegal h) where
  abbrev files_of_name : Map FileRecord
  files_of_name = retain_keys (tables_of h).files (λ f. same n (project_of f))

  file_of_name : (f : Bytes) → n ≡ project_of f → get files_of_name f ≡ file_after h f
  file_of_name f is = get-kept (tables_of h).files (λ f. same n (project_of f)) f
      ∙ ap (λ b. cond b (get (tables_of h).files f) None) (ap (same n) (sym is) ∙ same-refl n)
      ∙ (legal_made h legal).stands.files f

  no_other_file : (f : Bytes) → same n (project_of f) ≡ false → get files_of_name f ≡ None
  no_other_file f other = get-kept (tables_of h).files (λ f. same n (project_of f)) f
      ∙ ap (λ b. cond b (get (tables_of h).files f) None) other

  -- a history that makes the same of these files counts and finds the same of them
  module _ (g : History) (agrees : (f : Bytes) → n ≡ project_of f → file_after g f ≡ file_after h f) where
    has_keys : HasKeys files_of_name (uploaded_files_after g)
    has_keys f there = elim (cases_same n (project_of f)) [
      | inl is ↦ sym (known_is_uploaded g f) ∙ sym (is_some-map _ _) ∙ ap is_some (agrees f is ∙ sym (file_of_name f is)) ∙ there
      | inr other ↦ absurd (false≢true (sym (ap is_some (no_other_file f other)) ∙ there))
    ]

    part_at : {A : Type 0} (part : FileRecord → A) (none : A) (found : Bytes → A)
        → ((f : Bytes) → option_map_or part (file_after g f) none ≡ found f)
        → ((f : Bytes) → same n (project_of f) ≡ false → found f ≡ none) → (f : Bytes)
        → found f ≡ option_map_or part (get files_of_name f) none
    part_at part none found here elsewhere f = elim (cases_same n (project_of f)) [
      | inl is ↦ sym (here f) ∙ ap (λ o. option_map_or part o none) (agrees f is ∙ sym (file_of_name f is))
      | inr other ↦ elsewhere f other ∙ sym (ap (λ o. option_map_or part o none) (no_other_file f other))
    ]

    charge_of_name : charge_after g n ≡ total_of (charged_size n) (entries files_of_name)
    charge_of_name =
        (λ i. sum_by (λ f. part_at (charged_size n) 0 (λ f. cond (is_charged_after g n f) (size_after g f) 0) (charged_at g n)
        (λ f other. ap (λ b. cond b (size_after g f) 0) (and_right _ _ other)) f i) (uploaded_files_after g))
        ∙ total-listed (charged_size n) files_of_name (uploaded_files_after g) (Apart-uploaded g) has_keys

    count_of_name : undeleted_count_after g n ≡ total_of (one_if_undeleted n) (entries files_of_name)
    count_of_name =
        (λ i. sum_by (λ f. part_at (one_if_undeleted n) 0 (λ f. cond (is_charged_after g n f) 1 0) (one_if_undeleted_at g n)
        (λ f other. ap (λ b. cond b 1 0) (and_right _ _ other)) f i) (uploaded_files_after g))
        ∙ total-listed (one_if_undeleted n) files_of_name (uploaded_files_after g) (Apart-uploaded g) has_keys

    release_of_name : (r : Bytes) → has_release_after g n r ≡ list_any (λ e. is_undeleted_of_release n r e.1) (entries files_of_name)
    release_of_name r =
        (λ i. list_any (λ f. part_at (is_undeleted_of_release n r) false (λ f. is_charged_after g n f && same r (release_of f))
        (λ f. released_at g n f r) (λ f other. ap (λ b. b && same r (release_of f)) (and_right _ _ other)) f i)
        (uploaded_files_after g))
        ∙ sym (any-listed (is_undeleted_of_release n r) files_of_name (uploaded_files_after g) has_keys)

  file-only : (f : Bytes) → n ≡ project_of f → file_after (history_of_name n h) f ≡ file_after h f
  file-only f is = λ i. option_map (file_of_upload f (requires-only n h f (sym is) i) (undeleted-only n h f (sym is) i))
      (known-only n h f (sym is) i)

  charge-only : charge_after (history_of_name n h) n ≡ charge_after h n
  charge-only = charge_of_name (history_of_name n h) file-only ∙ sym (charge_of_name h (λ f is. refl))

  count-only : undeleted_count_after (history_of_name n h) n ≡ undeleted_count_after h n
  count-only = count_of_name (history_of_name n h) file-only ∙ sym (count_of_name h (λ f is. refl))

  release-only : (r : Bytes) → has_release_after (history_of_name n h) n r ≡ has_release_after h n r
  release-only r = release_of_name (history_of_name n h) file-only r ∙ sym (release_of_name h (λ f is. refl) r)

  -- ---- the name

  name-only : name_after (history_of_name n h) n ≡ name_after h n
  name-only = λ i. record_of_state (state-only n h i) (record {
    shown = shown-only n h i;
    quota = quota-only n h i;
    charge = charge-only i;
    undeleted = count-only i;
    last_upload = greatest (uploads-only n h i);
  })

  owns-only : (u : Bytes) → owns_after (history_of_name n h) n u ≡ owns_after h n u
  owns-only u = λ i. is_held_now (state-only n h i) && given-only n h u i

  yank-only : (r : Bytes) → yank_after (history_of_name n h) n r ≡ yank_after h n r
  yank-only r = λ i. cond (is_held_now (state-only n h i)) (yanked-only n h r i) None

  -- among those who own the name all are this user, wherever the owners are looked for
  alone-only : (u : Bytes) → owns_alone_after (history_of_name n h) n u ≡ owns_alone_after h n u
  alone-only u = (λ i. owns-only u i && list_all (λ v. not (owns-only v i) || same u v) (receivers_after (history_of_name n h)))
      ∙ ap (λ b. owns_after h n u && b) everyone
    where
      is_user : Bytes → Bool
      is_user v = not (owns_after h n v) || same u v

      among : (g : History) → ((v : Bytes) → owns_after g n v ≡ owns_after h n v) → (users : List Bytes)
          → list_all is_user (receivers_after g) ≡ true → list_all is_user users ≡ true
      among g agrees users all = list_all-from is_user users (λ v _. elim (cases_Bool (owns_after h n v)) [
        | inl owner ↦ list_all-at is_user (receivers_after g) v all (received g n v (and_parts _ _ (agrees v ∙ owner)).1)
        | inr other ↦ or_left _ _ (ap not other)
      ])

      everyone : list_all is_user (receivers_after (history_of_name n h)) ≡ list_all is_user (receivers_after h)
      everyone = same_truth _ _ (among (history_of_name n h) owns-only (receivers_after h))
          (among h (λ v. refl) (receivers_after (history_of_name n h)))

-- ---- a call that is kept

module _ (n : Bytes) where
  abbrev IsOfName : Option Bytes → Type 0
  IsOfName read = (read ≡ None) ⊎ (read ≡ Some n)

  abbrev IsOfFile : Option Bytes → Type 0
  IsOfFile read = (read ≡ None) ⊎ ((f : Bytes) × (n ≡ project_of f) × (read ≡ Some f))

  of_name : (read : Option Bytes) → is_read_as read n ≡ true → IsOfName read
  of_name None is = inl refl
  of_name (Some m) is = inr (ap Some (sym (same-is n m is)))

  of_file : (read : Option Bytes) → is_read_as (option_map project_of read) n ≡ true → IsOfFile read
  of_file None is = inl refl
  of_file (Some f) is = inr (f, same-is n (project_of f) is, refl)

  name_of_kept : (r : Request) → is_kept r n ≡ true → IsOfName (name_key r)
  name_of_kept (AddUser user office token) kept = inl refl
  name_of_kept (SetToken user token) kept = inl refl
  name_of_kept r kept = of_name (name_key r) kept

  file_of_kept : (r : Request) → is_kept r n ≡ true → IsOfFile (file_key r)
  file_of_kept (Upload file sha256 body requires) kept = of_file (read_file file) kept
  file_of_kept (Delete file) kept = of_file (read_file file) kept
  file_of_kept (BanFile file) kept = of_file (read_file file) kept
  file_of_kept r kept = inl refl

  kept_by_name : (r : Request) → name_key r ≡ Some n → is_kept r n ≡ true
  kept_by_name (AddUser user office token) reads = refl
  kept_by_name (SetToken user token) reads = refl
  kept_by_name r reads = ap (λ read. is_read_as read n) reads ∙ same-refl n

  -- what is asked of the name
  at_name : {A : Type 0} (f g : Option Bytes → A) → f None ≡ g None → f (Some n) ≡ g (Some n) → (read : Option Bytes) → IsOfName read
      → f read ≡ g read
  at_name f g none some read (inl is) = ap f is ∙ none ∙ sym (ap g is)
  at_name f g none some read (inr is) = ap f is ∙ some ∙ sym (ap g is)

  both_at_name : (question asked : Bytes → Bytes → Bool) → ((other : Bytes) → question n other ≡ asked n other)
      → (read other : Option Bytes) → IsOfName read → of_both question read other ≡ of_both asked read other
  both_at_name question asked each read other =
      at_name (λ name. of_both question name other) (λ name. of_both asked name other) refl (by other) read
    where
      by : (other : Option Bytes) → of_both question (Some n) other ≡ of_both asked (Some n) other
      by None = refl
      by (Some other) = each other

  yank_at_name : (found yank : Bytes → Bytes → Option Bytes) → ((release : Bytes) → found n release ≡ yank n release)
      → (read release : Option Bytes) → IsOfName read → at_both found read release ≡ at_both yank read release
  yank_at_name found yank each read release = at_name (λ name. at_both found name release) (λ name. at_both yank name release) refl
      (by release) read
    where
      by : (release : Option Bytes) → at_both found (Some n) release ≡ at_both yank (Some n) release
      by None = refl
      by (Some release) = each release

  file_at_name : (h : History) (legal : IsLegal h) (read : Option Bytes) → IsOfFile read
      → option_and_then (file_after (history_of_name n h)) read ≡ option_and_then (file_after h) read
  file_at_name h legal read (inl is) = ap (option_and_then (file_after (history_of_name n h))) is
      ∙ sym (ap (option_and_then (file_after h)) is)
  file_at_name h legal read (inr is) = ap (option_and_then (file_after (history_of_name n h))) is.2 ∙ file-only n h legal is.0 is.1
      ∙ sym (ap (option_and_then (file_after h)) is.2)

  ban_at_name : (h : History) (read : Option Bytes) → IsOfFile read
      → option_map_or (is_banned_after (history_of_name n h)) read false ≡ option_map_or (is_banned_after h) read false
  ban_at_name h read (inl is) = ap (λ o. option_map_or (is_banned_after (history_of_name n h)) o false) is
      ∙ sym (ap (λ o. option_map_or (is_banned_after h) o false) is)
  ban_at_name h read (inr is) = ap (λ o. option_map_or (is_banned_after (history_of_name n h)) o false) is.2
      ∙ banned-only n h is.0 (sym is.1) ∙ sym (ap (λ o. option_map_or (is_banned_after h) o false) is.2)

  facts-only : (h : History) → IsLegal h → (c : Call) → is_kept c.request n ≡ true → facts_after (history_of_name n h) c ≡ facts_after h c
  facts-only h legal c kept =
      let g : History = history_of_name n h in
      let name : IsOfName (name_key c.request) = name_of_kept c.request kept in
      λ i. record {
        caller = option_map (λ user. record {
          user = user;
          office = option_map_or (λ account. account.office) (user-only n h user i) false;
        }) (bearer-only n h c.token i);
        user = agree_at (user_after g) (user_after h) (user-only n h) (user_key c.request) i;
        bearer = agree_at (bearer_after g) (bearer_after h) (bearer-only n h) (token_key c.request) i;
        name = at_name (option_and_then (name_after g)) (option_and_then (name_after h)) refl (name-only n h legal) (name_key c.request)
            name i;
        owns = (ap (of_both (owns_after g) (name_key c.request)) (bearer-only n h c.token)
            ∙ both_at_name (owns_after g) (owns_after h) (owns-only n h legal) (name_key c.request) (bearer_after h c.token) name) i;
        named_owns = both_at_name (owns_after g) (owns_after h) (owns-only n h legal) (name_key c.request) (user_key c.request) name i;
        sole = both_at_name (owns_alone_after g) (owns_alone_after h) (alone-only n h legal) (name_key c.request) (user_key c.request)
            name i;
        file = file_at_name h legal (file_key c.request) (file_of_kept c.request kept) i;
        is_banned = ban_at_name h (file_key c.request) (file_of_kept c.request kept) i;
        yank = yank_at_name (yank_after g) (yank_after h) (yank-only n h legal) (name_key c.request) (release_key c.request) name i;
        has_release = both_at_name (has_release_after g) (has_release_after h) (release-only n h legal) (name_key c.request)
            (release_key c.request) name i;
        case = at_name (option_and_then (case_record_after g)) (option_and_then (case_record_after h)) refl
            (ap (option_map record_of_case) (case-only n h)) (name_key c.request) name i;
      }

  legal-only : (h : History) → IsLegal h → IsLegal (history_of_name n h)
  legal-only (begins user token) legal = tt
  legal-only (more h e) legal = elim (is_kept e.call.request n) as (λ b. is_kept e.call.request n ≡ b
      → IsLegal (cond b (more (history_of_name n h) e) (history_of_name n h))) [
        | true ↦ λ kept. (
          legal-only h legal.0,
          ap (verdict_on e.call) (facts-only h legal.0 e.call kept) ∙ legal.1,
          bearer-only n h e.call.token ∙ legal.2,
        )
        | false ↦ λ other. legal-only h legal.0
      ] refl

pub stands_alone : (h : History) → IsLegal h → StandsAlone h
stands_alone h legal = λ n. (legal-only n h legal, λ c reads. ap (verdict_on c) (facts-only n h legal c (kept_by_name n c.request reads)))
