-- What a history makes of a name depends on the entries of that name alone.
use Rattle.index_desk.proofs.Words.{◌≡◌, ◌||◌, ℕ, Bool, true, false, cond, inl, inr, refl, sym, ap, ◌∙◌, List, [], ◌∷◌}
use Rattle.index_desk.proofs.Words.{Option, Some, None, filter, option_map, list_any, false≢true}
use Rattle.index_desk.proofs.Words.{project_of, Bytes, same, History, Free}
use Rattle.index_desk.proofs.Words.{state_after, first_upload_after, is_undeleted_after, requires_after}
use Rattle.index_rules.specs.declared.call.Request.{Request}
use Rattle.index_rules.specs.declared.call.Request.TheVariants.{AddUser, SetToken, Upload}
use Rattle.index_rules.specs.History.{Entry, begins, more, is_read_as}
use Rattle.index_rules.specs.Laws.{is_kept}
use Rattle.index_rules.specs.PastCases.{Case, case_after, case_by}
use Rattle.index_rules.specs.PastFiles.{first_upload_by, is_undeleted_by, last_body_after, last_body_by, once_more, requires_by}
use Rattle.index_rules.specs.PastFiles.{uploaded_files_after, uploaded_files_by}
use Rattle.index_rules.specs.PastNames.{is_given_after, is_given_by, quota_after, quota_by, reason_after, reason_by}
use Rattle.index_rules.specs.PastNames.{shown_after, shown_by, state_by, uploads_after, uploads_by}
use Rattle.index_rules.specs.Projects.{first_quota}
use Rattle.index_rules.specs.Requests.{name_key, read_file}
use Rattle.index_rules.proofs.AloneWords.{case_left, given_left, known_left, other_file, quota_left, requires_left, shown_left, state_left}
use Rattle.index_rules.proofs.AloneWords.{undeleted_left, uploads_left, yanked_left}
use Rattle.index_rules.proofs.KeyLemmas.{cases_same}
use Rattle.index_desk.specs.Apart.{entries_of}

-- the file is one of the name
abbrev pub is_of_name : Bytes → Bytes → Bool
is_of_name n f = same n (project_of f)

-- an entry of a name: its user, its moment and its request
abbrev Part : Type 0
Part = Bytes × ℕ × Request

abbrev fold_parts : {A : Type 0} → (Part → A → A) → A → List Part → A
fold_parts by start [] = start
fold_parts by start (part ∷ parts) = by part (fold_parts by start parts)

-- ---- words of a name

-- a word that each entry of the name takes on from what it was, and that each other entry leaves alone
record Word (n : Bytes) (A : Type 0) (word : History → A) : Type 0 where
  pub start : A
  pub by : Part → A → A
  pub begun : (user token : Bytes) → word (begins user token) ≡ start
  pub step : (h : History) (e : Entry) → word (more h e) ≡ by (e.actor, e.call.at, e.call.request) (word h)
  pub left : (actor : Bytes) (at : ℕ) (r : Request) → is_read_as (name_key r) n ≡ false → (before : A)
      → by (actor, at, r) before ≡ before

module _ {A : Type 0} (n : Bytes) (word : History → A) (is : Word n A word) where
  folded : (h : History) → word h ≡ fold_parts is.by is.start (entries_of n h)
  folded (begins user token) = is.begun user token
  folded (more h e) =
      elim (is_read_as (name_key e.call.request) n) as (λ b. is_read_as (name_key e.call.request) n ≡ b
      → word (more h e) ≡ fold_parts is.by is.start (cond b ((e.actor, e.call.at, e.call.request) ∷ entries_of n h) (entries_of n h))) [
        | true ↦ λ _. is.step h e ∙ ap (is.by (e.actor, e.call.at, e.call.request)) (folded h)
        | false ↦ λ other. is.step h e ∙ is.left e.actor e.call.at e.call.request other (word h) ∙ folded h
      ] refl

-- the same entries of the name make the same of it
agrees : {A : Type 0} (n : Bytes) (h h' : History) → entries_of n h ≡ entries_of n h' → (word : History → A) → Word n A word
    → word h ≡ word h'
agrees n h h' agree word is = folded n word is h ∙ ap (fold_parts is.by is.start) agree ∙ sym (folded n word is h')

module _ (n : Bytes) where
  -- a word that an entry of users leaves alone, and one of another name
  left_alone : {A : Type 0} (by : Request → A → A) → ((user : Bytes) (office : Bool) (token : Bytes) (before : A)
      → by (AddUser user office token) before ≡ before) → ((user token : Bytes) (before : A) → by (SetToken user token) before ≡ before)
      → ((r : Request) → is_kept r n ≡ false → (before : A) → by r before ≡ before)
      → (r : Request) → is_read_as (name_key r) n ≡ false → (before : A) → by r before ≡ before
  left_alone by added set left (AddUser user office token) other = added user office token
  left_alone by added set left (SetToken user token) other = set user token
  left_alone by added set left r other = left r other

  -- a transfer gives the name to the candidate of its case, so the case goes along
  abbrev given_by : Bytes → Part → Option Case × Bool → Option Case × Bool
  given_by u part before = (
    case_by part.2 part.0 part.1 n before.0,
    is_given_by part.2 part.0 (option_map (λ case. case.candidate) before.0) n u before.1,
  )

  given_left_alone : (actor : Bytes) (at : ℕ) (u : Bytes) (r : Request) → is_kept r n ≡ false → (before : Option Case × Bool)
      → given_by u (actor, at, r) before ≡ before
  given_left_alone actor at u r other before = λ i. (
    case_left n r actor at other before.0 i,
    given_left n r actor (option_map (λ case. case.candidate) before.0) u other before.1 i,
  )

  module _ (f : Bytes) (project : project_of f ≡ n) where
    body_left : (r : Request) → is_kept r n ≡ false → (before : Bytes) → last_body_by r f before ≡ before
    body_left (Upload file sha256 body requires) other before =
        ap (λ b. cond b body before) (other_file n f project (read_file file) other)
    body_left r other before = refl

  -- ---- the name's files among those that occur in uploads

  abbrev one_more : Option Bytes → List Bytes → List Bytes
  one_more None files = files
  one_more (Some f) files = cond (is_of_name n f) (once_more (Some f) files) files

  abbrev files_by : Request → List Bytes → List Bytes
  files_by (Upload file sha256 body requires) files = one_more (read_file file) files
  files_by r files = files

  any_of_name : (f : Bytes) → is_of_name n f ≡ true → (files : List Bytes)
      → list_any (same f) (filter (is_of_name n) files) ≡ list_any (same f) files
  any_of_name f mine [] = refl
  any_of_name f mine (g ∷ files) = elim (is_of_name n g) as (λ b. is_of_name n g ≡ b
      → list_any (same f) (cond b (g ∷ filter (is_of_name n) files) (filter (is_of_name n) files))
      ≡ (same f g || list_any (same f) files)) [
        | true ↦ λ _. ap (λ b. same f g || b) (any_of_name f mine files)
        | false ↦ λ other. any_of_name f mine files ∙ elim (cases_same f g) [
          | inl is ↦ absurd (false≢true (sym other ∙ ap (is_of_name n) (sym is) ∙ mine))
          | inr apart ↦ sym (ap (λ b. b || list_any (same f) files) apart)
        ]
      ] refl

  filter-more : (read : Option Bytes) (files : List Bytes)
      → filter (is_of_name n) (once_more read files) ≡ one_more read (filter (is_of_name n) files)
  filter-more None files = refl
  filter-more (Some f) files = by (is_of_name n f) refl (list_any (same f) files) refl
    where
      by : (b : Bool) → is_of_name n f ≡ b → (c : Bool) → list_any (same f) files ≡ c
          → filter (is_of_name n) (cond c files (f ∷ files)) ≡ cond b
          (cond (list_any (same f) (filter (is_of_name n) files)) (filter (is_of_name n) files) (f ∷ filter (is_of_name n) files))
          (filter (is_of_name n) files)
      by true mine true there =
          sym (ap (λ c. cond c (filter (is_of_name n) files) (f ∷ filter (is_of_name n) files)) (any_of_name f mine files ∙ there))
      by true mine false there = ap (λ b. cond b (f ∷ filter (is_of_name n) files) (filter (is_of_name n) files)) mine
          ∙ sym (ap (λ c. cond c (filter (is_of_name n) files) (f ∷ filter (is_of_name n) files)) (any_of_name f mine files ∙ there))
      by false mine true there = refl
      by false mine false there = ap (λ b. cond b (f ∷ filter (is_of_name n) files) (filter (is_of_name n) files)) mine

  filter-by : (r : Request) (files : List Bytes)
      → filter (is_of_name n) (uploaded_files_by r files) ≡ files_by r (filter (is_of_name n) files)
  filter-by (Upload file sha256 body requires) files = filter-more (read_file file) files
  filter-by r files = refl

  other_upload : (read : Option Bytes) → is_read_as (option_map project_of read) n ≡ false → (before : List Bytes)
      → one_more read before ≡ before
  other_upload None other before = refl
  other_upload (Some f) other before = ap (λ b. cond b (once_more (Some f) before) before) other

  files_left : (r : Request) → is_read_as (name_key r) n ≡ false → (before : List Bytes) → files_by r before ≡ before
  files_left (Upload file sha256 body requires) other before = other_upload (read_file file) other before
  files_left r other before = refl

-- ---- two histories with the same entries of a name

module _ (n : Bytes) (h h' : History) (agree : entries_of n h ≡ entries_of n h') where
  pub state_same : state_after h n ≡ state_after h' n
  state_same = agrees n h h' agree (λ g. state_after g n) (record {
    start = Free;
    by = λ part. state_by part.2 n;
    begun = λ user token. refl;
    step = λ h e. refl;
    left = λ actor at. left_alone n (λ r. state_by r n) (λ u o t b. refl) (λ u t b. refl) (state_left n);
  })

  pub shown_same : shown_after h n ≡ shown_after h' n
  shown_same = agrees n h h' agree (λ g. shown_after g n) (record {
    start = [];
    by = λ part. shown_by part.2 n;
    begun = λ user token. refl;
    step = λ h e. refl;
    left = λ actor at. left_alone n (λ r. shown_by r n) (λ u o t b. refl) (λ u t b. refl) (shown_left n);
  })

  pub quota_same : quota_after h n ≡ quota_after h' n
  quota_same = agrees n h h' agree (λ g. quota_after g n) (record {
    start = first_quota;
    by = λ part. quota_by part.2 n;
    begun = λ user token. refl;
    step = λ h e. refl;
    left = λ actor at. left_alone n (λ r. quota_by r n) (λ u o t b. refl) (λ u t b. refl) (quota_left n);
  })

  pub uploads_same : uploads_after h n ≡ uploads_after h' n
  uploads_same = agrees n h h' agree (λ g. uploads_after g n) (record {
    start = [];
    by = λ part. uploads_by part.2 part.1 n;
    begun = λ user token. refl;
    step = λ h e. refl;
    left = λ actor at. left_alone n (λ r. uploads_by r at n) (λ u o t b. refl) (λ u t b. refl) (λ r. uploads_left n r at);
  })

  pub reason_same : (release : Bytes) → reason_after h n release ≡ reason_after h' n release
  reason_same release = agrees n h h' agree (λ g. reason_after g n release) (record {
    start = None;
    by = λ part. reason_by part.2 n release;
    begun = λ user token. refl;
    step = λ h e. refl;
    left = λ actor at. left_alone n (λ r. reason_by r n release) (λ u o t b. refl) (λ u t b. refl) (λ r. yanked_left n r release);
  })

  case_and_given : (u : Bytes)
      → ◌≡◌ {A = Option Case × Bool} (case_after h n, is_given_after h n u) (case_after h' n, is_given_after h' n u)
  case_and_given u = agrees n h h' agree (λ g. (case_after g n, is_given_after g n u)) (record {
    start = (None, false);
    by = given_by n u;
    begun = λ user token. refl;
    step = λ h e. refl;
    left = λ actor at. left_alone n (λ r. given_by n u (actor, at, r)) (λ u o t b. refl) (λ u t b. refl) (given_left_alone n actor at u);
  })

  pub case_same : case_after h n ≡ case_after h' n
  case_same = ap (λ both. both.0) (case_and_given [])

  pub given_same : (u : Bytes) → is_given_after h n u ≡ is_given_after h' n u
  given_same u = ap (λ both. both.1) (case_and_given u)

  pub files_same : filter (is_of_name n) (uploaded_files_after h) ≡ filter (is_of_name n) (uploaded_files_after h')
  files_same = agrees n h h' agree (λ g. filter (is_of_name n) (uploaded_files_after g)) (record {
    start = [];
    by = λ part. files_by n part.2;
    begun = λ user token. refl;
    step = λ h e. filter-by n e.call.request (uploaded_files_after h);
    left = λ actor at. files_left n;
  })

  module _ (f : Bytes) (project : project_of f ≡ n) where
    pub first_same : first_upload_after h f ≡ first_upload_after h' f
    first_same = agrees n h h' agree (λ g. first_upload_after g f) (record {
      start = None;
      by = λ part. first_upload_by part.2 f;
      begun = λ user token. refl;
      step = λ h e. refl;
      left = λ actor at. left_alone n (λ r. first_upload_by r f) (λ u o t b. refl) (λ u t b. refl) (known_left n f project);
    })

    pub undeleted_same : is_undeleted_after h f ≡ is_undeleted_after h' f
    undeleted_same = agrees n h h' agree (λ g. is_undeleted_after g f) (record {
      start = false;
      by = λ part. is_undeleted_by part.2 f;
      begun = λ user token. refl;
      step = λ h e. refl;
      left = λ actor at. left_alone n (λ r. is_undeleted_by r f) (λ u o t b. refl) (λ u t b. refl) (undeleted_left n f project);
    })

    pub requires_same : requires_after h f ≡ requires_after h' f
    requires_same = agrees n h h' agree (λ g. requires_after g f) (record {
      start = [];
      by = λ part. requires_by part.2 f;
      begun = λ user token. refl;
      step = λ h e. refl;
      left = λ actor at. left_alone n (λ r. requires_by r f) (λ u o t b. refl) (λ u t b. refl) (requires_left n f project);
    })

    pub body_same : last_body_after h f ≡ last_body_after h' f
    body_same = agrees n h h' agree (λ g. last_body_after g f) (record {
      start = [];
      by = λ part. last_body_by part.2 f;
      begun = λ user token. refl;
      step = λ h e. refl;
      left = λ actor at. left_alone n (λ r. last_body_by r f) (λ u o t b. refl) (λ u t b. refl) (body_left n f project);
    })
