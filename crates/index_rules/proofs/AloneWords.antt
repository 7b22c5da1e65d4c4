-- The entries of one name, with those on users, make of that name what the whole history makes of it.
use Rattle.index_rules.proofs.Words.{◌≡◌, ℕ, Bool, true, false, cond, ◌&&◌, inl, inr, refl, sym, ap, ◌∙◌, List, [], ◌∷◌, length, Option}
use Rattle.index_rules.proofs.Words.{Some, None, find, option_map, option_or, false≢true, read_name, project_of, read_release, read_digest}
use Rattle.index_rules.proofs.Words.{attempt_of, Request, AddUser, SetToken, SetQuota, Claim, AddOwner, RemoveOwner, Upload, Delete}
use Rattle.index_rules.proofs.Words.{BanFile, Yank, Unyank, Relinquish, Prohibit, Allow, OpenCase, RecordAttempt, Transfer, CloseCase}
use Rattle.index_rules.proofs.Words.{UserRecord, Bytes, same, read_user, read_file, bears, or_empty, first_quota, History, Entry, begins}
use Rattle.index_rules.proofs.Words.{more, is_read_as, user_after, user_by, users_after, users_by, bearer_after, State, Free, Held}
use Rattle.index_rules.proofs.Words.{Prohibited, state_after, state_by, shown_after, quota_after, uploads_after, is_given_after}
use Rattle.index_rules.proofs.Words.{is_given_by, reason_after, Case, case_after, case_by, with_attempt, is_owners_request}
use Rattle.index_rules.proofs.Words.{first_upload_after, first_upload_by, is_undeleted_after, is_undeleted_by, is_banned_by}
use Rattle.index_rules.proofs.Words.{is_banned_after, requires_after, is_kept, history_of_name}
use Rattle.index_rules.specs.PastNames.{shown_by, quota_by}
use Rattle.index_rules.specs.PastNames.{uploads_by, reason_by}
use Rattle.index_rules.specs.PastFiles.{requires_by}
use Rattle.index_rules.proofs.KeyLemmas.{same-refl, cases_same}

-- ---- what an entry that is left out leaves alone

module _ (n : Bytes) where
  pub user_left : (r : Request) (u : Bytes) → is_kept r n ≡ false → (before : Option UserRecord) → user_by r u before ≡ before
  user_left (AddUser user office token) u other before = absurd (false≢true (sym other))
  user_left (SetToken user token) u other before = absurd (false≢true (sym other))
  user_left r u other before = refl

  added_left : (r : Request) → is_kept r n ≡ false → (before : List Bytes) → users_by r before ≡ before
  added_left (AddUser user office token) other before = absurd (false≢true (sym other))
  added_left r other before = refl

  pub state_left : (r : Request) → is_kept r n ≡ false → (before : State) → state_by r n before ≡ before
  state_left (Claim name) other before = ap (λ b. cond b Held before) other
  state_left (Relinquish name) other before = ap (λ b. cond b Free before) other
  state_left (Prohibit name) other before = ap (λ b. cond b Prohibited before) other
  state_left (Allow name) other before = ap (λ b. cond b Free before) other
  state_left r other before = refl

  pub shown_left : (r : Request) → is_kept r n ≡ false → (before : Bytes) → shown_by r n before ≡ before
  shown_left (Claim name) other before = ap (λ b. cond b name before) other
  shown_left r other before = refl

  pub quota_left : (r : Request) → is_kept r n ≡ false → (before : ℕ) → quota_by r n before ≡ before
  quota_left (Claim name) other before = ap (λ b. cond b first_quota before) other
  quota_left (SetQuota name quota) other before = ap (λ b. cond b quota before) other
  quota_left r other before = refl

  pub uploads_left : (r : Request) (at : ℕ) → is_kept r n ≡ false → (before : List ℕ) → uploads_by r at n before ≡ before
  uploads_left (Claim name) at other before = ap (λ b. cond b [] before) other
  uploads_left (Upload file sha256 body requires) at other before = ap (λ b. cond b (at ∷ before) before) other
  uploads_left r at other before = refl

  -- an owner's request of the name is not left out
  owners_left : (r : Request) → is_kept r n ≡ false → is_owners_request r n ≡ false
  owners_left (AddUser user office token) other = refl
  owners_left (SetToken user token) other = refl
  owners_left (SetQuota name quota) other = refl
  owners_left (Claim name) other = refl
  owners_left (BanFile file) other = refl
  owners_left (Prohibit name) other = refl
  owners_left (Allow name) other = refl
  owners_left (OpenCase name kind contact work why) other = refl
  owners_left (RecordAttempt name means sent) other = refl
  owners_left (Transfer name quiet) other = refl
  owners_left (CloseCase name) other = refl
  owners_left r other = other

  pub case_left : (r : Request) (actor : Bytes) (at : ℕ) → is_kept r n ≡ false → (before : Option Case)
      → case_by r actor at n before ≡ before
  case_left (OpenCase name kind contact work why) actor at other before =
      ap (λ b. cond b (Some (record {
        kind = kind;
        candidate = actor;
        contact = contact;
        work = work;
        why = why;
        opened = at;
        attempts = [];
      })) before) other
  case_left (RecordAttempt name means sent) actor at other before =
      ap (λ b. cond b (option_map (with_attempt (attempt_of means sent at)) before) before) other
  case_left (CloseCase name) actor at other before = ap (λ b. cond b None before) other
  case_left (Transfer name quiet) actor at other before = ap (λ b. cond b None before) other
  case_left (Prohibit name) actor at other before = ap (λ b. cond b None before) other
  case_left r actor at other before = ap (λ b. cond b None before) (owners_left r other)

  pub given_left : (r : Request) (actor : Bytes) (candidate : Option Bytes) (u : Bytes) → is_kept r n ≡ false → (before : Bool)
      → is_given_by r actor candidate n u before ≡ before
  given_left (Claim name) actor candidate u other before = ap (λ b. cond b (same u actor) before) other
  given_left (AddOwner name user) actor candidate u other before = ap (λ b. cond (b && is_read_as (read_user user) u) true before) other
  given_left (RemoveOwner name user) actor candidate u other before = ap (λ b. cond (b && is_read_as (read_user user) u) false before) other
  given_left (Transfer name quiet) actor candidate u other before = ap (λ b. cond b (is_read_as candidate u) before) other
  given_left r actor candidate u other before = refl

  pub yanked_left : (r : Request) (release : Bytes) → is_kept r n ≡ false → (before : Option Bytes) → reason_by r n release before ≡ before
  yanked_left (Claim name) release other before = ap (λ b. cond b None before) other
  yanked_left (Yank name yanked reason) release other before =
      ap (λ b. cond (b && is_read_as (read_release yanked) release) (Some reason) before) other
  yanked_left (Unyank name yanked) release other before = ap (λ b. cond (b && is_read_as (read_release yanked) release) None before) other
  yanked_left r release other before = refl

  module _ (f : Bytes) (project : project_of f ≡ n) where
    -- a file of the name is none that another name's request speaks of
    pub other_file : (read : Option Bytes) → is_read_as (option_map project_of read) n ≡ false → is_read_as read f ≡ false
    other_file None other = other
    other_file (Some g) other = elim (cases_same f g) [
      | inl is ↦ absurd (false≢true (sym other ∙ ap (same n) (ap project_of (sym is) ∙ project) ∙ same-refl n))
      | inr apart ↦ apart
    ]

    pub known_left : (r : Request) → is_kept r n ≡ false → (before : Option (Bytes × ℕ)) → first_upload_by r f before ≡ before
    known_left (Upload file sha256 body requires) other before =
        ap (λ b. option_or before (cond b (Some (or_empty (read_digest sha256), length body)) None)) (other_file (read_file file) other)
        ∙ or_none before
      where
        or_none : (o : Option (Bytes × ℕ)) → option_or o None ≡ o
        or_none None = refl
        or_none (Some first) = refl
    known_left r other before = refl

    pub undeleted_left : (r : Request) → is_kept r n ≡ false → (before : Bool) → is_undeleted_by r f before ≡ before
    undeleted_left (Upload file sha256 body requires) other before = ap (λ b. cond b true before) (other_file (read_file file) other)
    undeleted_left (Delete file) other before = ap (λ b. cond b false before) (other_file (read_file file) other)
    undeleted_left (BanFile file) other before = ap (λ b. cond b false before) (other_file (read_file file) other)
    undeleted_left (Prohibit name) other before = ap (λ b. cond b false before) (ap (is_read_as (read_name name)) project ∙ other)
    undeleted_left r other before = refl

    pub banned_left : (r : Request) → is_kept r n ≡ false → (before : Bool) → is_banned_by r f before ≡ before
    banned_left (BanFile file) other before = ap (λ b. cond b true before) (other_file (read_file file) other)
    banned_left r other before = refl

    pub requires_left : (r : Request) → is_kept r n ≡ false → (before : Bytes) → requires_by r f before ≡ before
    requires_left (Upload file sha256 body requires) other before = ap (λ b. cond b requires before) (other_file (read_file file) other)
    requires_left r other before = refl

-- ---- words that agree

-- a word that each entry takes on from what it was, and that an entry that is left out leaves alone
word-only : {A : Type 0} (n : Bytes) (word : History → A) (by : Entry → A → A)
    → ((h : History) (e : Entry) → word (more h e) ≡ by e (word h))
    → ((e : Entry) → is_kept e.call.request n ≡ false → (before : A) → by e before ≡ before)
    → (h : History) → word (history_of_name n h) ≡ word h
word-only n word by step left (begins user token) = refl
word-only n word by step left (more h e) =
    elim (is_kept e.call.request n) as (λ b. is_kept e.call.request n ≡ b
    → word (cond b (more (history_of_name n h) e) (history_of_name n h)) ≡ word (more h e)) [
      | true ↦ λ _. step (history_of_name n h) e ∙ ap (by e) (word-only n word by step left h) ∙ sym (step h e)
      | false ↦ λ other. word-only n word by step left h ∙ sym (step h e ∙ left e other (word h))
    ] refl

module _ (n : Bytes) where
  pub user-only : (h : History) (u : Bytes) → user_after (history_of_name n h) u ≡ user_after h u
  user-only h u = word-only n (λ g. user_after g u) (λ e. user_by e.call.request u) (λ g e. refl) (λ e. user_left n e.call.request u) h

  added-only : (h : History) → users_after (history_of_name n h) ≡ users_after h
  added-only = word-only n users_after (λ e. users_by e.call.request) (λ g e. refl) (λ e. added_left n e.call.request)

  pub bearer-only : (h : History) (token : Bytes) → bearer_after (history_of_name n h) token ≡ bearer_after h token
  bearer-only h token = λ i. find (λ u. bears (Some token) (user-only h u i)) (added-only h i)

  pub state-only : (h : History) → state_after (history_of_name n h) n ≡ state_after h n
  state-only = word-only n (λ g. state_after g n) (λ e. state_by e.call.request n) (λ g e. refl) (λ e. state_left n e.call.request)

  pub shown-only : (h : History) → shown_after (history_of_name n h) n ≡ shown_after h n
  shown-only = word-only n (λ g. shown_after g n) (λ e. shown_by e.call.request n) (λ g e. refl) (λ e. shown_left n e.call.request)

  pub quota-only : (h : History) → quota_after (history_of_name n h) n ≡ quota_after h n
  quota-only = word-only n (λ g. quota_after g n) (λ e. quota_by e.call.request n) (λ g e. refl) (λ e. quota_left n e.call.request)

  pub uploads-only : (h : History) → uploads_after (history_of_name n h) n ≡ uploads_after h n
  uploads-only = word-only n (λ g. uploads_after g n) (λ e. uploads_by e.call.request e.call.at n) (λ g e. refl)
      (λ e. uploads_left n e.call.request e.call.at)

  pub case-only : (h : History) → case_after (history_of_name n h) n ≡ case_after h n
  case-only = word-only n (λ g. case_after g n) (λ e. case_by e.call.request e.actor e.call.at n) (λ g e. refl)
      (λ e. case_left n e.call.request e.actor e.call.at)

  -- a transfer gives the name to the candidate of its case, so the case goes along
  pub given-only : (h : History) (u : Bytes) → is_given_after (history_of_name n h) n u ≡ is_given_after h n u
  given-only h u =
      let by : Entry → Option Case × Bool → Option Case × Bool = λ e before. (
        case_by e.call.request e.actor e.call.at n before.0,
        is_given_by e.call.request e.actor (option_map (λ case. case.candidate) before.0) n u before.1,
      ) in
      ap (λ both. both.1) (word-only n (λ g. (case_after g n, is_given_after g n u)) by (λ g e. refl) (λ e other before.
      λ i. (
        case_left n e.call.request e.actor e.call.at other before.0 i,
        given_left n e.call.request e.actor (option_map (λ case. case.candidate) before.0) u other before.1 i,
      )) h)

  pub yanked-only : (h : History) (r : Bytes) → reason_after (history_of_name n h) n r ≡ reason_after h n r
  yanked-only h r = word-only n (λ g. reason_after g n r) (λ e. reason_by e.call.request n r) (λ g e. refl)
      (λ e. yanked_left n e.call.request r) h

  module _ (h : History) (f : Bytes) (project : project_of f ≡ n) where
    pub known-only : first_upload_after (history_of_name n h) f ≡ first_upload_after h f
    known-only = word-only n (λ g. first_upload_after g f) (λ e. first_upload_by e.call.request f) (λ g e. refl)
        (λ e. known_left n f project e.call.request) h

    pub undeleted-only : is_undeleted_after (history_of_name n h) f ≡ is_undeleted_after h f
    undeleted-only = word-only n (λ g. is_undeleted_after g f) (λ e. is_undeleted_by e.call.request f) (λ g e. refl)
        (λ e. undeleted_left n f project e.call.request) h

    pub banned-only : is_banned_after (history_of_name n h) f ≡ is_banned_after h f
    banned-only = word-only n (λ g. is_banned_after g f) (λ e. is_banned_by e.call.request f) (λ g e. refl)
        (λ e. banned_left n f project e.call.request) h

    pub requires-only : requires_after (history_of_name n h) f ≡ requires_after h f
    requires-only = word-only n (λ g. requires_after g f) (λ e. requires_by e.call.request f) (λ g e. refl)
        (λ e. requires_left n f project e.call.request) h
