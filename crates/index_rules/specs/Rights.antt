-- Who may change what: users, names with their files, and cases. No definition here speaks of
-- tables.
use Rattle.std.specs.Prelude.{◌≡◌, ◌⊎◌, Bool, false, true, ◌||◌, Some, None}
use Rattle.index_names.specs.Project.{read_name}
use Rattle.index_names.specs.FileName.{project_of}
use Rattle.index_rules.specs.declared.call.Request.{Request}
use Rattle.index_rules.specs.declared.call.Request.TheVariants.{Claim, Prohibit, Transfer, Upload}
use Rattle.index_rules.specs.declared.records.UserRecord.{UserRecord}
use Rattle.index_rules.specs.Maps.{Bytes}
use Rattle.index_rules.specs.Requests.{name_key, read_file}
use Rattle.index_rules.specs.History.{History, Entry, begins, more, is_read_as}
use Rattle.index_rules.specs.PastUsers.{user_after}
use Rattle.index_rules.specs.PastNames.{State, Free, Held, Prohibited, state_after}
use Rattle.index_rules.specs.PastNames.{shown_after, quota_after}
use Rattle.index_rules.specs.PastNames.{last_upload_after, owns_after, yank_after}
use Rattle.index_rules.specs.PastCases.{case_after, candidate_after}
use Rattle.index_rules.specs.PastFiles.{is_banned_after}
use Rattle.index_rules.specs.StandsFor.{file_after, body_after}
use Rattle.index_rules.specs.Legal.{caller_after}

-- whether the user is of the office
abbrev pub is_office_after : History → Bytes → Bool
is_office_after h u = (caller_after h u).office

-- whether a state is prohibited
abbrev pub is_prohibited_now : State → Bool
is_prohibited_now Free = false
is_prohibited_now Held = false
is_prohibited_now Prohibited = true

-- whether the user may change a name: one of the office may, and an owner of the name
abbrev pub has_right : History → Bytes → Bytes → Bool
has_right h n u = is_office_after h u || owns_after h n u

-- whether a request claims the name
abbrev pub is_claim_of : Request → Bytes → Bool
is_claim_of (Claim name) n = is_read_as (read_name name) n
is_claim_of request n = false

-- whether a request transfers the name or prohibits it
abbrev pub takes_away : Request → Bytes → Bool
takes_away (Transfer name quiet) n = is_read_as (read_name name) n
takes_away (Prohibit name) n = is_read_as (read_name name) n
takes_away request n = false

-- two histories make the same of a name and of all its files; only a case may differ
pub record MakeSame (h h' : History) (n : Bytes) : Type 0 where
  pub state : state_after h' n ≡ state_after h n
  pub shown : shown_after h' n ≡ shown_after h n
  pub quota : quota_after h' n ≡ quota_after h n
  pub last_upload : last_upload_after h' n ≡ last_upload_after h n
  pub owners : (u : Bytes) → owns_after h' n u ≡ owns_after h n u
  pub yanks : (r : Bytes) → yank_after h' n r ≡ yank_after h n r
  pub files : (f : Bytes) → project_of f ≡ n → file_after h' f ≡ file_after h f
  pub bodies : (f : Bytes) → project_of f ≡ n → body_after h' f ≡ body_after h f
  pub bans : (f : Bytes) → project_of f ≡ n → is_banned_after h' f ≡ is_banned_after h f

-- an entry changes only what the user who made it may change
pub record WasAllowed (h : History) (e : Entry) : Type 0 where
  -- only the office changes users
  pub users : is_office_after h e.actor ≡ false
      → (u : Bytes) → user_after (more h e) u ≡ user_after h u
  -- no user is removed, and none comes to be of the office or ceases to be
  pub flags : (u : Bytes) (x : UserRecord) → user_after h u ≡ Some x
      → (y : UserRecord) × (user_after (more h e) u ≡ Some y) × (y.office ≡ x.office)
  -- only the office, an owner and a claim change a name
  pub names : (n : Bytes) → has_right h n e.actor ≡ false → is_claim_of e.call.request n ≡ false
      → MakeSame h (more h e) n
  -- a held name passes from its owners only by one of them, a transfer or a prohibition, whoever
  -- asks
  pub owners : (n : Bytes) → state_after h n ≡ Held → owns_after h n e.actor ≡ false
      → takes_away e.call.request n ≡ false
      → (u : Bytes) → owns_after (more h e) n u ≡ owns_after h n u
  -- a claim is of a name that nobody holds
  pub claims : (n : Bytes) → is_claim_of e.call.request n ≡ true → state_after h n ≡ Free
  -- only the office sets a quota, bans a file and prohibits a name; a claim brings the first quota
  pub quotas : is_office_after h e.actor ≡ false
      → (n : Bytes) → is_claim_of e.call.request n ≡ false
      → quota_after (more h e) n ≡ quota_after h n
  pub bans : is_office_after h e.actor ≡ false
      → (f : Bytes) → is_banned_after (more h e) f ≡ is_banned_after h f
  pub prohibited : is_office_after h e.actor ≡ false
      → (n : Bytes) → is_prohibited_now (state_after (more h e) n) ≡ true
      → is_prohibited_now (state_after h n) ≡ true
  -- an entry leaves every other name as it is, with its files and its case
  pub apart : (n : Bytes) → is_read_as (name_key e.call.request) n ≡ false
      → MakeSame h (more h e) n × (case_after (more h e) n ≡ case_after h n)
  -- only the office, an owner and its candidate change a case; others open one where none is
  pub cases : (n : Bytes) → has_right h n e.actor ≡ false
      → (case_after (more h e) n ≡ case_after h n)
      ⊎ ((case_after h n ≡ None) ⊎ (candidate_after h n ≡ Some e.actor))

-- each entry of the history changes only what its user may
abbrev pub WereAllowed : History → Type 0
WereAllowed (begins user token) = Unit {0}
WereAllowed (more h e) = WereAllowed h × WasAllowed h e

-- The second history goes on from the first one. None of the entries that it has more is of the
-- office or of an owner of the name at that point, and none claims it.
abbrev pub OthersOnly : Bytes → History → History → Type 0
OthersOnly n h (begins user token) = h ≡ begins user token
OthersOnly n h (more h' e) =
    (h ≡ more h' e)
    ⊎ (OthersOnly n h h' × (has_right h' n e.actor ≡ false)
    × (is_claim_of e.call.request n ≡ false))

-- whatever others do, for however long, a name and its files stay as they are
abbrev pub StaysAsItIs : History → Type 0
StaysAsItIs h' = (n : Bytes) (h : History) → OthersOnly n h h' → MakeSame h h' n

-- ---- where the bytes of a file come from

-- the request is an upload of the file, of these bytes
abbrev pub IsUploadOfBody : Request → Bytes → Bytes → Type 0
IsUploadOfBody (Upload file declared body requires) f bytes =
    (read_file file ≡ Some f) × (body ≡ bytes)
IsUploadOfBody request f bytes = ⊥

-- some entry of the history is an upload of the file, of these bytes, by a user who owned the
-- file's project then
abbrev pub HasOwnersUpload : History → Bytes → Bytes → Type 0
HasOwnersUpload (begins user token) f bytes = ⊥
HasOwnersUpload (more h e) f bytes =
    (IsUploadOfBody e.call.request f bytes × (owns_after h (project_of f) e.actor ≡ true))
    ⊎ HasOwnersUpload h f bytes

-- the bytes that are served of a file were uploaded by an owner of its project
abbrev pub ServesOwnersUploads : History → Type 0
ServesOwnersUploads h = (f bytes : Bytes) → body_after h f ≡ Some bytes → HasOwnersUpload h f bytes
