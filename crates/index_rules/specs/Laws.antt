-- What holds of every legal history. No definition here speaks of tables.
use Rattle.std.specs.Prelude.{◌≡◌, ◌⊎◌, ℕ, ◌+◌, Bool, true, false, ◌&&◌, if◌then◌else◌, length}
use Rattle.std.specs.Prelude.{Some, option_map}
use Rattle.index_names.specs.Project.{read_name}
use Rattle.index_names.specs.FileName.{project_of}
use Rattle.index_digest.specs.Digest.{read_digest, sha256}
use Rattle.index_rules.specs.declared.call.Request.{Request}
use Rattle.index_rules.specs.declared.call.Request.TheVariants.{AddUser, SetToken, Claim, AddOwner}
use Rattle.index_rules.specs.declared.call.Request.TheVariants.{RemoveOwner, Upload, Delete}
use Rattle.index_rules.specs.declared.call.Request.TheVariants.{BanFile, Relinquish, Prohibit}
use Rattle.index_rules.specs.declared.call.Request.TheVariants.{Allow, Transfer}
use Rattle.index_rules.specs.declared.records.UserRecord.{UserRecord}
use Rattle.index_rules.specs.Maps.{Bytes, same}
use Rattle.index_retention.specs.Attempts.{tally_of}
use Rattle.index_retention.specs.Transfer.{IsReady}
use Rattle.index_rules.specs.declared.call.Call.{Call}
use Rattle.index_rules.specs.Requests.{name_key, read_file}
use Rattle.index_rules.specs.Effect.{or_empty}
use Rattle.index_rules.specs.History.{History, Entry, begins, more, is_read_as}
use Rattle.index_rules.specs.PastUsers.{user_after}
use Rattle.index_rules.specs.PastNames.{state_after, quota_after, last_upload_after, owns_after}
use Rattle.index_rules.specs.PastNames.{yank_after}
use Rattle.index_rules.specs.PastCases.{Case, case_after, is_unanswered_after}
use Rattle.index_rules.specs.Legal.{IsLegal, verdict_after}
use Rattle.index_rules.specs.StandsFor.{body_after}
use Rattle.index_rules.specs.PastFiles.{is_undeleted_after, size_after, charge_after}

-- ---- a token has one bearer

-- at most one user has a token with a given digest
abbrev pub HasOneBearerOfEach : History → Type 0
HasOneBearerOfEach h =
    (u v : Bytes) (x y : UserRecord) → user_after h u ≡ Some x → user_after h v ≡ Some y
    → x.token ≡ y.token → u ≡ v

-- ---- a file name is bound for good

-- the request is an upload of the file, of a body with this digest and this size
abbrev pub IsUploadOf : Request → Bytes → Bytes × ℕ → Type 0
IsUploadOf (Upload file declared body requires) f first =
    (read_file file ≡ Some f) × (first ≡ (sha256 body, length body))
IsUploadOf request f first = ⊥

-- some entry of the history is an upload of the file, with this digest and this size
abbrev pub HasUpload : History → Bytes → Bytes × ℕ → Type 0
HasUpload (begins user token) f first = ⊥
HasUpload (more h e) f first = IsUploadOf e.call.request f first ⊎ HasUpload h f first

-- a file name is bound for good: any two uploads of it have the same digest and the same size,
-- whatever stands between them
abbrev pub BindsFiles : History → Type 0
BindsFiles h =
    (f : Bytes) (first second : Bytes × ℕ) → HasUpload h f first → HasUpload h f second
    → first ≡ second

-- an upload declares the digest of its body
abbrev pub DeclaresBody : Request → Type 0
DeclaresBody (Upload file declared body requires) = read_digest declared ≡ Some (sha256 body)
DeclaresBody request = Unit {0}

-- each upload of the history declares the digest of its body
abbrev pub DeclaresBodies : History → Type 0
DeclaresBodies (begins user token) = Unit {0}
DeclaresBodies (more h e) = DeclaresBodies h × DeclaresBody e.call.request

-- the request is a ban of the file
abbrev pub IsBanOf : Request → Bytes → Type 0
IsBanOf (BanFile file) f = read_file file ≡ Some f
IsBanOf request f = ⊥

-- some entry of the history is a ban of the file
abbrev pub HasBan : History → Bytes → Type 0
HasBan (begins user token) f = ⊥
HasBan (more h e) f = IsBanOf e.call.request f ⊎ HasBan h f

-- a ban is for good: no upload of a file stands after a ban of it
abbrev pub KeepsBans : History → Type 0
KeepsBans (begins user token) = Unit {0}
KeepsBans (more h e) =
    KeepsBans h
    × ((f : Bytes) (first : Bytes × ℕ) → IsUploadOf e.call.request f first → HasBan h f → ⊥)

-- ---- what is served of a file

-- the first history is the second one, or is what that was before its newest entries
abbrev pub IsFrontOf : History → History → Type 0
IsFrontOf earlier (begins user token) = earlier ≡ begins user token
IsFrontOf earlier (more h e) = (earlier ≡ more h e) ⊎ IsFrontOf earlier h

-- what is served of a file name is bound for good: if bytes of it are served at two points of the
-- history, they have one digest and one size
abbrev pub ServesBound : History → Type 0
ServesBound h =
    (one other : History) → IsFrontOf one h → IsFrontOf other h
    → (f first second : Bytes) → body_after one f ≡ Some first → body_after other f ≡ Some second
    → (sha256 first ≡ sha256 second) × (length first ≡ length second)

-- at each point of the history, the bytes served of a file are those of an upload of it
abbrev pub ServesUploads : History → Type 0
ServesUploads h =
    (at : History) → IsFrontOf at h
    → (f body : Bytes) → body_after at f ≡ Some body → HasUpload at f (sha256 body, length body)

-- ---- what changes a charge, a state, the owners

-- a request moves the charge of a name `n`, from `before` to `after`: an upload adds its body's
-- size to its project's, a delete and a ban of an undeleted file take the file's size off, a
-- prohibit sets its name's to 0; no other request moves a charge
abbrev pub MovesCharge : Request → History → Bytes → ℕ → ℕ → Type 0
MovesCharge (Upload file sha256 body requires) h n before after =
    after
    ≡ before + (if is_read_as (option_map project_of (read_file file)) n then length body else 0)
MovesCharge (Delete file) h n before after =
    after
    + (if is_read_as (option_map project_of (read_file file)) n
    then size_after h (or_empty (read_file file))
    else 0)
    ≡ before
MovesCharge (BanFile file) h n before after =
    after
    + (if is_read_as (option_map project_of (read_file file)) n
    && is_undeleted_after h (or_empty (read_file file))
    then size_after h (or_empty (read_file file))
    else 0)
    ≡ before
MovesCharge (Prohibit name) h n before after =
    after ≡ (if is_read_as (read_name name) n then 0 else before)
MovesCharge request h n before after = after ≡ before

-- an upload is of a file that is not undeleted
abbrev pub UploadsAnew : Request → History → Type 0
UploadsAnew (Upload file sha256 body requires) h =
    is_undeleted_after h (or_empty (read_file file)) ≡ false
UploadsAnew request h = Unit {0}

-- whether a request may change the state of a name: a claim, a relinquish, a prohibit and an
-- allow may, of their own name
abbrev pub may_move_state : Request → Bytes → Bool
may_move_state (Claim name) n = is_read_as (read_name name) n
may_move_state (Relinquish name) n = is_read_as (read_name name) n
may_move_state (Prohibit name) n = is_read_as (read_name name) n
may_move_state (Allow name) n = is_read_as (read_name name) n
may_move_state request n = false

-- whether a request may change the owners of a name: one that may change its state may, and an
-- add_owner, a remove_owner and a transfer
abbrev pub may_move_owners : Request → Bytes → Bool
may_move_owners (AddOwner name user) n = is_read_as (read_name name) n
may_move_owners (RemoveOwner name user) n = is_read_as (read_name name) n
may_move_owners (Transfer name quiet) n = is_read_as (read_name name) n
may_move_owners request n = may_move_state request n

-- what an entry changes
pub record Moves (h : History) (e : Entry) : Type 0 where
  pub charge : (n : Bytes)
      → MovesCharge e.call.request h n (charge_after h n) (charge_after (more h e) n)
  pub anew : UploadsAnew e.call.request h
  pub state : (n : Bytes) → may_move_state e.call.request n ≡ false
      → state_after (more h e) n ≡ state_after h n
  pub owners : (n u : Bytes) → may_move_owners e.call.request n ≡ false
      → owns_after (more h e) n u ≡ owns_after h n u

-- each entry of the history changes only what it may
abbrev pub MovesAsRecorded : History → Type 0
MovesAsRecorded (begins user token) = Unit {0}
MovesAsRecorded (more h e) = MovesAsRecorded h × Moves h e

-- ---- every transfer was ready

-- what held right before a transfer of the name to the candidate of its case, and what holds right
-- after it
pub record WasReady (h : History) (e : Entry) (name : Bytes) (quiet : Bool) : Type 0 where
  pub case : Case
  pub is_open : case_after h name ≡ Some case
  -- three attempts were sent and each means was tried, six weeks and a year have
  -- passed, and the home page is quiet
  pub ready : IsReady (tally_of case.attempts) (last_upload_after h name) quiet e.call.at
  -- no owner acted since the case was opened
  pub unanswered : is_unanswered_after h name ≡ true
  -- the candidate alone owns the name, and its quota and yanks are as they were
  pub owners : (u : Bytes) → owns_after (more h e) name u ≡ same u case.candidate
  pub quota : quota_after (more h e) name ≡ quota_after h name
  pub yanks : (r : Bytes) → yank_after (more h e) name r ≡ yank_after h name r

-- if the entry is a transfer, it was ready
abbrev pub TransferWasReady : Request → History → Entry → Type 0
TransferWasReady (Transfer name quiet) h e =
    (n : Bytes) → read_name name ≡ Some n → WasReady h e n quiet
TransferWasReady request h e = Unit {0}

-- every transfer was ready; `Moves` says that the charge and the state of the name are unchanged
-- too
abbrev pub TransfersWereReady : History → Type 0
TransfersWereReady (begins user token) = Unit {0}
TransfersWereReady (more h e) = TransfersWereReady h × TransferWasReady e.call.request h e

-- ---- names are independent of one another

-- whether a request is on users, or on the name; an upload, a delete and a ban of a file are on the
-- project that the file name spells
abbrev pub is_kept : Request → Bytes → Bool
is_kept (AddUser user office token) n = true
is_kept (SetToken user token) n = true
is_kept request n = is_read_as (name_key request) n

-- the opening, the entries on users, and the entries of the name, in their order
abbrev pub history_of_name : Bytes → History → History
history_of_name n (begins user token) = begins user token
history_of_name n (more h e) =
    if is_kept e.call.request n then more (history_of_name n h) e else history_of_name n h

-- the history of a name is legal, and a call on the name has the same verdict in it as in the whole
-- history: what was accepted on other names makes no difference
abbrev pub StandsAlone : History → Type 0
StandsAlone h =
    (n : Bytes)
    → IsLegal (history_of_name n h)
    × ((c : Call) → name_key c.request ≡ Some n
    → verdict_after (history_of_name n h) c ≡ verdict_after h c)
