-- What a history makes of a retention case: which is open, and its attempts. A name has at most one
-- open case (PEP 541 has the outline).
use Rattle.std.specs.Prelude.{ℕ, Bool, false, not, ◌&&◌, ◌||◌, if◌then◌else◌, List, [], ◌∷◌, Option}
use Rattle.std.specs.Prelude.{Some, None, option_map}
use Rattle.index_names.specs.Project.{read_name}
use Rattle.index_names.specs.FileName.{project_of}
use Rattle.index_retention.specs.declared.attempts.CaseKind.{CaseKind}
use Rattle.index_retention.specs.Attempts.{Attempt, attempt_of}
use Rattle.index_rules.specs.declared.call.Request.{Request}
use Rattle.index_rules.specs.declared.call.Request.TheVariants.{AddUser, SetToken, SetQuota, Claim}
use Rattle.index_rules.specs.declared.call.Request.TheVariants.{AddOwner, RemoveOwner, Upload}
use Rattle.index_rules.specs.declared.call.Request.TheVariants.{Delete, BanFile, Yank, Unyank}
use Rattle.index_rules.specs.declared.call.Request.TheVariants.{Relinquish, Prohibit, Allow}
use Rattle.index_rules.specs.declared.call.Request.TheVariants.{OpenCase, RecordAttempt, Transfer}
use Rattle.index_rules.specs.declared.call.Request.TheVariants.{CloseCase, AnswerCase}
use Rattle.index_rules.specs.Maps.{Bytes}
use Rattle.index_rules.specs.Requests.{read_file}
use Rattle.index_rules.specs.History.{History, begins, more, is_read_as}

-- an open case
pub record Case : Type 0 where
  pub kind : CaseKind
  -- the user who opened it, and gets the name at a transfer
  pub candidate : Bytes
  -- how the owner was sought in vain
  pub contact : Bytes
  -- the candidate's work
  pub work : Bytes
  -- why no other name will do
  pub why : Bytes
  -- when it was opened
  pub opened : ℕ
  -- all its attempts to reach the owner, the newest first
  pub attempts : List Attempt

-- the case with one attempt more
abbrev pub with_attempt : Attempt → Case → Case
with_attempt attempt case = record case { attempts = attempt ∷ case.attempts }

-- whether a request is one on the name that only an owner may make
abbrev pub is_owners_request : Request → Bytes → Bool
is_owners_request (AddUser user office token) n = false
is_owners_request (SetToken user token) n = false
is_owners_request (SetQuota name quota) n = false
is_owners_request (Claim name) n = false
is_owners_request (AddOwner name user) n = is_read_as (read_name name) n
is_owners_request (RemoveOwner name user) n = is_read_as (read_name name) n
is_owners_request (Upload file sha256 body requires) n =
    is_read_as (option_map project_of (read_file file)) n
is_owners_request (Delete file) n = is_read_as (option_map project_of (read_file file)) n
is_owners_request (BanFile file) n = false
is_owners_request (Yank name release reason) n = is_read_as (read_name name) n
is_owners_request (Unyank name release) n = is_read_as (read_name name) n
is_owners_request (Relinquish name) n = is_read_as (read_name name) n
is_owners_request (Prohibit name) n = false
is_owners_request (Allow name) n = false
is_owners_request (OpenCase name kind contact work why) n = false
is_owners_request (RecordAttempt name means sent) n = false
is_owners_request (Transfer name quiet) n = false
is_owners_request (CloseCase name) n = false
is_owners_request (AnswerCase name) n = is_read_as (read_name name) n

-- the open case, after one request more; a claim has no line: when one is accepted the name is
-- free, and a free name has no open case, since a relinquish and a prohibit end it
abbrev pub case_by : Request → Bytes → ℕ → Bytes → Option Case → Option Case
case_by (OpenCase name kind contact work why) actor at n before =
    if is_read_as (read_name name) n
    then Some (record {
      kind = kind;
      candidate = actor;
      contact = contact;
      work = work;
      why = why;
      opened = at;
      attempts = [];
    })
    else before
case_by (RecordAttempt name means sent) actor at n before =
    if is_read_as (read_name name) n
    then option_map (with_attempt (attempt_of means sent at)) before
    else before
case_by (CloseCase name) actor at n before = if is_read_as (read_name name) n then None else before
case_by (Transfer name quiet) actor at n before =
    if is_read_as (read_name name) n then None else before
case_by (Prohibit name) actor at n before = if is_read_as (read_name name) n then None else before
case_by request actor at n before = if is_owners_request request n then None else before

-- the last case that was opened on the name, if it is still open: nothing closed it, and no
-- transfer, prohibit or owner's request of the name was accepted since; its attempts are those
-- recorded since
abbrev pub case_after : History → Bytes → Option Case
case_after (begins user token) n = None
case_after (more h e) n = case_by e.call.request e.actor e.call.at n (case_after h n)

-- the user who opened the open case
abbrev pub candidate_after : History → Bytes → Option Bytes
candidate_after h n = option_map (λ case. case.candidate) (case_after h n)

-- whether a request opens a case on the name
abbrev pub opens_case : Request → Bytes → Bool
opens_case (OpenCase name kind contact work why) n = is_read_as (read_name name) n
opens_case request n = false

-- whether no owner's request of the name stands after the last opening of a case on it; no table
-- records this, and `TransfersWereReady` uses it
abbrev pub is_unanswered_after : History → Bytes → Bool
is_unanswered_after (begins user token) n = false
is_unanswered_after (more h e) n =
    opens_case e.call.request n
    || (not (is_owners_request e.call.request n) && is_unanswered_after h n)
