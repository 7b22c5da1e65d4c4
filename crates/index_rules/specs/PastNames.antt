-- What a history makes of a name: whether it is free, held or prohibited, its shown spelling, its
-- quota, its owners, its yanks. Names are in normal form (PEP 503).
use Rattle.std.specs.Prelude.{ℕ, max, Bool, true, false, not, ◌&&◌, ◌||◌, if◌then◌else◌, List, []}
use Rattle.std.specs.Prelude.{◌∷◌, Option, Some, None, option_map, option_and_then}
use Rattle.std.specs.Option.{option_map_or}
use Rattle.std.specs.List.{list_all}
use Rattle.index_names.specs.Project.{read_name}
use Rattle.index_names.specs.FileName.{project_of}
use Rattle.index_names.specs.Release.{read_release}
use Rattle.index_rules.specs.declared.call.Request.{Request}
use Rattle.index_rules.specs.declared.call.Request.TheVariants.{SetQuota, Claim, AddOwner}
use Rattle.index_rules.specs.declared.call.Request.TheVariants.{RemoveOwner, Upload, Yank, Unyank}
use Rattle.index_rules.specs.declared.call.Request.TheVariants.{Relinquish, Prohibit, Allow}
use Rattle.index_rules.specs.declared.call.Request.TheVariants.{Transfer}
use Rattle.index_rules.specs.Maps.{Bytes, same}
use Rattle.index_rules.specs.Users.{read_user}
use Rattle.index_rules.specs.Requests.{read_file}
use Rattle.index_rules.specs.Projects.{first_quota}
use Rattle.index_rules.specs.History.{History, begins, more, is_read_as}
use Rattle.index_rules.specs.PastUsers.{with_read}
use Rattle.index_rules.specs.PastCases.{candidate_after}

-- the state of a name
pub data State : Type 0 where
  Free : State
  Held : State
  Prohibited : State

-- ---- the state

-- the state of a name after one request
abbrev pub state_by : Request → Bytes → State → State
state_by (Claim name) n before = if is_read_as (read_name name) n then Held else before
state_by (Relinquish name) n before = if is_read_as (read_name name) n then Free else before
state_by (Prohibit name) n before = if is_read_as (read_name name) n then Prohibited else before
state_by (Allow name) n before = if is_read_as (read_name name) n then Free else before
state_by request n before = before

-- a name is free at first; then the last claim, relinquish, prohibit or allow of it decides: held,
-- free, prohibited, free
abbrev pub state_after : History → Bytes → State
state_after (begins user token) n = Free
state_after (more h e) n = state_by e.call.request n (state_after h n)

-- whether a state is held
abbrev pub is_held_now : State → Bool
is_held_now Free = false
is_held_now Held = true
is_held_now Prohibited = false

-- ---- the shown name and the quota

-- the shown name, after one request more
abbrev pub shown_by : Request → Bytes → Bytes → Bytes
shown_by (Claim name) n before = if is_read_as (read_name name) n then name else before
shown_by request n before = before

-- the shown name is the spelling of the last claim
abbrev pub shown_after : History → Bytes → Bytes
shown_after (begins user token) n = []
shown_after (more h e) n = shown_by e.call.request n (shown_after h n)

-- the quota, after one request more
abbrev pub quota_by : Request → Bytes → ℕ → ℕ
quota_by (Claim name) n before = if is_read_as (read_name name) n then first_quota else before
quota_by (SetQuota name quota) n before = if is_read_as (read_name name) n then quota else before
quota_by request n before = before

-- the quota that was set last since the last claim, or that a claim brings
abbrev pub quota_after : History → Bytes → ℕ
quota_after (begins user token) n = first_quota
quota_after (more h e) n = quota_by e.call.request n (quota_after h n)

-- ---- the latest upload

-- the moments of the uploads, after one request more
abbrev pub uploads_by : Request → ℕ → Bytes → List ℕ → List ℕ
uploads_by (Claim name) at n before = if is_read_as (read_name name) n then [] else before
uploads_by (Upload file sha256 body requires) at n before =
    if is_read_as (option_map project_of (read_file file)) n then at ∷ before else before
uploads_by request at n before = before

-- the moments of the name's uploads since its last claim, whether or not
-- the files were deleted since
abbrev pub uploads_after : History → Bytes → List ℕ
uploads_after (begins user token) n = []
uploads_after (more h e) n = uploads_by e.call.request e.call.at n (uploads_after h n)

-- the greatest of some moments
abbrev pub greatest : List ℕ → Option ℕ
greatest [] = None
greatest (moment ∷ moments) = Some (option_map_or (max moment) (greatest moments) moment)

-- the latest upload is the one with the greatest moment, in whatever order the uploads came
abbrev pub last_upload_after : History → Bytes → Option ℕ
last_upload_after h n = greatest (uploads_after h n)

-- ---- the owners

-- whether a name is given to a user, after one request more: a claim gives it to its caller alone,
-- a transfer to the candidate of its case alone; an add_owner gives it to a user, and a
-- remove_owner takes it from one
abbrev pub is_given_by : Request → Bytes → Option Bytes → Bytes → Bytes → Bool → Bool
is_given_by (Claim name) actor candidate n u before =
    if is_read_as (read_name name) n then same u actor else before
is_given_by (AddOwner name user) actor candidate n u before =
    if is_read_as (read_name name) n && is_read_as (read_user user) u then true else before
is_given_by (RemoveOwner name user) actor candidate n u before =
    if is_read_as (read_name name) n && is_read_as (read_user user) u then false else before
is_given_by (Transfer name quiet) actor candidate n u before =
    if is_read_as (read_name name) n then is_read_as candidate u else before
is_given_by request actor candidate n u before = before

-- whether the name is given to the user; a transfer's candidate is that of the case that is open in
-- the history `h` before the entry
abbrev pub is_given_after : History → Bytes → Bytes → Bool
is_given_after (begins user token) n u = false
is_given_after (more h e) n u =
    is_given_by e.call.request e.actor (candidate_after h n) n u (is_given_after h n u)

-- an owner is a user to whom a held name is given; a relinquish and a prohibit end all owners,
-- since the name is no longer held, and the next claim gives it to its caller alone
abbrev pub owns_after : History → Bytes → Bytes → Bool
owns_after h n u = is_held_now (state_after h n) && is_given_after h n u

-- the users to whom names were given, after one request more
abbrev pub receivers_by : Request → Bytes → (Bytes → Option Bytes) → List Bytes → List Bytes
receivers_by (Claim name) actor candidate users = actor ∷ users
receivers_by (AddOwner name user) actor candidate users = with_read (read_user user) users
receivers_by (Transfer name quiet) actor candidate users =
    with_read (option_and_then candidate (read_name name)) users
receivers_by request actor candidate users = users

-- all users to whom any name was ever given
abbrev pub receivers_after : History → List Bytes
receivers_after (begins user token) = []
receivers_after (more h e) =
    receivers_by e.call.request e.actor (candidate_after h) (receivers_after h)

-- whether the user owns the name, and no other user to whom any name was ever given does
abbrev pub owns_alone_after : History → Bytes → Bytes → Bool
owns_alone_after h n u =
    owns_after h n u && list_all (λ v. not (owns_after h n v) || same u v) (receivers_after h)

-- ---- the yanks (PEP 592)

-- the reason for which a release is yanked, after one request more; uploads and deletes have no
-- line: a release stays yanked when its files are deleted, and a file that is uploaded into it
-- later is yanked too
abbrev pub reason_by : Request → Bytes → Bytes → Option Bytes → Option Bytes
reason_by (Claim name) n r before = if is_read_as (read_name name) n then None else before
reason_by (Yank name release reason) n r before =
    if is_read_as (read_name name) n && is_read_as (read_release release) r
    then Some reason
    else before
reason_by (Unyank name release) n r before =
    if is_read_as (read_name name) n && is_read_as (read_release release) r then None else before
reason_by request n r before = before

-- the reason of the last yank of the release since the last claim of the name, unless an unyank
-- came after it
abbrev pub reason_after : History → Bytes → Bytes → Option Bytes
reason_after (begins user token) n r = None
reason_after (more h e) n r = reason_by e.call.request n r (reason_after h n r)

-- the reason for which a release of a held name is yanked (PEP 592 marks files; here a yank is of
-- all files of a release); a relinquish and a prohibit end the yanks as they end the owners
abbrev pub yank_after : History → Bytes → Bytes → Option Bytes
yank_after h n r = if is_held_now (state_after h n) then reason_after h n r else None
