-- Who is a user after a history, of the office or not, and who has a token.
use Rattle.std.specs.Prelude.{if◌then◌else◌, List, [], ◌∷◌, Option, Some, None, find, option_map}
use Rattle.index_rules.specs.declared.call.Request.{Request}
use Rattle.index_rules.specs.declared.call.Request.TheVariants.{AddUser, SetToken}
use Rattle.index_rules.specs.declared.records.UserRecord.{UserRecord}
use Rattle.index_rules.specs.Maps.{Bytes, same}
use Rattle.index_rules.specs.Users.{read_user}
use Rattle.index_rules.specs.Texts.{read_token}
use Rattle.index_rules.specs.Verdict.{bears}
use Rattle.index_rules.specs.Effect.{or_empty}
use Rattle.index_rules.specs.FirstTables.{first_record}
use Rattle.index_rules.specs.History.{History, begins, more, is_read_as}

-- the user's record with another digest of a token
abbrev pub with_token : Bytes → UserRecord → UserRecord
with_token token user = record { office = user.office; token = token }

-- a user's record after one request
abbrev pub user_by : Request → Bytes → Option UserRecord → Option UserRecord
user_by (AddUser user office token) u before =
    if is_read_as (read_user user) u
    then Some (record { office = office; token = or_empty (read_token token) })
    else before
user_by (SetToken user token) u before =
    if is_read_as (read_user user) u
    then option_map (with_token (or_empty (read_token token))) before
    else before
user_by request u before = before

-- The record of a user after a history; none before the user is added. The first user is of the
-- office, another as the last AddUser says. The digest is that of the last AddUser or SetToken, or
-- the first user's.
abbrev pub user_after : History → Bytes → Option UserRecord
user_after (begins user token) u = if same u user then Some (first_record token) else None
user_after (more h e) u = user_by e.call.request u (user_after h u)

-- a list of users with one more, if a user id was parsed
abbrev pub with_read : Option Bytes → List Bytes → List Bytes
with_read None users = users
with_read (Some user) users = user ∷ users

-- the users who were added, after one request more
abbrev pub users_by : Request → List Bytes → List Bytes
users_by (AddUser user office token) users = with_read (read_user user) users
users_by request users = users

-- the users who were added, the first one too
abbrev pub users_after : History → List Bytes
users_after (begins user token) = user ∷ []
users_after (more h e) = users_by e.call.request (users_after h)

-- the user who has the token with this digest; TokenTaken refuses a second one
abbrev pub bearer_after : History → Bytes → Option Bytes
bearer_after h token = find (λ user. bears (Some token) (user_after h user)) (users_after h)
