-- What each change asks of SQL.
use Rattle.std.specs.Prelude.{◌≡◌, List, [], ◌∷◌, Option, None, Some, if◌then◌else◌}
use Rattle.index_sql_writes.specs.StepAsks.{asks_by}
use Rattle.index_sql_writes.specs.Changed.{all_of}
use Rattle.index_sql_writes.specs.declared.step.Step.{Step}
use Rattle.index_rules.specs.declared.change.Change.{Change}
use Rattle.index_rules.specs.declared.change.Change.TheVariants as change
use Rattle.index_rules.specs.Effect.{means}
use Rattle.index_rules.specs.Maps.{Bytes}
use Rattle.index_rules.specs.Projects.{Project}
use Rattle.index_sql_writes.specs.Asks.{Ask}
use Rattle.index_sql_writes.specs.Statements.{put_user_ask, hold_name_ask, prohibit_name_ask}
use Rattle.index_sql_writes.specs.Statements.{put_owner_ask, put_file_ask, put_body_ask}
use Rattle.index_sql_writes.specs.Statements.{put_case_ask, put_ban_ask, put_yank_ask}
use Rattle.index_sql_writes.specs.Statements.{delete_name_ask, delete_owners_ask, delete_owner_ask}
use Rattle.index_sql_writes.specs.Statements.{delete_yanks_ask, delete_yank_ask, delete_case_ask}
use Rattle.index_sql_writes.specs.Statements.{delete_body_ask, delete_bodies_ask, mark_files_ask}

-- the name is held with this record, if there is one, and then the rest
abbrev hold_if_any : Bytes → Option Project → List Ask → List Ask
hold_if_any name None rest = rest
hold_if_any name (Some project) rest = hold_name_ask name project ∷ rest

-- what a change asks; a row is put before those that refer to it
abbrev pub asks_of : Change → List Ask
asks_of (change.AddUser user account) = put_user_ask user account ∷ []
asks_of (change.SetToken user account) = put_user_ask user account ∷ []
asks_of (change.SetQuota name project) = hold_name_ask name project ∷ []
asks_of (change.Claim name project owner) =
    delete_owners_ask name ∷ delete_yanks_ask name ∷ delete_case_ask name
    ∷ hold_name_ask name project ∷ put_owner_ask name owner ∷ []
asks_of (change.AddOwner name user) = put_owner_ask name user ∷ delete_case_ask name ∷ []
asks_of (change.RemoveOwner name user) = delete_owner_ask name user ∷ delete_case_ask name ∷ []
asks_of (change.Upload name project file known body ends_case) =
    hold_name_ask name project ∷ put_file_ask file known
    ∷ delete_body_ask file ∷ put_body_ask file body
    ∷ (if ends_case then delete_case_ask name ∷ [] else [])
asks_of (change.Delete name project file known) =
    hold_name_ask name project ∷ put_file_ask file known
    ∷ delete_body_ask file ∷ delete_case_ask name ∷ []
asks_of (change.BanFile name project file known) =
    hold_if_any name project
    (put_file_ask file known ∷ delete_body_ask file ∷ put_ban_ask file ∷ [])
asks_of (change.Yank name release reason) =
    put_yank_ask name release reason ∷ delete_case_ask name ∷ []
asks_of (change.Unyank name release) = delete_yank_ask name release ∷ delete_case_ask name ∷ []
asks_of (change.Relinquish name) = delete_name_ask name ∷ []
asks_of (change.Prohibit name) =
    delete_bodies_ask name ∷ mark_files_ask name
    ∷ delete_name_ask name ∷ prohibit_name_ask name ∷ []
asks_of (change.Allow name) = delete_name_ask name ∷ []
asks_of (change.OpenCase name case) = put_case_ask name case ∷ []
asks_of (change.RecordAttempt name case) = put_case_ask name case ∷ []
asks_of (change.Transfer name candidate) =
    delete_owners_ask name ∷ put_owner_ask name candidate ∷ delete_case_ask name ∷ []
asks_of (change.CloseCase name) = delete_case_ask name ∷ []
asks_of (change.AnswerCase name) = delete_case_ask name ∷ []

-- the steps have the effect of the change, and ask what it asks
abbrev pub AreStepsOf : Change → List Step → Type 0
AreStepsOf change steps = (all_of steps ≡ means change) × (asks_by steps ≡ asks_of change)
