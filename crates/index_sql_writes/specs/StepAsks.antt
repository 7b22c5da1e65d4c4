-- What the steps ask of SQL, and why they fail.
use Rattle.std.specs.Prelude.{◌≡◌, ◌⊎◌, List, Option, Err, IfErr, IsTrue, Result, map}
use Rattle.sqlite_trees.specs.declared.store.Store.{Ghosts}
use Rattle.sqlite.specs.declared.error.Error.{Error}
use Rattle.sqlite.specs.Effect.{Database}
use Rattle.sqlite.specs.Held.{Held, state}
use Rattle.sqlite.specs.State.{State, HasCleanDisk}
use Rattle.index_sql_schema.specs.Faults.{fault_by}
use Rattle.index_sql_schema.specs.Index.{IsIndex}
use Rattle.index_sql_schema.specs.RecordRows.{AreRecords}
use Rattle.index_sql_schema.specs.Reasons.{HasReason}
use Rattle.index_rules.specs.declared.answer.Fault.TheVariants.{Store}
use Rattle.index_sql_writes.specs.Asks.{Ask, SqlAnswersEachAsk}
use Rattle.index_sql_writes.specs.Statements.{hold_name_ask, prohibit_name_ask, put_body_ask}
use Rattle.index_sql_writes.specs.Statements.{put_ban_ask, put_case_ask, put_file_ask}
use Rattle.index_sql_writes.specs.Statements.{delete_name_ask, delete_owner_ask, delete_owners_ask}
use Rattle.index_sql_writes.specs.Statements.{delete_case_ask, delete_yank_ask, delete_yanks_ask}
use Rattle.index_sql_writes.specs.Statements.{delete_bodies_ask, delete_body_ask, mark_files_ask}
use Rattle.index_sql_writes.specs.Statements.{put_owner_ask, put_user_ask, put_yank_ask}
use Rattle.index_sql_writes.specs.declared.step.Put.{Put}
use Rattle.index_sql_writes.specs.declared.step.Put.TheVariants as put
use Rattle.index_sql_writes.specs.declared.step.Deletion.{Deletion}
use Rattle.index_sql_writes.specs.declared.step.Deletion.TheVariants as deletion
use Rattle.index_sql_writes.specs.declared.step.Step.{Step}
use Rattle.index_sql_writes.specs.declared.step.Step.TheVariants as step

-- what putting a record asks
abbrev pub put_ask : Put → Ask
put_ask (put.User user account) = put_user_ask user.now account.now
put_ask (put.Held name project) = hold_name_ask name.now project.now
put_ask (put.Prohibited name) = prohibit_name_ask name.now
put_ask (put.Owner name user) = put_owner_ask name.now user.now
put_ask (put.File file known) = put_file_ask file.now known.now
put_ask (put.Body file body) = put_body_ask file.now body.now
put_ask (put.Case name case) = put_case_ask name.now case.now
put_ask (put.Ban file) = put_ban_ask file.now
put_ask (put.Yank name release reason) = put_yank_ask name.now release.now reason.now

-- what a deletion asks
abbrev pub deletion_ask : Deletion → Ask
deletion_ask (deletion.Name name) = delete_name_ask name.now
deletion_ask (deletion.Owners name) = delete_owners_ask name.now
deletion_ask (deletion.Owner name user) = delete_owner_ask name.now user.now
deletion_ask (deletion.Yanks name) = delete_yanks_ask name.now
deletion_ask (deletion.Yank name release) = delete_yank_ask name.now release.now
deletion_ask (deletion.Case name) = delete_case_ask name.now
deletion_ask (deletion.Body file) = delete_body_ask file.now
deletion_ask (deletion.Bodies name) = delete_bodies_ask name.now

-- what a step asks
abbrev pub step_ask : Step → Ask
step_ask (step.Put it) = put_ask it
step_ask (step.Delete it) = deletion_ask it
step_ask (step.MarkFiles name) = mark_files_ask name.now

-- what several steps ask, in turn
abbrev pub asks_by : List Step → List Ask
asks_by = map step_ask

-- SQL refuses one of these, after those before it
abbrev pub AreRefused : List Ask → Database → Type 0
AreRefused asks db = (why : Option Error) × SqlAnswersEachAsk asks db (Err why)

-- the error is a fault of the store only for a reason of the store, or if SQL refuses
abbrev pub FailsForRefusal : List Ask → State → State → Error → Type 0
FailsForRefusal asks old new e = fault_by e ≡ Store → HasReason old new ⊎ AreRefused asks old.now

-- on a clean disk, over an index whose rows are records, the error is a fault of the store only for
-- a reason of the store, or if SQL refuses
abbrev pub FailsForAsks :
    {S A : Type 0} → Ghosts S → List Ask → Held S → Held S → Result A Error → Type 0
FailsForAsks g asks old new result =
    HasCleanDisk (state g new)
    → (IsTrue (state g old).is_open → IsIndex (state g old).now)
    → AreRecords (state g old).now
    → IfErr result (FailsForRefusal asks (state g old) (state g new))
