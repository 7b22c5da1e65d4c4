-- A change of the tables as a list of steps.
use Rattle.std.specs.Prelude.{◌≡◌, List, [], ◌∷◌, false, IsTrue, OnErr, OnOk, Result}
use Rattle.sqlite_value.specs.Order.{Row}
use Rattle.sqlite_trees.specs.Tree.{Trees}
use Rattle.sqlite_trees.specs.declared.store.Store.{Ghosts}
use Rattle.sqlite.specs.Effect.{Database}
use Rattle.sqlite.specs.Held.{Held as Connected, state}
use Rattle.sqlite.specs.State.{State, HasCleanDisk, Survives}
use Rattle.index_rules.specs.declared.records.NameRecord.TheVariants.{Held, Prohibited}
use Rattle.index_rules.specs.Effect.{without_record}
use Rattle.index_rules.specs.Tables.{Tables}
use Rattle.index_sql_schema.specs.Schema.{index_schema}
use Rattle.index_sql_schema.specs.Records.{tables_in}
use Rattle.index_sql_schema.specs.RecordRows.{AreRecords, AreRecordsOf}
use Rattle.index_sql_schema.specs.Index.{IsIndex, meta_in, same_meta}
use Rattle.index_sql_writes.specs.Writes.{puts_user, puts_name, puts_owner, puts_file, puts_body}
use Rattle.index_sql_writes.specs.Writes.{puts_yank, puts_case, puts_ban, deletes_owners}
use Rattle.index_sql_writes.specs.Writes.{deletes_owner, deletes_yanks, deletes_yank, deletes_case}
use Rattle.index_sql_writes.specs.Writes.{deletes_body, deletes_bodies, marks_files}
use Rattle.index_sql_writes.specs.declared.step.Put.{Put}
use Rattle.index_sql_writes.specs.declared.step.Put.TheVariants as put
use Rattle.index_sql_writes.specs.declared.step.Deletion.{Deletion}
use Rattle.index_sql_writes.specs.declared.step.Deletion.TheVariants as deletion
use Rattle.index_sql_writes.specs.declared.step.Step.{Step}
use Rattle.index_sql_writes.specs.declared.step.Step.TheVariants as step

-- the tables after a record is put
abbrev pub put_by : Put → Tables → Tables
put_by (put.User user account) = puts_user user.now account.now
put_by (put.Held name project) = puts_name name.now (Held project.now)
put_by (put.Prohibited name) = puts_name name.now Prohibited
put_by (put.Owner name user) = puts_owner name.now user.now
put_by (put.File file known) = puts_file file.now known.now
put_by (put.Body file body) = puts_body file.now body.now
put_by (put.Case name case) = puts_case name.now case.now
put_by (put.Ban file) = puts_ban file.now
put_by (put.Yank name release reason) = puts_yank name.now release.now reason.now

-- the tables after a deletion
abbrev pub deletion_by : Deletion → Tables → Tables
deletion_by (deletion.Name name) = without_record name.now
deletion_by (deletion.Owners name) = deletes_owners name.now
deletion_by (deletion.Owner name user) = deletes_owner name.now user.now
deletion_by (deletion.Yanks name) = deletes_yanks name.now
deletion_by (deletion.Yank name release) = deletes_yank name.now release.now
deletion_by (deletion.Case name) = deletes_case name.now
deletion_by (deletion.Body file) = deletes_body file.now
deletion_by (deletion.Bodies name) = deletes_bodies name.now

-- the tables after a step
abbrev pub step_by : Step → Tables → Tables
step_by (step.Put it) = put_by it
step_by (step.Delete it) = deletion_by it
step_by (step.MarkFiles name) = marks_files name.now

-- the tables after all steps, in turn
abbrev pub all_of : List Step → Tables → Tables
all_of [] T = T
all_of (it ∷ rest) T = all_of rest (step_by it T)

-- the change is made and committed, and the rows of meta are what `rows` makes of those before
pub record IsMade
    (change : Tables → Tables)
    (rows : List Row → List Row)
    (old new : State) : Type 0 where
  pub is_open : IsTrue new.is_open
  pub index : IsIndex new.now
  pub tables : tables_in new.now.trees ≡ change (tables_in old.now.trees)
  pub meta : meta_in new.now.trees ≡ rows (meta_in old.now.trees)
  -- the rows of the tables are records if they were
  pub records : AreRecords old.now → AreRecords new.now
  pub committed : new.committed ≡ new.now
  pub ended : new.in_transaction ≡ false

-- the database is as it was committed before
abbrev pub IsUndone : State → State → Type 0
IsUndone old new = (new.now ≡ old.committed) × (new.committed ≡ old.committed)

-- the trees of an index
abbrev pub HoldsIndex : Trees → Type 0
HoldsIndex db = IsIndex (record { schema = index_schema; trees = db })

-- a crash leaves what could be left before, or the whole change, with its rows of meta, in an
-- index; its rows are records if they were
abbrev pub LeavesWholeChange : (Tables → Tables) → (List Row → List Row) → State → State → Type 0
LeavesWholeChange change rows old new =
    Survives old new
    (λ db. (tables_in db ≡ change (tables_in old.now.trees))
    × (meta_in db ≡ rows (meta_in old.now.trees)) × HoldsIndex db
    × (AreRecords old.now → AreRecordsOf index_schema.tables db))

-- What a transaction leaves that is to make this change of an open database of such a kind, and
-- this of its rows of meta. Its facts about the database are about a clean disk.
pub record MakesAll {S A E : Type 0} (g : Ghosts S)
    (IsKind : Database → Type 0)
    (change : Tables → Tables)
    (rows : List Row → List Row)
    (old new : Connected S)
    (result : Result A E) : Type 0 where
  pub made : HasCleanDisk (state g new)
      → OnOk result
      (IsTrue (state g old).is_open
      → IsKind (state g old).now
      → IsMade change rows (state g old) (state g new))
  pub opened : HasCleanDisk (state g new) → OnOk result (IsTrue (state g new).is_open)
  -- after an error, if the connection is still open, the database is as it was committed
  pub unchanged : HasCleanDisk (state g new)
      → IsTrue (state g new).is_open
      → IsKind (state g old).now
      → OnErr result (IsUndone (state g old) (state g new))
  pub outside : new.in_transaction ≡ false
  pub was_clean : HasCleanDisk (state g new) → HasCleanDisk (state g old)
  pub was_open : HasCleanDisk (state g new)
      → IsTrue (state g new).is_open
      → IsTrue (state g old).is_open
  pub crash : IsTrue (state g old).is_open → IsKind (state g old).now
      → LeavesWholeChange change rows (state g old) (state g new)

-- a transaction makes this change of an index, and leaves its rows of meta
abbrev pub MakesChange : {S A E : Type 0} → Ghosts S
    → (Tables → Tables) → Connected S → Connected S → Result A E → Type 0
MakesChange g change = MakesAll g IsIndex change same_meta
