-- The tables that the ordered maps hold.
use Rattle.std.specs.Prelude.{Bool, IfErr, IfOk, List, OnErr, OnOk, Result, false, is_ok, true, ℕ}
use Rattle.std.specs.Prelude.{⊤, ◌≡◌, ◌≢◌}
use Rattle.std.specs.FinMap.{remove}
use Rattle.index_io.specs.Counts.{next_count}
use Rattle.index_names.specs.Faults.{FailsByEither}
use Rattle.index_rules.specs.declared.answer.Fault.{Fault}
use Rattle.index_rules.specs.declared.answer.Fault.TheVariants as fault
use Rattle.index_rules.specs.declared.change.Change.{Change}
use Rattle.index_rules.specs.declared.change.Change.TheVariants.{AddOwner, Claim, Delete}
use Rattle.index_rules.specs.declared.change.Change.TheVariants.{BanFile, Relinquish, RemoveOwner}
use Rattle.index_rules.specs.declared.change.Change.TheVariants.{Allow, OpenCase, Prohibit}
use Rattle.index_rules.specs.declared.change.Change.TheVariants.{CloseCase, RecordAttempt, SetQuota}
use Rattle.index_rules.specs.declared.change.Change.TheVariants.{AnswerCase, Transfer, Unyank}
use Rattle.index_rules.specs.declared.change.Change.TheVariants.{Upload, Yank}
use Rattle.index_rules.specs.declared.open.OpenFault.{OpenFault}
use Rattle.index_rules.specs.declared.open.OpenFault.TheVariants as open_fault
use Rattle.index_rules.specs.declared.rows.FileRow.{FileRow}
use Rattle.index_rules.specs.declared.rows.NameRow.{NameRow}
use Rattle.index_rules.specs.declared.rows.WalkEnd.{WalkEnd}
use Rattle.index_rules.specs.declared.rows.WalkEnd.TheVariants as walk_end
use Rattle.index_rules.specs.Calls as calls
use Rattle.index_rules.specs.FirstTables.{RefusesBadFirstUser, first_tables}
use Rattle.index_rules.specs.Maps.{Bytes, bytes_cmp}
use Rattle.index_rules.specs.Tables.{Tables}
use Rattle.index_rules.specs.Effect.{means, without_name}
use Rattle.index_rules.specs.TableRows.{file_rows_in, held_rows_in}
use Rattle.index_rules.specs.Walks.{TakerStep, WalksTo}
use Rattle.index_plain.specs.declared.plain.PlainBooks.{PlainBooks}
use Rattle.index_plain.specs.Trees.{table_of}
use Rattle.index_plain.specs.Pairs.{pairs_in}

-- the tables that these books hold
abbrev pub plain_tables : PlainBooks → Tables
plain_tables b = record {
  users = table_of b.accounts.users;
  names = table_of b.names;
  owners = pairs_in bytes_cmp bytes_cmp b.owners;
  files = table_of b.files;
  bodies = table_of b.bodies;
  yanks = pairs_in bytes_cmp bytes_cmp b.yanks;
  cases = table_of b.cases;
  bans = table_of b.bans;
}

-- how many calls failed
abbrev pub failures_of : PlainBooks → ℕ
failures_of b = b.failures

-- the tables have become these, and no failure is counted
pub record Becomes (T : Tables) (old new : PlainBooks) : Type 0 where
  pub tables : plain_tables new ≡ T
  pub failures : failures_of new ≡ failures_of old

-- the tables have changed in this way, and no failure is counted
abbrev pub BecomesBy : (Tables → Tables) → PlainBooks → PlainBooks → Type 0
BecomesBy change old new = Becomes (change (plain_tables old)) old new

-- the change is made, and no failure is counted
abbrev pub BecomesAfter : Change → PlainBooks → PlainBooks → Type 0
BecomesAfter change = BecomesBy (means change)

-- the change is made, or, if memory ran out, no table has changed; the failure is not counted here
pub record Makes {E : Type 0} (change : Change) (old new : PlainBooks)
    (result : Result (Unit {0}) E) : Type 0 where
  pub written : OnOk result (plain_tables new ≡ means change (plain_tables old))
  pub unchanged : OnErr result (plain_tables new ≡ plain_tables old)
  pub failures : failures_of new ≡ failures_of old

-- the change is made, or, if memory ran out, no table has changed and the failure is counted
pub record PlainMakesOrCounts (change : Change) (old new : PlainBooks)
    (result : Result (Unit {0}) Fault) : Type 0 where
  pub written : OnOk result (plain_tables new ≡ means change (plain_tables old))
  pub unchanged : OnErr result (plain_tables new ≡ plain_tables old)
  pub failures : failures_of new ≡ next_count (failures_of old) (is_ok result)
  pub memory : IfErr result (λ error. error ≡ fault.OutOfMemory)

-- the facts of the trait on a look, for books that are always honest, of which a crash leaves
-- nothing, and which never return `Store`
abbrev pub PlainLooksUp : (old new : PlainBooks) (succeeds : Bool) → Type 0
PlainLooksUp old new succeeds =
    let plain = calls.model plain_tables (λ books. ⊤) (λ books. ⊤) (λ books T. ⊥)
    (calls.counts failures_of (λ books. 0)) in
    calls.LooksUp plain old new succeeds false

-- a look that finds this in the tables, and fails only if memory runs out
pub record LooksInMemory {A : Type 0} (old new : PlainBooks) (result : Result A Fault)
    (Found : Tables → Type 0) : Type 0 where
  pub found : Found (plain_tables old)
  pub look : PlainLooksUp old new (is_ok result)
  pub memory : IfErr result (λ error. error ≡ fault.OutOfMemory)

-- a walk over these rows, which no fault of a store ends
pub record Hands {K R : Type 0} (rows : List R) (taker : TakerStep K R)
    (result : Result (Unit {0}) WalkEnd) : Type 0 where
  pub walked : WalksTo taker rows result
  pub memory : IfErr result (λ end. end ≢ walk_end.Store)

-- a walk over the held names of these books
abbrev pub HandsNames : {K : Type 0} → PlainBooks → TakerStep K NameRow
    → Result (Unit {0}) WalkEnd → Type 0
HandsNames books = Hands (held_rows_in (plain_tables books))

-- a walk over the undeleted files of a name
abbrev pub HandsFiles : {K : Type 0} → PlainBooks → Bytes → TakerStep K FileRow
    → Result (Unit {0}) WalkEnd → Type 0
HandsFiles books name = Hands (file_rows_in (plain_tables books) name)

-- the books of a new index, in which no call has failed, or why there are none
pub record Opens (user token : Bytes) (result : Result PlainBooks OpenFault) : Type 0 where
  pub tables : IfOk result (λ books. plain_tables books ≡ first_tables user token)
  pub failures : IfOk result (λ books. failures_of books ≡ 0)
  pub bad_first_user : RefusesBadFirstUser user token result
  pub fault : FailsByEither result open_fault.BadFirstUser open_fault.OutOfMemory

-- the tables without the case of a name
abbrev pub without_case : Bytes → Tables → Tables
without_case name T = record T { cases = remove T.cases name }

-- the tables without the yanks and the case of a name
abbrev pub without_yanks_and_case : Bytes → Tables → Tables
without_yanks_and_case name T =
    record T { yanks = without_name name T.yanks; cases = remove T.cases name }

-- the tables without the owners, the yanks and the case of a name
abbrev pub without_all_but_record : Bytes → Tables → Tables
without_all_but_record name T = record T {
  owners = without_name name T.owners;
  yanks = without_name name T.yanks;
  cases = remove T.cases name;
}

-- whether a change is of a release: of its files, or of its yank
abbrev pub is_of_release : Change → Bool
is_of_release (Upload name project file known body ends_case) = true
is_of_release (Delete name project file known) = true
is_of_release (BanFile name project file known) = true
is_of_release (Yank name release reason) = true
is_of_release (Unyank name release) = true
is_of_release change = false

-- whether a change is of the state of a name
abbrev pub is_of_name : Change → Bool
is_of_name (SetQuota name project) = true
is_of_name (Claim name project owner) = true
is_of_name (Relinquish name) = true
is_of_name (Prohibit name) = true
is_of_name (Allow name) = true
is_of_name change = false

-- whether a change is of who owns a name
abbrev pub is_of_owner : Change → Bool
is_of_owner (AddOwner name user) = true
is_of_owner (RemoveOwner name user) = true
is_of_owner change = false

-- whether a change is of a case
abbrev pub is_of_case : Change → Bool
is_of_case (OpenCase name case) = true
is_of_case (RecordAttempt name case) = true
is_of_case (Transfer name candidate) = true
is_of_case (CloseCase name) = true
is_of_case (AnswerCase name) = true
is_of_case change = false
