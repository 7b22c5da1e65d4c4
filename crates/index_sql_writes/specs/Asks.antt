-- What a step asks of SQL, and how SQL answers.
use Rattle.std.specs.Prelude.{Err, List, MatchResult, None, Ok, Option, Result, [], false, length}
use Rattle.std.specs.Prelude.{ℕ, ◌<◌, ◌^◌, ◌∷◌, ◌≡◌, ◌≤◌, ◌⊎◌}
use Rattle.std.specs.List.{AllByRecursion}
use Rattle.sqlite_disk.specs.Disk.{MoreFaults}
use Rattle.sqlite_value.specs.Order.{Row, column}
use Rattle.sqlite_value.specs.declared.value.Value.TheVariants.{Text}
use Rattle.sqlite_trees.specs.declared.store.Store.{Ghosts}
use Rattle.sqlite_schema.specs.declared.schema.Keys.TheVariants.{Enforced}
use Rattle.sqlite_resolve.specs.declared.compiled.Compiled.{Compiled}
use Rattle.sqlite.specs.declared.error.Error.{Error}
use Rattle.sqlite.specs.declared.error.Error.TheVariants.{IntegralValueOutOfRange}
use Rattle.sqlite.specs.declared.run.Mode.{Mode}
use Rattle.sqlite.specs.Does.{Does}
use Rattle.sqlite.specs.Effect.{Database}
use Rattle.sqlite.specs.Held.{Held, state}
use Rattle.sqlite.specs.Listing.{understood}
use Rattle.sqlite.specs.Rows.{Part, Gives, Refuses, Then}
use Rattle.sqlite.specs.State.{State, HasCleanDisk, text_of}
use Rattle.index_sql_schema.specs.Faults.{fault_by}
use Rattle.index_rules.specs.declared.answer.Fault.TheVariants.{Store}
use Rattle.index_rules.specs.Maps.{Bytes}
use Rattle.index_sql_schema.specs.Records.{tables_in}
use Rattle.index_sql_schema.specs.RecordRows.{AreRecords, IsFileText}
use Rattle.index_sql_schema.specs.ShownRows.{file_shown}
use Rattle.index_sql_schema.specs.StatementTexts.{delete_body_text}
use Rattle.index_sql_writes.specs.Transaction.{IsInTransaction}
use Rattle.index_sql_writes.specs.Writes.{AreFilesOf}

-- ---- what SQL answers

-- foreign keys are tested at the end of each statement
abbrev pub each_statement : Mode
each_statement = record { keys = Enforced; in_doubt = false; may_wait = false }

-- SQL's answer to a statement with these parameters: what it makes of a database, or why it
-- refuses; the steps of its query are not limited
abbrev pub SqlAnswersStatement : List ℕ → Row → Database → Part Database
SqlAnswersStatement text params db out =
    (c : Compiled)
    × (understood db.schema text ≡ Ok c)
    × Then (Does None each_statement params db (text_of text c) c.returning c.command)
    (λ done. Gives done.1) out

-- one of the numbers is above the greatest that SQL holds
abbrev pub HasTooMuch : List ℕ → Type 0
HasTooMuch [] = ⊥
HasTooMuch (number ∷ more) = (2 ^ 63 ≤ number) ⊎ HasTooMuch more

-- the error for a number that SQL can't hold, if there is one
abbrev pub IsOutOfRange : Type 0 → Error → Type 0
IsOutOfRange Is error = (error ≡ IntegralValueOutOfRange 0) × Is

-- the row shows the name of a file, as a query of one column does
abbrev pub RowShowsFileName : Row → Type 0
RowShowsFileName r = (0 < length r) × IsFileText (column r 0)

-- the bytes of the files that these rows show are deleted, one file after the other
abbrev pub SqlDeletesBodies : List Row → Database → Part Database
SqlDeletesBodies [] db = Gives db
SqlDeletesBodies (r ∷ rows) db =
    Then (SqlAnswersStatement delete_body_text (Text (file_shown r) ∷ []) db)
    (SqlDeletesBodies rows)

-- ---- what a step asks

-- what a step asks of SQL
pub data Ask : Type 0 where
  -- a statement with its parameters
  Statement : List ℕ → Row → Ask
  -- a statement of a step with these numbers
  WithNumbers : List ℕ → Ask → Ask
  -- deletes the bytes of the files of a name, in any order
  BodiesOf : Bytes → Ask

-- the answer to what a step asks; a number that SQL can't hold is refused before SQL is asked
abbrev pub SqlAnswersAsk : Ask → Database → Part Database
SqlAnswersAsk (Statement text params) db out = SqlAnswersStatement text params db out
SqlAnswersAsk (WithNumbers numbers ask) db out =
    (HasTooMuch numbers × Refuses (IntegralValueOutOfRange 0) out) ⊎ SqlAnswersAsk ask db out
SqlAnswersAsk (BodiesOf name) db out =
    (rows : List Row) × AreFilesOf name (tables_in db.trees) rows × SqlDeletesBodies rows db out

-- the answer to several, one after the other, up to the first that is refused
abbrev pub SqlAnswersEachAsk : List Ask → Database → Part Database
SqlAnswersEachAsk [] db = Gives db
SqlAnswersEachAsk (ask ∷ asks) db = Then (SqlAnswersAsk ask db) (SqlAnswersEachAsk asks)

-- ---- the result of a step

-- a transaction is in progress on an index whose rows are records, and no query has a limit on its
-- steps
pub record CanAsk (s : State) : Type 0 where
  pub ready : IsInTransaction s
  pub records : AreRecords s.now
  pub unlimited : s.step_limit ≡ None

-- a state in which SQL can be asked, while each of these rows shows the name of a file
pub record CanAskFor (rows : List Row) (s : State) : Type 0 where
  pub can : CanAsk s
  pub shown : AllByRecursion RowShowsFileName rows

-- the rows show the files of a name
pub record AreFilesIn (s : State) (name : Bytes) (rows : List Row) : Type 0 where
  pub files : IsInTransaction s → AreFilesOf name (tables_in s.now.trees) rows
  pub shown : CanAsk s → AllByRecursion RowShowsFileName rows

-- the error is a fault of the store only if the disk had one, or SQL refuses
abbrev pub SqlFailsForReason : Part Database → State → State → Error → Type 0
SqlFailsForReason Answered old new e =
    fault_by e ≡ Store
    → MoreFaults old.faults new.faults ⊎ ((why : Option Error) × Answered (Err why))

-- on a clean disk, what begins in such a state has the result that SQL answers, and fails for no
-- other reason
abbrev pub GoesAs : {S A : Type 0} → Ghosts S
    → (State → Type 0)
    → (Database → Part Database)
    → Held S → Held S → Result A Error → Type 0
GoesAs g Begins Answered old new result =
    HasCleanDisk (state g new)
    → Begins (state g old)
    → MatchResult result
    (λ _. Answered (state g old).now (Ok (state g new).now))
    (SqlFailsForReason (Answered (state g old).now) (state g old) (state g new))

-- a step has the result that SQL answers to what it asks
abbrev pub GoesByAsk : {S A : Type 0} → Ghosts S → Ask → Held S → Held S → Result A Error → Type 0
GoesByAsk g ask = GoesAs g CanAsk (SqlAnswersAsk ask)
