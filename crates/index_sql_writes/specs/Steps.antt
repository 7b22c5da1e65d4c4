-- What steps do in a transaction, and one statement of them.
use Rattle.std.specs.Prelude.{ℕ, IsTrue, List, OnOk, Ok, Err, MatchResult, Result}
use Rattle.sqlite_value.specs.Order.{Row}
use Rattle.sqlite.specs.declared.error.Error.{Error}
use Rattle.sqlite.specs.Effect.{Database}
use Rattle.sqlite.specs.Held.{state}
use Rattle.sqlite.specs.Rows.{Part}
use Rattle.sqlite.specs.State.{State, ExecutesInside, HasCleanDisk}
use Rattle.index_rules.specs.Tables.{Tables}
use Rattle.index_sql_schema.specs.Index.{same_meta}
use Rattle.index_sql_schema.specs.OnStore.{TransactionStep}
use Rattle.index_sql_writes.specs.Asks.{Ask, GoesAs, GoesByAsk}
use Rattle.index_sql_writes.specs.Changed.{deletion_by, put_by, step_by}
use Rattle.index_sql_writes.specs.StepAsks.{deletion_ask, put_ask, step_ask}
use Rattle.index_sql_writes.specs.declared.step.Deletion.{Deletion}
use Rattle.index_sql_writes.specs.declared.step.Put.{Put}
use Rattle.index_sql_writes.specs.declared.step.Step.{Step}
use Rattle.index_sql_writes.specs.Transaction.{IsInTransaction, IsUncommitted, MakesIfOk}
use Rattle.index_sql_writes.specs.Transaction.{MakesInTransaction, WasOpenIfOk}

-- a step that makes this change of the tables, and asks this of SQL
pub record StepMakesChange {S A : Type 0}
    (change : Tables → Tables)
    (ask : Ask)
    (tx : TransactionStep S)
    (result : Result A Error) : Type 0 where
  pub uncommitted : IsUncommitted tx.store tx.old.conn tx.new.conn
  pub made : MakesIfOk tx.store change tx.old.conn.now tx.new.conn.now result
  pub opened : WasOpenIfOk tx.store tx.old.conn.now tx.new.conn.now result
  pub asked : GoesByAsk tx.store ask tx.old.conn.now tx.new.conn.now result

-- a call runs this step
abbrev pub RunsStep :
    {S A : Type 0} → Step → TransactionStep S → Result A Error → Type 0
RunsStep step = StepMakesChange (step_by step) (step_ask step)

-- a step that puts this record
abbrev pub StepPuts :
    {S A : Type 0} → Put → TransactionStep S → Result A Error → Type 0
StepPuts put = StepMakesChange (put_by put) (put_ask put)

-- a step that makes this deletion
abbrev pub StepDeletes :
    {S A : Type 0} → Deletion → TransactionStep S → Result A Error → Type 0
StepDeletes deletion = StepMakesChange (deletion_by deletion) (deletion_ask deletion)

-- any number of steps: in a state in which they can, they make this of a transaction; in a state in
-- which SQL can be asked, they have the result that it answers
pub record ManyStepsMakeChange {S A : Type 0}
    (CanMake : State → Type 0)
    (MakesInTransaction : State → State → Type 0)
    (CanAsk : State → Type 0)
    (Answered : Database → Part Database)
    (tx : TransactionStep S)
    (result : Result A Error) : Type 0 where
  pub uncommitted : IsUncommitted tx.store tx.old.conn tx.new.conn
  pub made : HasCleanDisk (state tx.store tx.new.conn.now)
      → OnOk result
      (CanMake (state tx.store tx.old.conn.now)
      → MakesInTransaction (state tx.store tx.old.conn.now) (state tx.store tx.new.conn.now))
  pub asked : GoesAs tx.store CanAsk Answered tx.old.conn.now tx.new.conn.now result

-- any number of steps on an index, which make this change of its tables
abbrev pub ChangesIndex : {S A : Type 0} → (Tables → Tables)
    → (State → Type 0)
    → (Database → Part Database)
    → TransactionStep S → Result A Error → Type 0
ChangesIndex change = ManyStepsMakeChange IsInTransaction (MakesInTransaction change same_meta)

-- one statement with these parameters
pub record RunsStatement {S : Type 0}
    (sql : List ℕ)
    (params : Row)
    (tx : TransactionStep S)
    (result : Result (Unit {0}) Error) : Type 0 where
  pub uncommitted : IsUncommitted tx.store tx.old.conn tx.new.conn
  pub opened : WasOpenIfOk tx.store tx.old.conn.now tx.new.conn.now result
  pub ran : let old = state tx.store tx.old.conn.now in
      let new = state tx.store tx.new.conn.now in
      HasCleanDisk new
      → IsTrue old.in_transaction
      → MatchResult result
      (λ _. (count : ℕ) × ExecutesInside 0 sql params old new (Ok count))
      (λ e. ExecutesInside 0 sql params old new (Err e))
