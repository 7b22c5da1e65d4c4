-- What a step does inside a transaction.
use Rattle.std.specs.Prelude.{◌≡◌, false, true, IsTrue, List, OnOk, Result}
use Rattle.std.specs.Borrow.{MutBor}
use Rattle.sqlite_value.specs.Order.{Row}
use Rattle.sqlite_trees.specs.declared.store.Store.{Ghosts}
use Rattle.sqlite.specs.Held.{Held, state}
use Rattle.sqlite.specs.State.{State, HasCleanDisk, KeepsCommit, Survives}
use Rattle.index_rules.specs.Tables.{Tables}
use Rattle.index_sql_schema.specs.Records.{tables_in}
use Rattle.index_sql_schema.specs.RecordRows.{AreRecords}
use Rattle.index_sql_schema.specs.Index.{IsIndex, meta_in, same_meta}

-- a transaction on an index is in progress
pub record IsInTransaction (s : State) : Type 0 where
  pub is_open : IsTrue s.is_open
  pub inside : s.in_transaction ≡ true
  pub index : IsIndex s.now

-- the transaction sees this change of the tables, and this one of the rows of meta; nothing is
-- committed
pub record MakesInTransaction
    (change : Tables → Tables)
    (rows : List Row → List Row)
    (old new : State) : Type 0 where
  pub ready : IsInTransaction new
  pub tables : tables_in new.now.trees ≡ change (tables_in old.now.trees)
  pub committed : new.committed ≡ old.committed
  pub meta : meta_in new.now.trees ≡ rows (meta_in old.now.trees)
  -- the rows of the tables are records if they were
  pub records : AreRecords old.now → AreRecords new.now

-- a step that succeeds on a clean disk makes these changes in the transaction
abbrev pub RewritesIfOk : {S A E : Type 0} → Ghosts S
    → (Tables → Tables)
    → (List Row → List Row)
    → Held S → Held S → Result A E → Type 0
RewritesIfOk g change rows old new result =
    HasCleanDisk (state g new)
    → OnOk result
    (IsInTransaction (state g old) → MakesInTransaction change rows (state g old) (state g new))

-- a step that succeeds on a clean disk makes this change in the transaction, and leaves the rows of
-- meta
abbrev pub MakesIfOk : {S A E : Type 0} → Ghosts S
    → (Tables → Tables) → Held S → Held S → Result A E → Type 0
MakesIfOk g change = RewritesIfOk g change same_meta

-- on a clean disk, the last commit stays
abbrev pub KeepsCommitted : {S : Type 0} → Ghosts S → Held S → Held S → Type 0
KeepsCommitted g old new = HasCleanDisk (state g new) → KeepsCommit (state g old) (state g new)

-- a step that succeeds on a clean disk had an open connection
abbrev pub WasOpenIfOk : {S A E : Type 0} → Ghosts S → Held S → Held S → Result A E → Type 0
WasOpenIfOk g old new result =
    HasCleanDisk (state g new) → OnOk result (IsTrue (state g old).is_open)

-- what is done does not outlast a crash
abbrev pub IsInvisibleToCrash : {S : Type 0} → Ghosts S → Held S → Held S → Type 0
IsInvisibleToCrash g old new = Survives (state g old) (state g new) (λ _. ⊥)

-- on a connection that was shut, what is done does not outlast a crash
abbrev pub IsInvisibleIfShut : {S : Type 0} → Ghosts S → Held S → Held S → Type 0
IsInvisibleIfShut g old new = (state g old).is_open ≡ false → IsInvisibleToCrash g old new

-- what is done stays in the transaction: the connection is the same, the last commit stays, and
-- nothing done outlasts a crash
pub record IsUncommitted {S : Type 0} (g : Ghosts S) (old new : MutBor (Held S)) : Type 0 where
  pub same_reference : new.ghost_name ≡ old.ghost_name
  pub kept : KeepsCommitted g old.now new.now
  pub survives : IsInvisibleToCrash g old.now new.now
