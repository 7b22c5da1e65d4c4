-- What a call of the books does besides what it finds or writes.
use Rattle.std.specs.Prelude.{◌≡◌, ◌⊎◌, ℕ, Bool, not, is_ok, Result, OnOk, OnErr, IsTrue}
use Rattle.index_io.specs.Counts.{next_count}
use Rattle.index_rules.specs.declared.answer.Fault.{Fault}
use Rattle.index_rules.specs.declared.change.Change.{Change}
use Rattle.index_rules.specs.declared.rows.WalkEnd.{WalkEnd}
use Rattle.index_rules.specs.Effect.{means}
use Rattle.index_rules.specs.Tables.{Tables}
use Rattle.index_rules.specs.StoreFaults.{CountsStoreFault, fails_by_store, ends_by_store}
use Rattle.index_rules.specs.Walks.{has_fault}

-- how many calls failed, and how many failed with `Store`
pub record FaultCounts (S : Type 0) : Type 0 where
  pub failures : S → ℕ
  pub stores : S → ℕ

abbrev pub counts : {S : Type 0} → (failures stores : S → ℕ) → FaultCounts S
counts failures stores = record { failures = failures; stores = stores }

-- the ghosts of `Books` as one value, for its own clauses; elsewhere that is `Ghosts`
pub record Model (S : Type 0) : Type 1 where
  pub tables : S → Tables
  pub IsHonest : S → Type 0
  pub IsClean : S → Type 0
  pub may_leave : S → Tables → Type 0
  pub faults : FaultCounts S

abbrev pub model : {S : Type 0} → (tables : S → Tables) → (IsHonest IsClean : S → Type 0)
    → (may_leave : S → Tables → Type 0) → FaultCounts S → Model S
model tables IsHonest IsClean may_leave faults = record {
  tables = tables;
  IsHonest = IsHonest;
  IsClean = IsClean;
  may_leave = may_leave;
  faults = faults;
}

-- what holds of every call of the books; a failure is counted exactly if the call fails, and as one
-- of the store exactly if it fails with `Store`
pub record Calls {S : Type 0} (books : Model S) (old new : S)
    (succeeds is_store_fault : Bool) : Type 0 where
  -- a store that is honest after a call was honest before it
  pub honest : books.IsHonest new → books.IsHonest old
  -- a store that is clean after a call was clean before it
  pub clean : books.IsClean new → books.IsClean old
  pub failures : books.faults.failures new ≡ next_count (books.faults.failures old) succeeds
  pub stores : CountsStoreFault (books.faults.stores old) (books.faults.stores new) is_store_fault

-- a look: a call that changes no table, after which a crash leaves what it could have left before
pub record LooksUp {S : Type 0} (books : Model S) (old new : S)
    (succeeds is_store_fault : Bool) : Type 0 where
  pub call : Calls books old new succeeds is_store_fault
  pub unchanged : books.IsHonest new → books.tables new ≡ books.tables old
  -- a look that succeeds leaves an honest store honest if the store is still clean
  pub lasts : IsTrue succeeds → books.IsHonest old → books.IsClean new → books.IsHonest new
  pub crash : (T : Tables) → books.may_leave new T → books.may_leave old T

-- a write of a change with this result; it fails if the result is an error
pub record Writes {S : Type 0} (books : Model S) (old new : S) (change : Change)
    (result : Result (Unit {0}) Fault) : Type 0 where
  -- after a write that succeeds, the tables of an honest store have the change
  pub written : books.IsHonest new
      → OnOk result (books.tables new ≡ means change (books.tables old))
  -- after one that fails they are as they were
  pub unchanged : books.IsHonest new → OnErr result (books.tables new ≡ books.tables old)
  -- a write that succeeds leaves the store honest, if it is still clean
  pub lasts : OnOk result (books.IsClean new → books.IsHonest new)
  -- a crash leaves what it could leave before; or the tables with the change, if the store was
  -- honest before the write
  pub crash : (T : Tables) → books.may_leave new T
      → books.may_leave old T ⊎ (books.IsHonest old × (T ≡ means change (books.tables old)))
  -- after a write that succeeds in an honest store it leaves the tables with the change alone
  pub alone : books.IsHonest old → OnOk result ((T : Tables) → books.may_leave new T
      → T ≡ means change (books.tables old))
  pub call : Calls books old new (is_ok result) (fails_by_store result)

-- a look with this result; it fails if the result is an error
abbrev pub Looks : {S A : Type 0} → Model S → S → S → Result A Fault → Type 0
Looks books old new result = LooksUp books old new (is_ok result) (fails_by_store result)

-- a walk with this result; it fails if a fault ended the walk
abbrev pub Scans : {S A : Type 0} → Model S → S → S → Result A WalkEnd → Type 0
Scans books old new result = LooksUp books old new (not (has_fault result)) (ends_by_store result)
