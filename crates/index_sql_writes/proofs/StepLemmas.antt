-- Statements inside a transaction.
use Rattle.index_sql_writes.proofs.Words.{◌≡◌, inl, inr, ℕ, List, Ok, Err, Result, refl, sym, subst, IsTrue, false, cases_Bool, Row, Ghosts}
use Rattle.index_sql_writes.proofs.Words.{Held, state, Error, State, Executes, ExecutesInside, KeepsCommit, Tables, IsIndex}
use Rattle.index_sql_writes.proofs.Words.{IsInTransaction, MakesInTransaction}
use Rattle.index_sql_schema.specs.Index.{Rewrites}

-- a statement inside a transaction commits nothing
pub inside_keeps : (sql : List ℕ) (params : Row) (old new : State) (r : Result ℕ Error) → ExecutesInside 0 sql params old new r
    → KeepsCommit old new
inside_keeps sql params old new (Ok count) h = record { was_open = λ _. h.1.was_open; committed = λ _. h.1.committed_is }
inside_keeps sql params old new (Err e) (inl (_, inl same)) =
    record { was_open = λ _. same.0.was_open; committed = λ _. same.0.committed_is }
inside_keeps sql params old new (Err e) (inl (_, inr back)) =
    record { was_open = back.was_open; committed = λ is_open. (back.undone is_open).1 }
inside_keeps sql params old new (Err e) (inr (_, _, same)) =
    record { was_open = λ _. same.0.was_open; committed = λ _. same.0.committed_is }

-- the same, even if no transaction is under way
pub keeps_by : {S : Type 0} (g : Ghosts S) (old new : Held S) (sql : List ℕ) (params : Row) (r : Result ℕ Error)
    → (old.in_transaction ≡ false → new ≡ old)
    → (IsTrue old.in_transaction → ExecutesInside 0 sql params (state g old) (state g new) r) → KeepsCommit (state g old) (state g new)
keeps_by g old new sql params r outside inside = elim (cases_Bool old.in_transaction) [
  | inl within ↦ inside_keeps sql params (state g old) (state g new) r (inside within)
  | inr without ↦ subst (λ n. KeepsCommit (state g old) (state g n)) (sym (outside without))
      (record { was_open = λ o. o; committed = λ _. refl })
]

-- a statement that changes an index so makes a step of it; `cells` are its parameters
pub makes : (sql : List ℕ) (cells : Row) (change : Tables → Tables) (rows : List Row
    → List Row) (params : Row) (old new : State) (count : ℕ)
    → (IsIndex old.now → Executes sql cells old new (Ok count) → Rewrites change rows old.now new.now)
    → IsInTransaction old → ExecutesInside 0 sql params old new (Ok count) → params ≡ cells → MakesInTransaction change rows old new
makes sql cells change rows params old new count changes ready ran given =
    let it = changes ready.index (subst (λ ps. Executes sql ps old new (Ok count)) given ran.0) in
    record {
      ready = record { is_open = ran.1.is_open; inside = ran.1.mode; index = it.index };
      tables = it.tables;
      committed = ran.1.committed_is;
      meta = it.meta;
      records = it.records;
    }
