-- A connection or a transaction before a call and after it, on one store.
use Rattle.sqlite_trees.specs.declared.store.Store.{Ghosts}
use Rattle.sqlite.specs.declared.transaction.Transaction.{Transaction}
use Rattle.sqlite.specs.Held.{Held}

-- a value of type C that works on a store, before a call and after it
pub record StoreStep (S C : Type 0) : Type 1 where
  pub store : Ghosts S
  pub old : C
  pub new : C

-- a connection before a call and after it
abbrev pub ConnectionStep : Type 0 → Type 1
ConnectionStep S = StoreStep S (Held S)

-- a transaction, which has borrowed a connection, before a call and after it
abbrev pub TransactionStep : Type 0 → Type 1
TransactionStep S = StoreStep S (Transaction S)

abbrev pub on_store : {S C : Type 0} → Ghosts S → C → C → StoreStep S C
on_store store old new = record { store = store; old = old; new = new }
