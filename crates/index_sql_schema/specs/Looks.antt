-- What holds of a connection to an index, and what a look at it leaves.
use Rattle.std.specs.Prelude.{◌≡◌, Bool, false, IsTrue}
use Rattle.sqlite_trees.specs.declared.store.Store.{Ghosts}
use Rattle.sqlite.specs.Held.{Held, state}
use Rattle.sqlite.specs.State.{HasCleanDisk, Survives}
use Rattle.index_sql_schema.specs.Index.{IsIndex}

-- a connection in no transaction; on a clean disk, if it is open, its database is an index, all of
-- it committed
pub record IsIndexConnection {S : Type 0} (g : Ghosts S) (held : Held S) : Type 0 where
  pub outside : held.in_transaction ≡ false
  pub index : HasCleanDisk (state g held)
      → IsTrue (state g held).is_open
      → IsIndex (state g held).now
  pub committed : HasCleanDisk (state g held)
      → IsTrue (state g held).is_open
      → (state g held).now ≡ (state g held).committed

-- One look or several; `did` says that they succeeded. All facts but the first two are about a
-- clean disk.
pub record QueriesOnly {S : Type 0} (g : Ghosts S) (old new : Held S) (did : Bool) : Type 0 where
  pub outside : old.in_transaction ≡ false → new.in_transaction ≡ false
  pub was_clean : HasCleanDisk (state g new) → HasCleanDisk (state g old)
  -- the connection is open only if it was, and then its database is as it was
  pub was_open : HasCleanDisk (state g new)
      → IsTrue (state g new).is_open
      → IsTrue (state g old).is_open
  pub now_is : HasCleanDisk (state g new)
      → IsTrue (state g new).is_open
      → (state g new).now ≡ (state g old).now
  pub committed_is : HasCleanDisk (state g new)
      → IsTrue (state g new).is_open
      → (state g new).committed ≡ (state g old).committed
  -- a look that succeeds leaves an open connection open, and the database as it was, open or not
  pub lasts : IsTrue did
      → HasCleanDisk (state g new)
      → IsTrue (state g old).is_open
      → IsTrue (state g new).is_open
  pub same : IsTrue did → HasCleanDisk (state g new) → (state g new).now ≡ (state g old).now
  -- a crash leaves only what it could leave before, open or not
  pub survives : Survives (state g old) (state g new) (λ _. ⊥)
