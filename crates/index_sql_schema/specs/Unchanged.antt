-- What a look, or a refused statement, leaves.
use Rattle.std.specs.Prelude.{◌≡◌, IsTrue}
use Rattle.sqlite.specs.State.{State}

-- the connection is open only if it was, and then its database is as it was
pub record IsUnchangedIfOpen (old new : State) : Type 0 where
  pub was_open : IsTrue new.is_open → IsTrue old.is_open
  pub now_is : IsTrue new.is_open → new.now ≡ old.now
  pub committed_is : IsTrue new.is_open → new.committed ≡ old.committed
