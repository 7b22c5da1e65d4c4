-- A source of connections, before a run and after it.
use Rattle.index_cli.specs.Connections.{KnownList, KnownReplies}

-- a source of connections before a call and after it, and the facts about both
pub record ConnectionsStep (C : Type 0) : Type 0 where
  pub coming : C → KnownList
  pub replies : C → KnownReplies
  pub old : C
  pub new : C

abbrev pub on_connections : {C : Type 0} → (C → KnownList) → (C → KnownReplies) → C → C
    → ConnectionsStep C
on_connections coming replies old new =
    record { coming = coming; replies = replies; old = old; new = new }
