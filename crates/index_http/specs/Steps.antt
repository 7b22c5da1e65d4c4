-- A call seen from outside: a desk and a sink, before and after.
use Rattle.std.specs.Prelude.{◌≡◌}
use Rattle.index_io.specs.declared.sink.Sink.{Ghosts as Outs}
use Rattle.index_rules.specs.declared.books.Books.{Ghosts}

-- a desk before a call and after it, and the facts about its books
pub record DeskStep (S : Type 0) : Type 1 where
  pub books : Ghosts S
  pub old : S
  pub new : S

-- a sink before a call and after it, and the facts about its writer
pub record SinkStep (K : Type 0) : Type 1 where
  pub out : Outs K
  pub old : K
  pub new : K

abbrev pub at_desk : {S : Type 0} → Ghosts S → S → S → DeskStep S
at_desk books old new = record { books = books; old = old; new = new }

abbrev pub to_sink : {K : Type 0} → Outs K → K → K → SinkStep K
to_sink out old new = record { out = out; old = old; new = new }

-- the desk's store is honest, and no call of its books failed meanwhile
abbrev pub StaysHonest : {S : Type 0} → DeskStep S → Type 0
StaysHonest desk = desk.books.IsHonest desk.new
    × (desk.books.failures desk.new ≡ desk.books.failures desk.old)
