-- Invariants of the tables, however calls end.
use Rattle.index_rules.specs.declared.books.Books.{Ghosts}
use Rattle.index_rules.specs.Facts.{HasOneBearer}
use Rattle.index_rules.specs.Sound.{IsSound}

-- if at most one user had each token's digest, that is still so; charges that added up still do;
-- and an honest or clean store was so before
pub record KeepsInvariants {S : Type 0} (g : Ghosts S) (old new : S) : Type 0 where
  pub one_bearer : g.IsHonest new → HasOneBearer (g.tables old) → HasOneBearer (g.tables new)
  pub sound : g.IsHonest new → IsSound (g.tables old) → IsSound (g.tables new)
  pub honest : g.IsHonest new → g.IsHonest old
  pub clean : g.IsClean new → g.IsClean old
