-- What holds by the tables, and by each legal history for which they stand.
use Rattle.index_rules.specs.declared.books.Books.{Ghosts}
use Rattle.index_rules.specs.Facts.{HasOneBearer}
use Rattle.index_rules.specs.History.{History}
use Rattle.index_rules.specs.Legal.{IsLegal}
use Rattle.index_rules.specs.StandsFor.{StandsFor}
use Rattle.index_rules.specs.Tables.{Tables}
use Rattle.index_desk.specs.Rules.{Rules, by_history, by_tables}

-- a relation between a state and later tables, by rules over any state
abbrev pub Relation : Type 1
Relation = (S : Type 0) → Rules S → S → Tables → Type 0

-- the tables show a later state of this kind
pub record StandsAfter {S : Type 0} (rules : Rules S) (Is : S → Type 0) (T : Tables)
    : Type 0 where
  pub later : S
  pub is : Is later
  pub shows : rules.Shows later T

-- `Holds` of a state that the tables show: of them, if at most one user has each token's digest,
-- and of each legal history for which they stand
pub record OfEach (T : Tables) (Holds : (S : Type 0) → Rules S → S → Type 0) : Type 0 where
  pub tables : HasOneBearer T → Holds Tables by_tables T
  pub history : (h : History) → IsLegal h → StandsFor T h → Holds History by_history h

-- `Holds` of a state before and of the tables after, if the store is honest at the end
abbrev pub ByRules : {S : Type 0} → Ghosts S → S → S → Relation → Type 0
ByRules g old new Holds =
    g.IsHonest new → OfEach (g.tables old) (λ S rules s. Holds S rules s (g.tables new))

-- `Holds` of a state before and of the tables that a crash may leave, if the store was honest and
-- is clean at the end, even if a fault has shut it
abbrev pub CrashByRules : {S : Type 0} → Ghosts S → S → S → Relation → Type 0
CrashByRules g old new Holds = g.IsHonest old → g.IsClean new → (T : Tables) → g.may_leave new T
    → OfEach (g.tables old) (λ S rules s. Holds S rules s T)
