-- Looks at the tables: what they find, and that they change nothing.
use Rattle.std.specs.Prelude.{◌≡◌, ◌≤◌, ◌⊎◌, ℕ, false, Result, Ok, IfErr, IfOk, OnOk}
use Rattle.index_io.specs.Counts.{FailsAtMostOnce, HasFailed, last_count}
use Rattle.index_rules.specs.declared.answer.Fault.{Fault}
use Rattle.index_rules.specs.declared.answer.Fault.TheVariants.{Store}
use Rattle.index_rules.specs.declared.books.Books.{Ghosts}
use Rattle.index_rules.specs.declared.rows.WalkEnd.{WalkEnd}
use Rattle.index_rules.specs.declared.rows.WalkEnd.TheVariants as end
use Rattle.index_rules.specs.History.{History}
use Rattle.index_rules.specs.StandsFor.{StandsFor}
use Rattle.index_rules.specs.Tables.{Tables}
use Rattle.index_rules.specs.StoreFaults.{CountsStoreFault, fails_by_store, ends_by_store}
use Rattle.index_rules.specs.Walks.{has_fault}
use Rattle.index_desk.specs.Rules.{Rules, by_history, by_tables}

-- a count has not fallen, or is at its last value
abbrev pub NeverFalls : ℕ → ℕ → Type 0
NeverFalls before now = (before ≤ now) ⊎ (last_count ≤ now)

-- No table changed, the store is honest or clean only if it was before, and a crash leaves what it
-- could have left before. The count of failed stores has not fallen.
pub record LeavesTables {S : Type 0} (g : Ghosts S) (old new : S) : Type 0 where
  pub unchanged : g.IsHonest new → g.tables new ≡ g.tables old
  pub honest : g.IsHonest new → g.IsHonest old
  pub clean : g.IsClean new → g.IsClean old
  pub crash : (T : Tables) → g.may_leave new T → g.may_leave old T
  pub counted : NeverFalls (g.stores old) (g.stores new)

-- a look at the tables
pub record ReadsTables {S X : Type 0} (g : Ghosts S) (old new : S)
    (result : Result X Fault) : Type 0 where
  -- no table changes
  pub unchanged : g.IsHonest new → g.tables new ≡ g.tables old
  -- a look that succeeds had no failed call
  pub kept : OnOk result (g.failures new ≡ g.failures old)
  -- `Store` is returned only if a call failed
  pub store : IfErr result (λ fault. fault ≡ Store → HasFailed (g.failures old) (g.failures new))
  -- a failed store is always returned as `Store`
  pub stores : CountsStoreFault (g.stores old) (g.stores new) (fails_by_store result)
  -- at most one call failed
  pub once : FailsAtMostOnce (g.failures old) (g.failures new)
  pub honest : g.IsHonest new → g.IsHonest old
  pub clean : g.IsClean new → g.IsClean old
  -- a look that succeeds leaves an honest store honest, if its disk stays clean
  pub lasts : OnOk result (g.IsHonest old → g.IsClean new → g.IsHonest new)
  -- a crash leaves only what it could have left before
  pub crash : (T : Tables) → g.may_leave new T → g.may_leave old T

-- a look that succeeds, and finds nothing
abbrev pub LookFindsNothing : {S : Type 0} → Ghosts S → S → S → Type 0
LookFindsNothing g old new = ReadsTables {X = Unit {0}} g old new (Ok tt)

-- A walk over rows, as in `ReadsTables`. A taker that stops it is not a fault.
pub record WalksTables {S X : Type 0} (g : Ghosts S) (old new : S)
    (result : Result X WalkEnd) : Type 0 where
  pub unchanged : g.IsHonest new → g.tables new ≡ g.tables old
  pub kept : has_fault result ≡ false → g.failures new ≡ g.failures old
  pub store : IfErr result
      (λ fault. fault ≡ end.Store → HasFailed (g.failures old) (g.failures new))
  pub stores : CountsStoreFault (g.stores old) (g.stores new) (ends_by_store result)
  pub once : FailsAtMostOnce (g.failures old) (g.failures new)
  pub honest : g.IsHonest new → g.IsHonest old
  pub clean : g.IsClean new → g.IsClean old
  pub lasts : has_fault result ≡ false → g.IsHonest old → g.IsClean new → g.IsHonest new
  pub crash : (T : Tables) → g.may_leave new T → g.may_leave old T

-- ---- what a look finds

-- a look that succeeds finds what `Holds` says of the tables
pub record LooksAt {S X : Type 0} (g : Ghosts S) (old new : S) (result : Result X Fault)
    (Holds : Tables → X → Type 0) : Type 0 where
  pub found : g.IsHonest new → IfOk result (Holds (g.tables old))
  pub look : ReadsTables g old new result

-- what is found, by rules over any state
abbrev pub Finding : Type 0 → Type 1
Finding X = (S : Type 0) → Rules S → S → X → Type 0

-- a look that succeeds finds what `Holds` says by the tables, and by each history for which they
-- stand
pub record LooksBy {S X : Type 0} (g : Ghosts S) (old new : S) (result : Result X Fault)
    (Holds : Finding X) : Type 0 where
  pub found : g.IsHonest new → IfOk result (Holds Tables by_tables (g.tables old))
  pub history : g.IsHonest new → IfOk result
      (λ found. (h : History) → StandsFor (g.tables old) h → Holds History by_history h found)
  pub look : ReadsTables g old new result

-- rows of a kind are handed over
abbrev pub HandsThose : {Rows : Type 0} → (Rows → Type 0) → (Rows → Type 0) → Type 0
HandsThose {Rows} Are Hands = (rows : Rows) × Are rows × Hands rows

-- A walk that hands over the rows that `Are` says by the tables, and by each history for which they
-- stand. Even if the store is not honest, the taker gets some rows in this way.
pub record HandsOver {S X Rows : Type 0} (g : Ghosts S) (old new : S) (result : Result X WalkEnd)
    (Are : Finding Rows) (Hands : Rows → Type 0) : Type 0 where
  pub walked : g.IsHonest old → g.IsClean new
      → HandsThose (Are Tables by_tables (g.tables old)) Hands
  pub history : g.IsHonest old → g.IsClean new → (h : History) → StandsFor (g.tables old) h
      → HandsThose (Are History by_history h) Hands
  pub given : (rows : Rows) × Hands rows
  pub look : WalksTables g old new result
