-- A desk that takes calls.
use Rattle.std.specs.Prelude.{◌≡◌, ◌≢◌, ◌⊎◌, Bool, true, false, List, Contains}
use Rattle.index_io.specs.Counts.{FailsAtMostOnce, HasFailed}
use Rattle.index_rules.specs.declared.answer.Answer.{Answer}
use Rattle.index_rules.specs.declared.answer.Answer.TheVariants.{Accepted, Already, Refused, Fault}
use Rattle.index_rules.specs.declared.answer.Fault.TheVariants.{Store}
use Rattle.index_rules.specs.declared.books.Books.{Ghosts}
use Rattle.index_rules.specs.declared.call.Call.{Call}
use Rattle.index_rules.specs.declared.change.Change.{Change}
use Rattle.index_rules.specs.Effect.{means}
use Rattle.index_rules.specs.Facts.{HasOneBearer}
use Rattle.index_rules.specs.History.{History}
use Rattle.index_rules.specs.Legal.{IsLegal}
use Rattle.index_rules.specs.Runs.{Answers, RunsOver, tables_after_change}
use Rattle.index_rules.specs.StandsFor.{StandsFor}
use Rattle.index_rules.specs.Tables.{Tables}
use Rattle.index_rules.specs.StoreFaults.{CountsStoreFault, answers_store_fault}
use Rattle.index_rules.specs.Verdict.{Accept, Verdict}
use Rattle.index_desk.specs.ByRules.{ByRules, CrashByRules, Relation, StandsAfter}
use Rattle.index_desk.specs.Crashes.{AnswerLeavesTables, CallsLeave, HasCall, Lasts, LastsAll}

-- ---- what `Holds` of the tables, and when

-- `Holds` of the tables before and after, if the store is honest at the end and at most one user
-- had each token's digest
abbrev pub ByTables : {S : Type 0} → Ghosts S → S → S → (Tables → Tables → Type 0) → Type 0
ByTables g old new Holds =
    g.IsHonest new → HasOneBearer (g.tables old) → Holds (g.tables old) (g.tables new)

-- `Holds` of each legal history of the tables before, and of the tables after
abbrev pub ByHistory : {S : Type 0} → Ghosts S → S → S → (History → Tables → Type 0) → Type 0
ByHistory g old new Holds =
    g.IsHonest new → (h : History) → IsLegal h → StandsFor (g.tables old) h → Holds h (g.tables new)

-- `Holds` of the tables before and of those that a crash may leave, if the store was honest and is
-- clean at the end, even if a fault has shut it
abbrev pub CrashByTables : {S : Type 0} → Ghosts S → S → S → (Tables → Tables → Type 0) → Type 0
CrashByTables g old new Holds = g.IsHonest old → g.IsClean new
    → HasOneBearer (g.tables old) → (T : Tables) → g.may_leave new T → Holds (g.tables old) T

-- `Holds` of each legal history of the tables before, and of the tables that a crash may leave
abbrev pub CrashByHistory : {S : Type 0} → Ghosts S → S → S → (History → Tables → Type 0) → Type 0
CrashByHistory g old new Holds = g.IsHonest old → g.IsClean new
    → (h : History) → IsLegal h → StandsFor (g.tables old) h
    → (T : Tables) → g.may_leave new T → Holds h T

-- ---- calls

-- the answer reports a fault
abbrev pub answers_fault : Answer → Bool
answers_fault Accepted = false
answers_fault Already = false
answers_fault (Refused refusal) = false
answers_fault (Fault fault) = true

-- what each answer says
pub record Settles {S : Type 0} (g : Ghosts S) (old new : S) (answer : Answer) : Type 0 where
  -- no table changed unless the call was accepted
  pub unchanged : g.IsHonest new → answer ≢ Accepted → g.tables new ≡ g.tables old
  -- If the store is still clean, it is honest after an accepted call. It stays honest after another
  -- answer, except a fault.
  pub lasts : g.IsClean new → Lasts answer (g.IsHonest old) (g.IsHonest new)
  -- if the store was not honest, a crash leaves nothing new
  pub nothing_new : (T : Tables) → g.may_leave new T → g.may_leave old T ⊎ g.IsHonest old
  -- `Store` is answered only if a call of the books failed
  pub store : answer ≡ Fault Store → HasFailed (g.failures old) (g.failures new)
  -- no call of the books failed unless a fault is answered
  pub kept : answers_fault answer ≡ false → g.failures new ≡ g.failures old
  -- a failed store is always answered as `Store`
  pub stores : CountsStoreFault (g.stores old) (g.stores new) (answers_store_fault answer)
  -- at most one call of the books failed
  pub failures : FailsAtMostOnce (g.failures old) (g.failures new)
  pub honest : g.IsHonest new → g.IsHonest old
  pub clean : g.IsClean new → g.IsClean old

-- a decision was settled, with this verdict, and with this change if the verdict is to accept
pub record SettlesBy {S : Type 0} (g : Ghosts S) (old new : S) (verdict : Verdict) (change : Change)
    (answer : Answer) : Type 0 where
  pub told : g.IsHonest new → Answers verdict answer
  pub next : g.IsHonest new → g.tables new ≡ tables_after_change (g.tables old) change answer
  pub crash : g.IsHonest old → (T : Tables) → g.may_leave new T
      → AnswerLeavesTables (g.may_leave old)
      (λ T'. (verdict ≡ Accept) × (T' ≡ means change (g.tables old))) answer T

-- by rules: the answer is the verdict or a fault, and the tables are those after the call
abbrev pub TakesCall : Call → Answer → Relation
TakesCall call answer S rules s T' =
    Answers (rules.verdict s call) answer × rules.Shows (rules.next s call answer) T'

-- by rules: each answer is the verdict at its point or a fault, and the tables are those after the
-- accepted calls, in order
abbrev pub TakesCalls : List Call → List Answer → Relation
TakesCalls calls answers S rules s =
    StandsAfter rules (RunsOver rules.verdict rules.next s calls answers)

-- a call was taken
pub record Takes {S : Type 0} (g : Ghosts S) (old new : S) (call : Call)
    (answer : Answer) : Type 0 where
  pub taken : ByRules g old new (TakesCall call answer)
  -- a crash leaves the tables that `AnswerLeavesTables` says, with the call or without it
  pub crash : CrashByRules g old new
      (λ S rules s. AnswerLeavesTables (g.may_leave old) (HasCall rules s call) answer)
  pub settles : Settles g old new answer

-- calls in a row were taken
pub record TakesInTurn {S : Type 0} (g : Ghosts S) (old new : S) (calls : List Call)
    (answers : List Answer) : Type 0 where
  pub runs : ByRules g old new (TakesCalls calls answers)
  -- a crash leaves the tables after the accepted calls, or after these and one call that was
  -- answered with a fault after the last of them
  pub crash : CrashByRules g old new (λ S rules s. CallsLeave rules s calls answers)
  -- if the store is still clean, and no fault was answered since the last accepted call, or since
  -- the first call of a store that was honest before, it is honest
  pub lasts : g.IsClean new → LastsAll answers (g.IsHonest old) (g.IsHonest new)
  -- and then a crash leaves the tables as they are
  pub alone : g.IsClean new
      → LastsAll answers (g.IsHonest old) ((T : Tables) → g.may_leave new T → T ≡ g.tables new)
  pub store : Contains answers (Fault Store) → HasFailed (g.failures old) (g.failures new)
  pub stores : (g.stores new ≡ g.stores old) ⊎ Contains answers (Fault Store)
