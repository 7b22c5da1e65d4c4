-- Each kind of work: how it ends, what was done on the tables of an index, and what a crash may
-- leave of it.
use Rattle.std.specs.Prelude.{Err, IfErr, IfOk, IfSome, IsErrAnd, IsTrue, List, None, Ok, Option}
use Rattle.std.specs.Prelude.{Result, length, ℕ, ◌≡◌, ◌≤◌, ◌⊎◌}
use Rattle.std.specs.List.{AllByRecursion}
use Rattle.index_cli.specs.declared.end.LineEnd.{LineEnd}
use Rattle.index_cli.specs.declared.end.ServeEnd.{ServeEnd}
use Rattle.index_cli.specs.declared.end.ServeEnd.TheVariants as serve_end
use Rattle.index_cli.specs.Ends.{LinesEnd}
use Rattle.index_cli.specs.Connections.{AreOn, Exchange, KnownList, KnownReplies}
use Rattle.index_cli.specs.Connections.{unknown, unknown_replies}
use Rattle.index_cli.specs.LinesWent.{LinesWent}
use Rattle.index_cli.specs.Serving.{ExchangesAreAnswered}
use Rattle.index_cli.specs.Telling.{TextAnswersLines}
use Rattle.index_cli.specs.Went.{Went}
use Rattle.index_desk.specs.ByRules.{OfEach, StandsAfter}
use Rattle.index_desk.specs.Checks.{wrong_charges_in}
use Rattle.index_desk.specs.declared.desk.report.ReportFault.{ReportFault}
use Rattle.index_desk.specs.Reports.{Reports, report_in}
use Rattle.index_desk.specs.Rules.{Rules}
use Rattle.index_http.specs.Steps.{DeskStep}
use Rattle.index_rules.specs.Facts.{HasOneBearer}
use Rattle.index_rules.specs.Tables.{Tables}
use Rattle.index.specs.declared.cause.Cause.{Cause}
use Rattle.index.specs.declared.end.End.{End}
use Rattle.index.specs.declared.end.End.TheVariants as end
use Rattle.index.specs.Causes.{is_of_address}
use Rattle.index.specs.Ends.{end_of, end_of_reporting, end_of_serving, is_fault_end}

-- ---- what was done

-- what work does on an index
pub data Done : Type 0 where
  -- lines were answered by this text
  DoneLines : (lines : List (List ℕ)) → (text : List ℕ) → Done
  -- connections were answered, here newest first
  DoneExchanges : List Exchange → Done
  -- the tables were looked at
  DoneLook : Done

-- all of it was answered by rules, from one state to a later one
abbrev pub IsDone : {S : Type 0} → Rules S → Done → S → S → Type 0
IsDone rules (DoneLines lines text) s s' = TextAnswersLines rules s lines text s'
IsDone rules (DoneExchanges exchanges) s s' = ExchangesAreAnswered rules exchanges s s'
IsDone rules DoneLook s s' = s' ≡ s

-- All of it was answered by rules, or a part, up to a fault that shut the store. A crash may leave
-- only such tables: those that were reached, or these with one call more.
abbrev pub IsDoneInPart : {S : Type 0} → Rules S → Done → S → (Tables → Type 0) → Type 0
IsDoneInPart rules (DoneLines lines text) s MayLeave = LinesWent rules lines text s MayLeave
IsDoneInPart rules (DoneExchanges exchanges) s MayLeave = Went rules exchanges s MayLeave
IsDoneInPart rules DoneLook s MayLeave = (T : Tables) → MayLeave T → rules.Shows s T

-- all of it was done, by tables and each legal history of them, and led to these tables
abbrev pub WasDone : Tables → Tables → Done → Type 0
WasDone T T' done = OfEach T (λ S rules s. StandsAfter rules (IsDone rules done s) T')

-- all or a part of it was done, by tables and each legal history of them
abbrev pub WasDoneInPart : Tables → (Tables → Type 0) → Done → Type 0
WasDoneInPart T MayLeave done = OfEach T (λ S rules s. IsDoneInPart rules done s MayLeave)

-- ---- how each kind of work ends

-- the lines of an input were answered up to this end
pub record AnswersLines
    (given left had has : Option (List ℕ)) (T : Tables) (result : Result ℕ End) (done : Done)
    : Type 0 where
  pub ended : Result ℕ LineEnd
  pub is : result ≡ end_of ended
  pub told : LinesEnd (λ lines text U. done ≡ DoneLines lines text) T given left had has ended

-- the address can't be listened on, or could not be printed
abbrev pub IsNoListening : End → Type 0
IsNoListening told =
    ((cause : Cause) × IsTrue (is_of_address cause) × (told ≡ end.Listen cause))
    ⊎ (told ≡ end.WriteFault)

-- a serve ended as its connections did, or before the first
abbrev pub IsServingEnd : Result ℕ End → Type 0
IsServingEnd result =
    IsErrAnd result IsNoListening
    ⊎ ((ended : Result (Unit {0}) ServeEnd) × (result ≡ end_of_serving ended))

-- the number of connections: all; none if the address can't be listened on or printed; or fewer if
-- the work ended early
abbrev pub IsUpTo : ℕ → Result ℕ End → ℕ → Type 0
IsUpTo requests (Ok done) count = count ≡ requests
IsUpTo requests (Err (end.Listen cause)) count = count ≡ 0
IsUpTo requests (Err end.WriteFault) count = count ≡ 0
IsUpTo requests (Err early) count = count ≤ requests

-- connections were answered, one after the other, each at the given moment, or at some moment if
-- none is given
pub record AnswersConnections
    (Are : List Exchange → Type 0) (at : Option ℕ) (requests : ℕ) (result : Result ℕ End)
    (done : Done) : Type 0 where
  pub ends : IsServingEnd result
  -- it ends for want of a clock only if no moment is given
  pub clock : result ≡ Err (end.Connections serve_end.Clock) → at ≡ None
  pub exchanges : List Exchange
  pub are : Are exchanges
  pub is : done ≡ DoneExchanges exchanges
  pub counted : IsUpTo requests result (length exchanges)
  pub are_given : AllByRecursion (λ exchange. IfSome at (λ it. exchange.at ≡ it)) exchanges

-- the report or a first part of it was written
pub record WritesReport
    (had has : Option (List ℕ)) (T : Tables) (result : Result ℕ End) (done : Done) : Type 0 where
  pub ended : Result (Unit {0}) ReportFault
  pub is : result ≡ end_of_reporting ended
  pub reports : Reports (report_in T) had has ended
  pub looked : done ≡ DoneLook

-- the wrong charges were counted, unless something failed
pub record CountsWrong (T : Tables) (result : Result ℕ End) (done : Done) : Type 0 where
  pub count : IfOk result (λ count. count ≡ wrong_charges_in T)
  pub fault : IfErr result (λ e. IsTrue (is_fault_end e))
  pub looked : done ≡ DoneLook

-- the exchanges are the first of the connections to come, and their replies and faults are those
-- meanwhile, by what is known before and after
abbrev pub AreAmong : (coming coming' : KnownList) → (replies replies' : KnownReplies)
    → List Exchange → Type 0
AreAmong coming coming' replies replies' =
    AreOn (λ (known : KnownList × KnownReplies). known.0) (λ known. known.1)
    (coming, replies) (coming', replies')

-- ---- a task

-- a kind of work, and what it works on besides the tables
pub data Task : Type 0 where
  -- what a reader had and has left, and what a writer had and has
  AnswerLines : (given left had has : Option (List ℕ)) → Task
  -- the moment that is given for all connections, how many there are, and what is known of them
  AnswerConnections : (at : Option ℕ) → (requests : ℕ)
      → (coming coming' : KnownList) → (replies replies' : KnownReplies) → Task
  -- what a writer had and has
  WriteReport : (had has : Option (List ℕ)) → Task
  CountWrong : Task

-- connections over sockets, of which nothing is known
abbrev pub answer_sockets : Option ℕ → ℕ → Task
answer_sockets at requests =
    AnswerConnections at requests unknown unknown unknown_replies unknown_replies

-- how a task ended that did this on an index with these tables
abbrev pub TaskEnds : Task → Tables → Result ℕ End → Done → Type 0
TaskEnds (AnswerLines given left had has) T result done =
    AnswersLines given left had has T result done
TaskEnds (AnswerConnections at requests coming coming' replies replies') T result done =
    AnswersConnections (AreAmong coming coming' replies replies') at requests result done
TaskEnds (WriteReport had has) T result done = WritesReport had has T result done
TaskEnds CountWrong T result done = CountsWrong T result done

-- a task was done at a desk
pub record Works {S : Type 0} (desk : DeskStep S) (task : Task) (result : Result ℕ End)
    : Type 0 where
  pub done : Done
  -- also if a fault has shut the store
  pub ends : desk.books.IsHonest desk.old → desk.books.IsClean desk.new
      → TaskEnds task (desk.books.tables desk.old) result done
  -- if the store is honest at the end, all was done, and the tables are those after it
  pub answered : desk.books.IsHonest desk.new
      → WasDone (desk.books.tables desk.old) (desk.books.tables desk.new) done
  -- also if a fault has shut the store
  pub went : desk.books.IsHonest desk.old → desk.books.IsClean desk.new
      → WasDoneInPart (desk.books.tables desk.old) (desk.books.may_leave desk.new) done

-- what a task with this result did on an index with these tables, in which at most one user has
-- each token's digest
pub record Did (task : Task) (result : Result ℕ End) (T : Tables) (Is : Done → Type 0)
    : Type 0 where
  pub one_bearer : HasOneBearer T
  pub done : Done
  pub ends : TaskEnds task T result done
  pub is : Is done

-- a task did all, and led to these tables
abbrev pub Does : Task → Result ℕ End → Tables → Tables → Type 0
Does task result T T' = Did task result T (WasDone T T')

-- a task did all or a part, also if a fault has shut the store, and a crash may leave these tables
abbrev pub DoesInPart : Task → Result ℕ End → Tables → (Tables → Type 0) → Type 0
DoesInPart task result T MayLeave = Did task result T (WasDoneInPart T MayLeave)
