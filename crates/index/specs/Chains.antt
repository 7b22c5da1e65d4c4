-- Runs of the program, each on the files that the one before left, and the one history that they
-- carry on, however an index is kept.
use Rattle.std.specs.Prelude.{◌≡◌, ◌⊎◌, ℕ, Bool, true, false, List, [], ◌∷◌, Result}
use Rattle.std.specs.Prelude.{IfErr, IfOk, IfSome}
use Rattle.sqlite.specs.declared.FileStore.{FileStore}
use Rattle.sqlite.specs.declared.file.Leftover.{Leftover}
use Rattle.sqlite.specs.declared.file.Leftover.TheVariants as leftover
use Rattle.sqlite.specs.Files.{IsCleanLeft, IsClosed, file_state, image_of, over_files}
use Rattle.sqlite.specs.Held.{Held}
use Rattle.sqlite.specs.Recovery.{Image}
use Rattle.sqlite.specs.State.{HasCleanDisk}
use Rattle.sqlite.specs.WalFiles.{outcomes}
use Rattle.sqlite.specs.WalReads.{AreClean}
use Rattle.sqlite_store.specs.FileStore as store
use Rattle.sqlite_trees.specs.View.{IsClean}
use Rattle.sqlite_disk.specs.declared.Disk.{Ghosts}
use Rattle.sqlite_disk.specs.declared.Files.{Files}
use Rattle.index_tables.specs.Reopened.{MayLeave}
use Rattle.index_cli.specs.LinesWent.{LinesMayHaveMade, LinesWent}
use Rattle.index_cli.specs.Went.{MayHaveMade, Went}
use Rattle.index_desk.specs.Rules.{Rules, by_history}
use Rattle.index_rules.specs.FirstTables.{first_tables}
use Rattle.index_rules.specs.History.{History, begins}
use Rattle.index_rules.specs.Legal.{IsLegal}
use Rattle.index_rules.specs.Maps.{Bytes}
use Rattle.index_rules.specs.StandsFor.{StandsFor}
use Rattle.index_rules.specs.Tables.{Tables}
use Rattle.index.specs.declared.database.Finished.{Finished}
use Rattle.index.specs.declared.database.Left.{Left}
use Rattle.index.specs.declared.database.Left.TheVariants as unused
use Rattle.index.specs.declared.database.Unclosed.{Unclosed}
use Rattle.index.specs.declared.database.Unused.{Unused}
use Rattle.index.specs.declared.end.End.{End}
use Rattle.index.specs.Keeping.{FindsNone, FindsOnly, Keeping}
use Rattle.index.specs.Openings.{OpensAgain}
use Rattle.index.specs.Runs.{in_files}
use Rattle.index.specs.Tasks.{Did, Done, DoneExchanges, DoneLines, DoneLook, IsDone, Task}
use Rattle.index.specs.Tasks.{WasDone, WasDoneInPart}

-- ---- one run, from the files that it finds to those that the next one finds

-- a run of the program
pub data Run : Type 0 where
  -- an init that made an index, with a user and the digest of a token, and closed its files
  CreatedRun : (user token : Bytes) → Run
  -- an init that was killed, or failed
  InitRun : (user token : Bytes) → Run
  -- a run that did a task on the index, with its result, and whether it closed its files. One that
  -- did not was killed, or a failed disk had shut them.
  WorkRun : (closed : Bool) → Task → Result ℕ End → Run
  -- a run that did nothing on the index
  UnusedRun : Run

-- Work on an index with these tables did this. If its files were closed, all was done, and the next
-- ones have its result. Else a part may have been, and any index in the next files is one that it
-- may leave.
abbrev pub WorkLeadsTo : {X : Type 0} → Keeping X → (closed : Bool) → X → Tables → Done → Type 0
WorkLeadsTo k true next before done =
    (after : Tables) × k.HoldsCurrent next after × WasDone before after done
WorkLeadsTo k false next before done =
    (¬ k.HoldsNone next) × WasDoneInPart before (λ found. ⊥) done
    × FindsOnly k next (λ found. WasDoneInPart before (λ T. T ≡ found) done)

-- a task was begun on the index in the files
pub record WorkRunLeadsOn {X : Type 0} (k : Keeping X) (closed : Bool) (task : Task)
    (result : Result ℕ End) (start next : X) : Type 0 where
  pub before : Tables
  pub held : k.Holds start before
  pub work : Did task result before (WorkLeadsTo k closed next before)

-- if the files held some part of an index, the next ones do
abbrev pub KeepsSome : {X : Type 0} → Keeping X → X → X → Type 0
KeepsSome k start next = (¬ k.HoldsNone start) → ¬ k.HoldsNone next

-- A run leads from the files that it found to the next ones. A successful init made its index in
-- files without one. After another run, any index in the next files was there before, or is the new
-- one, made in files without one.
abbrev pub LeadsOn : {X : Type 0} → Keeping X → Run → X → X → Type 0
LeadsOn k (CreatedRun user token) start next =
    k.HoldsNone start × k.HoldsCurrent next (first_tables user token)
LeadsOn k (InitRun user token) start next =
    KeepsSome k start next
    × FindsOnly k next (λ found.
    k.Holds start found ⊎ (k.HoldsNone start × (found ≡ first_tables user token)))
LeadsOn k (WorkRun closed task result) start next =
    WorkRunLeadsOn k closed task result start next
LeadsOn k UnusedRun start next = KeepsSome k start next × FindsOnly k next (k.Holds start)

-- runs lead one after the other from these files to the last ones
abbrev pub LeadTo : {X : Type 0} → Keeping X → List Run → X → X → Type 0
LeadTo k [] start last = last ≡ start
LeadTo {X} k (run ∷ runs) start last =
    (next : X) × LeadsOn k run start next × LeadTo k runs next last

-- ---- the next files after each run, from what it returns

-- The files were closed. The next ones hold what these hold now, or what a crash leaves of them.
abbrev pub ClosedLeadsOn : {D : Type 0} → Ghosts D → Run → Image → Files D → Type 0
ClosedLeadsOn g run start files =
    AreClean g files.log files.db → (next : Image)
    → (next ≡ image_of g files) ⊎ outcomes g files.log files.db next
    → LeadsOn in_files run start next

module _ {D : Type 0} {g : Ghosts D} where
  -- The files could not be closed. The next ones hold what a crash leaves of them before that.
  abbrev pub UnclosedLeadsOn : Run → Image → FileStore D g → Type 0
  UnclosedLeadsOn run start store =
      IsClean (over_files.view store)
      → (last : Held (FileStore D g)) × IsClosed last store
      × ((next : Image) → MayLeave last next → LeadsOn in_files run start next)

  -- A crash may leave this of two files that could not be opened as a database: of a refused store,
  -- if it can be opened again. If the log was repaired or a database was begun, `ShutLeaves` says
  -- what is left.
  abbrev pub MayStay : Leftover D g → Image → Type 0
  MayStay (leftover.Files now) next = outcomes g now.log now.db next
  MayStay (leftover.Unopened now) next = ⊥
  MayStay (leftover.Store now) next = OpensAgain now × (store.state now).may_leave next

  -- nothing was done on a connection: of the files that a crash leaves of it, this holds
  abbrev pub CrashLeavesFiles : Held (FileStore D g) → (Image → Type 0) → Type 0
  CrashLeavesFiles conn Next =
      HasCleanDisk (file_state conn) → (next : Image) → MayLeave conn next → Next next

  -- nothing was done on the files: of those that a crash leaves of them, this holds
  abbrev pub UnusedLeavesFiles : Left D g → (Image → Type 0) → Type 0
  UnusedLeavesFiles (unused.Shut left) Next =
      IsCleanLeft left → (next : Image) → MayStay left next → Next next
  UnusedLeavesFiles (unused.Refused left) Next = CrashLeavesFiles left.conn Next

  -- Nothing was done on the files. The next ones hold what a crash leaves of them.
  abbrev pub UnusedLeadsOn : Run → Image → Left D g → Type 0
  UnusedLeadsOn run start left = UnusedLeavesFiles left (LeadsOn in_files run start)

-- the next files after a run of work, by its task
pub record WorkLeadsOn {D : Type 0} (g : Ghosts D) (task : Task) (start : Image)
    (result : Result (Finished D g) (Unused D g)) : Type 0 where
  pub ended : IfOk result (λ run. IfOk run.closed
      (ClosedLeadsOn g (WorkRun true task run.end) start))
  pub cut : IfOk result (λ run. IfErr run.closed (λ it.
      UnclosedLeadsOn (WorkRun false task run.end) start it.store))
  pub unused : IfErr result (λ it. IfSome it.left (UnusedLeadsOn UnusedRun start))

-- the next files after an init, by its user and the digest of the token
pub record InitLeadsOn {D : Type 0} (g : Ghosts D) (user token : Bytes) (start : Image)
    (result : Result (Result (Files D) (Unclosed D g)) (Unused D g)) : Type 0 where
  pub made : IfOk result (λ closed. IfOk closed (ClosedLeadsOn g (CreatedRun user token) start))
  pub unclosed : IfOk result (λ closed. IfErr closed (λ it.
      UnclosedLeadsOn (InitRun user token) start it.store))
  pub unused : IfErr result (λ it. IfSome it.left (UnusedLeadsOn (InitRun user token) start))

-- ---- the history that the runs carry on

-- the rules over histories, but by which any tables show this history, and no other
abbrev pub leading_to : History → Rules History
leading_to h' = record by_history { Shows = λ h T. h ≡ h' }

-- What a run did carried a history on to this one, for which the tables that it left stand. If its
-- files were closed, all was done. Else a part may have been: then this is the history that it
-- reached, or that one with one call more.
abbrev pub Carries : (closed : Bool) → Done → History → History → Tables → Type 0
Carries true done h h' T = IsDone by_history done h h'
Carries false (DoneLines lines text) h h' T =
    (went : LinesWent by_history lines text h (λ left. left ≡ T))
    × ((went.reached ≡ h') ⊎ LinesMayHaveMade (leading_to h') went.later went.reached T)
Carries false (DoneExchanges exchanges) h h' T =
    (went : Went by_history exchanges h (λ left. left ≡ T))
    × ((went.reached ≡ h') ⊎ MayHaveMade (leading_to h') went.later went.reached T)
Carries false DoneLook h h' T = h' ≡ h

-- A run made this history of one for which `Was` holds, or left that as it was. The tables before
-- the run stand for the old one, and those after it for this one.
abbrev pub ComesByRun : {X : Type 0} (k : Keeping X) (run : Run) (start next : X)
    → LeadsOn k run start next → (History → Type 0) → History → Type 0
ComesByRun k (CreatedRun user token) start next it Was h' = h' ≡ begins user token
ComesByRun k (InitRun user token) start next it Was h' =
    Was h' ⊎ (k.HoldsNone start × (h' ≡ begins user token))
ComesByRun k (WorkRun closed task result) start next it Was h' =
    (h : History) × Was h × StandsFor it.before h
    × ((left : Tables) × k.Holds next left × StandsFor left h'
    × Carries closed it.work.done h h' left)
ComesByRun k UnusedRun start next it Was h' = Was h'

-- runs made this history one after the other, as in `ComesByRun`, and each history is legal
abbrev pub ComesByRuns : {X : Type 0} (k : Keeping X) (runs : List Run) (start last : X)
    → LeadTo k runs start last → (History → Type 0) → History → Type 0
ComesByRuns k [] start last leads Was h' = Was h'
ComesByRuns k (run ∷ runs) start last leads Was h' =
    ComesByRuns k runs leads.0 last leads.2
    (λ h. IsLegal h × ComesByRun k run start leads.0 leads.1 Was h) h'

-- the tables stand for a legal history that these runs made, without a history before them
pub record StandByRuns {X : Type 0} (k : Keeping X) (runs : List Run) (first last : X)
    (leads : LeadTo k runs first last) (T : Tables) : Type 0 where
  pub history : History
  pub legal : IsLegal history
  pub stands : StandsFor T history
  pub comes : ComesByRuns k runs first last leads (λ h. ⊥) history

-- the law of runs: if the first files hold no index, then after any runs the tables in the last
-- files stand for one history that the runs made
abbrev pub StandThrough : {X : Type 0} → Keeping X → List Run → X → X → Type 0
StandThrough k runs first last =
    FindsNone k first → (leads : LeadTo k runs first last)
    → FindsOnly k last (StandByRuns k runs first last leads)
