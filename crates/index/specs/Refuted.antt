-- Wrong outcomes that the contracts exclude: a program that did nothing, or the wrong thing, could
-- not be proved.
use Rattle.std.specs.Prelude.{◌≡◌, ◌⊎◌, ℕ, suc, Bool, true, false, List, [], ◌∷◌, length}
use Rattle.std.specs.Prelude.{Option, Some}
use Rattle.std.specs.Prelude.{Result, Ok, Err, IsTrue, nat_le}
use Rattle.sqlite.specs.declared.file.Leftover.{Leftover}
use Rattle.sqlite.specs.declared.file.Leftover.TheVariants as leftover
use Rattle.sqlite.specs.declared.FileStore.{FileStore}
use Rattle.sqlite.specs.Files.{IsCleanLeft, faults_left, file_state, image_of}
use Rattle.sqlite.specs.Held.{Held}
use Rattle.sqlite.specs.Recovery.{Image}
use Rattle.sqlite.specs.Start.{FindsIn}
use Rattle.sqlite.specs.State.{HasCleanDisk}
use Rattle.sqlite.specs.WalFiles.{outcomes}
use Rattle.sqlite.specs.WalReads.{AreClean}
use Rattle.sqlite_disk.specs.declared.Disk.{Ghosts}
use Rattle.sqlite_disk.specs.declared.Files.{Files}
use Rattle.index_cli.specs.Connections.{Exchange, KnownList, KnownReplies}
use Rattle.index_cli.specs.Lines.{lines_of}
use Rattle.index_cli.specs.Serving.{ExchangeIsAnswered}
use Rattle.index_cli.specs.Went.{AcceptsNothing, MayHaveMade, Went}
use Rattle.index_desk.specs.Checks.{wrong_charges_in}
use Rattle.index_desk.specs.Rules.{Rules, by_history, by_tables}
use Rattle.index_rules.specs.History.{History}
use Rattle.index_rules.specs.Maps.{Bytes}
use Rattle.index_rules.specs.Tables.{Tables}
use Rattle.index.specs.declared.cause.Cause.{Cause}
use Rattle.index.specs.declared.cause.Cause.TheVariants as cause
use Rattle.index.specs.declared.end.End.{End}
use Rattle.index.specs.declared.end.End.TheVariants as end
use Rattle.index.specs.Causes.{log_with_a_page}
use Rattle.index.specs.Chains.{InitLeadsOn, WorkLeadsOn}
use Rattle.index.specs.Ends.{is_fault_end}
use Rattle.index.specs.Jobs.{ComesOfInit, ComesOfRun}
use Rattle.index.specs.Openings.{HoldsSome, OpeningEnds, cause_of_files}
use Rattle.index.specs.Keeping.{FindsNone}
use Rattle.index.specs.Runs.{Created, CreatedInLog, HoldsNone, InitEndsOnFiles, in_files}
use Rattle.index.specs.Runs.{Interrupted, Ran, RunEndsOnFiles}
use Rattle.index.specs.Tasks.{AnswersConnections, AnswersLines, AreAmong, CountWrong, CountsWrong}
use Rattle.index.specs.Tasks.{Does, DoesInPart, Done, IsServingEnd, Task, WriteReport}

-- ---- outcomes of files

-- the files hold no index
abbrev pub HoldsNoIndex : Image → Type 0
HoldsNoIndex = FindsNone in_files

-- the files hold no part of an index, and returned what was written
abbrev pub AreEmptied : {D : Type 0} → Ghosts D → Files D → Type 0
AreEmptied g files = AreClean g files.log files.db × HoldsNone (image_of g files)

-- Work that ended leaves an index. If there is none, no work ends or is interrupted.
pub record RefutesWork {D : Type 0} (g : Ghosts D) : Type 0 where
  pub ran : (task : Task) (told : Result ℕ End) (start : Image) (files : Files D)
      → HoldsNone (image_of g files) → ¬ Ran g (Does task told) start files
  pub interrupted : (task : Task) (told : Result ℕ End) (start : Image) (store : FileStore D g)
      → HoldsNoIndex start
      → ¬ Interrupted (DoesInPart task told) start store
  pub ends : (task : Task) (told : Result ℕ End) (start : Image) (files : Files D)
      → AreEmptied g files
      → ¬ RunEndsOnFiles g task start (Ok (record { closed = Ok files; end = told }))
  pub leads : (task : Task) (told : Result ℕ End) (start : Image) (files : Files D)
      → AreEmptied g files
      → ¬ WorkLeadsOn g task start (Ok (record { closed = Ok files; end = told }))
  -- on disks that return what was written
  pub comes : (task : Task) (start : Image) (count : ℕ) → ((log db : D) → AreClean g log db)
      → HoldsNoIndex start → ¬ ComesOfRun g task start (Ok count)

-- an init that ended leaves an index, and makes none if there is one
pub record RefutesInit {D : Type 0} (g : Ghosts D) : Type 0 where
  pub created : (T : Tables) (start : Image) (files : Files D)
      → HoldsNone (image_of g files) ⊎ (¬ HoldsNone start) → ¬ Created g T start files
  pub in_log : (T : Tables) (start : Image) (store : FileStore D g)
      → (¬ HoldsNone start) → ¬ CreatedInLog T start store
  pub ends : (user digits : Bytes) (page_sums : Bool) (start : Image) (files : Files D)
      → AreEmptied g files → ¬ InitEndsOnFiles g user digits page_sums start (Ok (Ok files))
  pub anew : (user digits : Bytes) (page_sums : Bool) (start : Image) (files : Files D)
      → AreClean g files.log files.db → (¬ HoldsNone start)
      → ¬ InitEndsOnFiles g user digits page_sums start (Ok (Ok files))
  pub leads : (user token : Bytes) (start : Image) (files : Files D)
      → AreEmptied g files → ¬ InitLeadsOn g user token start (Ok (Ok files))
  pub comes : (user digits : Bytes) (page_sums : Bool) (start : Image)
      → ((log db : D) → AreClean g log db)
      → (¬ HoldsNone start) → ¬ ComesOfInit g user digits page_sums start (Ok tt)
  -- the lengths of the files forbid it
  pub forbidden : (user digits : Bytes) (page_sums : Bool) (start : Image) (cause : Cause)
      → ((log db : D) → AreClean g log db) → cause_of_files page_sums start ≡ Some cause
      → ¬ ComesOfInit g user digits page_sums start (Ok tt)

-- no opening of two files ends in one of these wrong ways
pub record RefutesOpening {D : Type 0} (g : Ghosts D) : Type 0 where
  -- the connection is inside a transaction
  pub inside : (page_sums : Bool) (start : Image) (conn : Held (FileStore D g))
      → conn.in_transaction ≡ true → ¬ OpeningEnds {g = g} page_sums start (Ok conn)
  -- the connection has a database that the files do not hold
  pub found : (page_sums : Bool) (start : Image) (conn : Held (FileStore D g))
      → HasCleanDisk (file_state conn) → (¬ FindsIn start (file_state conn))
      → ¬ OpeningEnds {g = g} page_sums start (Ok conn)
  -- a log that may hold the last changes of an empty file was opened, and so emptied
  pub emptied : (page_sums : Bool) (start : Image) (conn : Held (FileStore D g))
      → HasCleanDisk (file_state conn) → length start.db ≡ 0
      → IsTrue (nat_le log_with_a_page (length start.log))
      → ¬ OpeningEnds {g = g} page_sums start (Ok conn)
  -- the files were not opened, for a reason that is no fault
  pub kind : (page_sums : Bool) (start : Image) (told : End) (left : Option (Leftover D g))
      → is_fault_end told ≡ false
      → ¬ OpeningEnds {g = g} page_sums start (Err (record { why = told; left = left }))
  -- the files were written, though they were not opened
  pub written : (page_sums : Bool) (start image : Image) (told : End) (files : Files D)
      → AreClean g files.log files.db → outcomes g files.log files.db image → (¬ (image ≡ start))
      → ¬ OpeningEnds {g = g} page_sums start
      (Err (record { why = told; left = Some (leftover.Files files) }))
  -- the files are said to hold no database, though they hold one and no call on them failed
  pub none : (start : Image) (left : Leftover D g) → IsCleanLeft left → HoldsSome start
      → faults_left left ≡ 0
      → ¬ OpeningEnds {g = g} false start
      (Err (record { why = end.Store (Some cause.NoDatabase); left = Some left }))

-- ---- outcomes of tasks

-- no connections went in one of these wrong ways, by rules, from a state to tables after a crash
pub record RefutesWent {S : Type 0} (rules : Rules S) (exchange : Exchange) (s : S) (T : Tables)
    : Type 0 where
  -- the tables are others, though nobody came
  pub made : (¬ rules.Shows s T) → ¬ Went rules [] s (λ left. left ≡ T)
  -- the reply is of no state that the rules make of this one: not that of another history either
  pub told : ((s' : S) → ¬ ExchangeIsAnswered rules exchange s s')
      → ¬ Went rules (exchange ∷ []) s (λ left. ⊥)
  -- an accepted call is lost, whether before a fault or after one
  pub lost : (¬ AcceptsNothing exchange)
      → ((s' : S) → ExchangeIsAnswered rules exchange s s' → ¬ rules.Shows s' T)
      → ¬ Went rules (exchange ∷ []) s (λ left. left ≡ T)
  -- the tables have another call, or one call more than the one that was answered by a fault
  pub twice : (¬ MayHaveMade rules (exchange ∷ []) s T) → (¬ rules.Shows s T)
      → ((s' : S) → ExchangeIsAnswered rules exchange s s' → ¬ rules.Shows s' T)
      → ¬ Went rules (exchange ∷ []) s (λ left. left ≡ T)

-- no task that only looks at the tables changes one, or leaves others after a crash
pub record RefutesLooked (task : Task) (told : Result ℕ End) (T T' : Tables) : Type 0 where
  pub changed : ¬ Does task told T T'
  pub left : ¬ DoesInPart task told T (λ left. left ≡ T')

-- the wrong outcomes of each kind of work
pub record RefutesTasks : Type 0 where
  -- some lines of the input were not counted
  pub lines : (given : List ℕ) (left had has : Option (List ℕ)) (T : Tables) (count : ℕ)
      (done : Done) → (¬ (count ≡ length (lines_of given)))
      → ¬ AnswersLines (Some given) left had has T (Ok count) done
  -- no connection came, but a serve of one or more succeeded
  pub connections : (at : Option ℕ) (requests found : ℕ) (later : KnownList)
      (replies replies' : KnownReplies) (done : Done)
      → ¬ AnswersConnections (AreAmong (Some []) later replies replies') at (suc requests)
      (Ok found) done
  -- a report and a check change no table, and the number of a check is that of the wrong charges
  pub report : (had has : Option (List ℕ)) (told : Result ℕ End) (T T' : Tables)
      → (¬ (T' ≡ T)) → RefutesLooked (WriteReport had has) told T T'
  pub check : (count : ℕ) (T : Tables) (done : Done)
      → (¬ (count ≡ wrong_charges_in T)) → ¬ CountsWrong T (Ok count) done
  pub changes : (told : Result ℕ End) (T T' : Tables)
      → (¬ (T' ≡ T)) → RefutesLooked CountWrong told T T'
  -- wrong replies, and wrong tables after a crash, by the tables and by a history
  pub tables : (exchange : Exchange) (T T' : Tables) → RefutesWent by_tables exchange T T'
  pub history : (exchange : Exchange) (h : History) (T' : Tables)
      → RefutesWent by_history exchange h T'
  -- no serve ends as only another kind of work does
  pub serve : ¬ IsServingEnd (Err end.OutOfMemory)
