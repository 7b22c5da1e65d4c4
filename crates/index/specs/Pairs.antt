-- A run over a database of version 3 and its volume: what is known of its calls, of a crash in
-- them, and of what the next run finds.
use Rattle.std.specs.Prelude.{◌≡◌, ◌⊎◌, Bool, ℕ, List, Option, Some, None, Result, Ok, Err}
use Rattle.std.specs.Prelude.{IfErr, IfOk, IfSome, IsErrAnd, IsTrue, false, true}
use Rattle.std.specs.declared.process.ExitCode.{ExitCode}
use Rattle.sqlite.specs.Closing.{IsCopied}
use Rattle.sqlite.specs.declared.FileStore.{FileStore}
use Rattle.sqlite.specs.Files.{IsClosed, file_state, over_files}
use Rattle.sqlite.specs.Held.{Held, state}
use Rattle.sqlite.specs.Recovery.{Image}
use Rattle.sqlite.specs.State.{HasCleanDisk}
use Rattle.sqlite.specs.WalReads.{AreClean}
use Rattle.sqlite_trees.specs.View.{IsClean}
use Rattle.sqlite_trees.specs.declared.store.Store as store
use Rattle.sqlite_disk.specs.declared.Disk.{Ghosts}
use Rattle.sqlite_disk.specs.declared.Files.{Files}
use Rattle.index_args.specs.declared.job.ArgsEnd.{ArgsEnd}
use Rattle.index_args.specs.declared.job.Job.{Job}
use Rattle.index_http.specs.Steps.{SinkStep}
use Rattle.index_rules.specs.declared.open.OpenFault.TheVariants as open_fault
use Rattle.index_rules.specs.Maps.{Bytes}
use Rattle.index_rules.specs.Tables.{Tables}
use Rattle.index_sql_reads.specs.ConnectionTables.{tables_of}
use Rattle.index_tables.specs.declared.opening.Unopened.{Unopened}
use Rattle.index_tables.specs.Adopted.{IsOurs}
use Rattle.index_tables.specs.BooksState.{BooksState, IsHonest, IsWorking, Leaves}
use Rattle.index_tables.specs.Placed.{TakesPlaced}
use Rattle.index_volume_books.specs.Over.{Fits}
use Rattle.index_volume_books.specs.Taken.{AreTaken}
use Rattle.index_volume_books.specs.Through.{BothClean, BothHonest, Side, both_tables, left_of}
use Rattle.index_volume.specs.Volume.{Keeps}
use Rattle.index.specs.declared.database.Left.{Left}
use Rattle.index.specs.declared.database.Left.TheVariants as unused
use Rattle.index.specs.declared.database.Unclosed.{Unclosed}
use Rattle.index.specs.declared.failed_opening.FailedOpening.{FailedOpening}
use Rattle.index.specs.declared.pair.WithoutVolume.{WithoutVolume}
use Rattle.index.specs.declared.end.End.{End}
use Rattle.index.specs.declared.end.End.TheVariants as end
use Rattle.index.specs.Chains.{CrashLeavesFiles, LeadsOn, UnusedLeavesFiles, UnusedRun}
use Rattle.index.specs.Chains.{WorkRun}
use Rattle.index.specs.Ends.{closing_of, end_by, is_fault_end, is_store}
use Rattle.index.specs.InVolume.{AllClean, HasDatabaseOf, IsLeftPair, IsNextPair, IsNextVolume}
use Rattle.index.specs.InVolume.{Pair, in_volume, pair_of}
use Rattle.index.specs.NewPairs.{ComesOfPlacedInit}
use Rattle.index.specs.Jobs.{ComesOfInit, ComesOfRun, Coming, JobEnds, JobEndsBy, ProgramEndsBy}
use Rattle.index.specs.Openings.{IsOpenedOn, IsToldOf, IsUnfound, IsUnmade, IsWhyUnfound}
use Rattle.index.specs.Openings.{IsWhyUnused, OpeningEnds, OpensAgain, UnusedLeaves}
use Rattle.index.specs.SecondLines.{volume_of_job}
use Rattle.index.specs.Tasks.{Done, Task, TaskEnds, WasDone, WasDoneInPart}

-- ---- the connection and the volume

-- the tables of version 3 on a connection, and the file of a volume, as the clauses see them
abbrev pub placed_side : {S E : Type 0} → store.Ghosts S → Ghosts E → Held S → E → Side
placed_side g e conn disk = record {
  tables = tables_of g conn;
  IsHonest = IsHonest 3 (state g conn);
  IsClean = HasCleanDisk (state g conn);
  books_leave = Leaves 3 (state g conn);
  volume = e.seen disk;
  is_clean = e.is_clean disk;
  volume_leaves = e.may_leave disk;
}

-- Work was done at a desk over these tables, with the bytes of the volume for their places: the
-- clauses of each kind of work, as over any books.
pub record WorksOver (task : Task) (result : Result ℕ End) (old new : Side) : Type 0 where
  pub done : Done
  pub ends : BothHonest old → BothClean new → TaskEnds task (both_tables old) result done
  pub answered : BothHonest new → WasDone (both_tables old) (both_tables new) done
  pub went : BothHonest old → BothClean new → WasDoneInPart (both_tables old) (left_of new) done
  pub honest : BothHonest new → BothHonest old
  pub clean : BothClean new → BothClean old

-- All places lie below some end, and a crash leaves what lies below it: so whatever images a crash
-- leaves of the two, each place has its bytes.
pub record AreKept {S E : Type 0} (g : store.Ghosts S) (e : Ghosts E) (conn : Held S) (disk : E)
    : Type 0 where
  pub end_at : ℕ
  pub placed : IsHonest 3 (state g conn) → Fits end_at (tables_of g conn)
  pub kept : IsTrue (e.is_clean disk) → Keeps end_at (e.seen disk) (e.may_leave disk)

-- ---- how a run ends

-- the result of work on an index whose database was closed: if the store failed, the cause may be
-- that of the volume
abbrev pub IsToldOver : Result ℕ End → Result ℕ End → Type 0
IsToldOver (Ok count) result = result ≡ Ok count
IsToldOver (Err early) result =
    (is_store early ≡ false → result ≡ Err early)
    × (is_store early ≡ true → IsErrAnd result (λ told. IsTrue (is_store told)))

-- No work was done on the tables on a connection, since their volume could not be opened, or not be
-- taken together with them. `WasThere` says what the volume had.
pub record IsWithoutVolume {D E : Type 0} {g : Ghosts D} (e : Ghosts E)
    (books : Held (FileStore D g)) (WasThere : List ℕ → Type 0) (left : WithoutVolume D E g)
    : Type 0 where
  pub fault : IsTrue (is_fault_end left.why)
  -- a crash leaves no tables that it could not leave before
  pub leaves : (T : Tables) → Leaves 3 (file_state left.conn) T → Leaves 3 (file_state books) T
  pub again : HasCleanDisk (file_state left.conn) → OpensAgain left.conn.store
  -- if the volume was opened, the next run finds what it had
  pub volume : IfSome left.disk (λ disk. (next : List ℕ) → IsNextVolume e disk next
      → WasThere next)

-- work was done over tables on a connection and a volume, and the files of the database were closed
pub record RanOver {D E : Type 0} {g : Ghosts D} (e : Ghosts E) (task : Task)
    (first : Held (FileStore D g)) (first_disk : E) (result : Result ℕ End) : Type 0 where
  -- the connection and the volume after the work, and its result
  pub last : Held (FileStore D g)
  pub last_disk : E
  pub early : Result ℕ End
  pub worked : WorksOver task early (placed_side over_files e first first_disk)
      (placed_side over_files e last last_disk)
  pub left : AreKept over_files e last last_disk
  pub closed : Result (Files D) (Unclosed D g)
  pub copied : IfOk closed (λ it. AreClean g it.log it.db → IsCopied last it)
  pub kept : IfErr closed (λ it. IsClosed last it.store)
  -- a connection that works is to an index, all of which is committed
  pub honest : IsWorking (file_state last) → IsHonest 3 (file_state last)
  pub again : HasCleanDisk (file_state last) → OpensAgain last.store
  pub told : IsToldOver (end_by early (closing_of closed)) result

-- the tables on a connection and a volume were taken together, and work was done over both
pub record TookAndRan {D E : Type 0} {g : Ghosts D} (e : Ghosts E) (task : Task)
    (books : Held (FileStore D g)) (disk : E) (result : Result ℕ End) : Type 0 where
  pub first : Held (FileStore D g)
  pub first_disk : E
  pub taken : AreTaken (placed_side over_files e books disk)
      (placed_side over_files e first first_disk)
  pub ran : RanOver e task first first_disk result

-- the result of work over a volume, or why there was none
abbrev pub result_over : {D E : Type 0} {g : Ghosts D}
    → Result (Result ℕ End) (WithoutVolume D E g) → Result ℕ End
result_over (Ok result) = result
result_over (Err left) = Err left.why

-- how work ends over tables on a connection and the opened file of a volume
abbrev pub EndsOverDisk : {D E : Type 0} {g : Ghosts D} → Ghosts E → Task → Held (FileStore D g)
    → E → Result (Result ℕ End) (WithoutVolume D E g) → Type 0
EndsOverDisk e task books disk (Ok result) = TookAndRan e task books disk result
EndsOverDisk e task books disk (Err left) =
    IsWithoutVolume e books (IsNextVolume e disk) left

-- how work ends over the tables of version 3 on a connection, with a volume that held this
abbrev pub EndsOver : {D E : Type 0} {g : Ghosts D} → Ghosts E → Task → Held (FileStore D g)
    → List ℕ → Result (Result ℕ End) (WithoutVolume D E g) → Type 0
EndsOver {E = E} e task books volume (Ok result) =
    (disk : E) × (e.seen disk ≡ volume) × TookAndRan e task books disk result
EndsOver e task books volume (Err left) = IsWithoutVolume e books (λ next. next ≡ volume) left

-- how a run over these tables ends, with a volume that held this
pub record RunEndsOver {D E : Type 0} {g : Ghosts D} (e : Ghosts E) (task : Task)
    (books : Held (FileStore D g)) (volume : List ℕ) (result : Result ℕ End) : Type 0 where
  pub worked : Result (Result ℕ End) (WithoutVolume D E g)
  pub ends : EndsOver e task books volume worked
  pub told : result ≡ result_over worked

-- Work on an index leads to the next run: with its result if the files were closed, else with what
-- it may leave when it is cut short.
pub record RanLeadsOn {D E : Type 0} {g : Ghosts D} (e : Ghosts E) (task : Task) (start : Pair)
    {first : Held (FileStore D g)} {first_disk : E} {result : Result ℕ End}
    (ran : RanOver e task first first_disk result) : Type 0 where
  pub ended : IfOk ran.closed (λ files. AllClean g e files ran.last_disk
      → (next : Pair) → IsNextPair g e files ran.last_disk next
      → LeadsOn in_volume (WorkRun true task ran.early) start next)
  pub cut : IfErr ran.closed (λ it. IsClean (over_files.view it.store)
      → IsTrue (e.is_clean ran.last_disk)
      → (next : Pair) → IsLeftPair e ran.last ran.last_disk next
      → LeadsOn in_volume (WorkRun false task ran.early) start next)

-- Nothing was done on a connection. The next run finds what a crash leaves of it, beside the volume
-- as it was.
abbrev pub StaysBeside : {D : Type 0} {g : Ghosts D} → Pair → Held (FileStore D g) → Type 0
StaysBeside start conn =
    CrashLeavesFiles conn (λ next. LeadsOn in_volume UnusedRun start (pair_of next start.volume))

-- Nothing was done on two files. The next run finds what a crash leaves of them, beside the volume
-- as it was.
abbrev pub UnusedStaysBeside : {D : Type 0} {g : Ghosts D} → Pair → Left D g → Type 0
UnusedStaysBeside start left =
    UnusedLeavesFiles left (λ next. LeadsOn in_volume UnusedRun start (pair_of next start.volume))

-- The next run finds what work left, or what was there if none was done.
abbrev pub LeavesToNext : {D E : Type 0} {g : Ghosts D} (e : Ghosts E) (task : Task) (start : Pair)
    (books : Held (FileStore D g)) (worked : Result (Result ℕ End) (WithoutVolume D E g))
    → EndsOver e task books start.volume worked → Type 0
LeavesToNext e task start books (Ok result) it = RanLeadsOn e task start it.2.ran
LeavesToNext e task start books (Err left) it = StaysBeside start left.conn

-- The same if an index of version 3 was found on a connection. Else the next run finds what was
-- there, if no other was found before.
abbrev pub FoundLeavesToNext : {D E : Type 0} {g : Ghosts D} (e : Ghosts E) (task : Task)
    (start : Pair) (conn : Held (FileStore D g)) (result : Result ℕ End)
    (adopted : Result (BooksState (FileStore D g)) (Unopened (FileStore D g)))
    → IfOk adopted (λ books. RunEndsOver e task books.conn start.volume result) → Type 0
FoundLeavesToNext e task start conn result (Ok books) ended =
    LeavesToNext e task start books.conn ended.worked ended.ends
FoundLeavesToNext e task start conn result (Err refused) ended =
    IsUnfound start.image (file_state conn) → StaysBeside start refused.conn

-- how a run ends on a connection on which an index of version 3 is looked for
pub record EndsOnPlaced {D E : Type 0} {g : Ghosts D} (e : Ghosts E) (task : Task)
    (conn : Held (FileStore D g)) (volume : List ℕ) (result : Result ℕ End) : Type 0 where
  pub adopted : Result (BooksState (FileStore D g)) (Unopened (FileStore D g))
  pub takes : TakesPlaced over_files conn adopted
  pub ended : IfOk adopted (λ books. RunEndsOver e task books.conn volume result)
  pub refused : IfErr adopted (λ it.
      IsErrAnd result (IsToldOf (end.Open it.why) (Some (unused.Refused it))))
  -- of whatever files this is the database
  pub leads : (image : Image) → HasDatabaseOf image conn
      → FoundLeavesToNext e task (pair_of image volume) conn result adopted ended

-- The database was refused as one of another version than 1 and 2, and an index of version 3 was
-- looked for in it.
pub record ComesOfOther {D E : Type 0} (g : Ghosts D) (e : Ghosts E) (task : Task) (start : Image)
    (volume : List ℕ) (result : Result ℕ End) : Type 0 where
  pub left : Unopened (FileStore D g)
  pub other : left.why ≡ open_fault.OtherVersion
  -- what a crash leaves of it: it is as it was
  pub refused : UnusedLeaves IsUnfound start (unused.Refused left)
  pub why : IsWhyUnused false (IsWhyUnfound over_files) start (end.Open left.why)
      (Some (unused.Refused left))
  pub found : HasDatabaseOf start left.conn
  pub ended : EndsOnPlaced e task left.conn volume result

-- A volume is given: an index of version 3 was looked for.
pub record ComesOfGiven {D E : Type 0} (g : Ghosts D) (e : Ghosts E) (task : Task) (start : Image)
    (volume : List ℕ) (result : Result ℕ End) : Type 0 where
  pub opened : Result (Held (FileStore D g)) (FailedOpening D g)
  pub ends : OpeningEnds false start opened
  pub found : IfOk opened (HasDatabaseOf start)
  pub stays : IfOk opened (λ conn. IsUnfound start (file_state conn))
  pub ended : IfOk opened (λ conn. EndsOnPlaced e task conn volume result)
  -- the next run finds what was there
  pub leads : IfErr opened (λ failed. IfSome failed.left (λ left.
      UnusedStaysBeside (pair_of start volume) (unused.Shut left)))
  pub shut : IfErr opened (λ failed. result ≡ Err failed.why)

-- The result of a run of this task on an index, by the path of its volume if one is given. Without
-- one it is that of a run on two files, unless these hold an index of another version.
abbrev pub ComesByVolume : {D E Path : Type 0} → Ghosts D → Ghosts E → Option Path → Image → List ℕ
    → Task → Result ℕ End → Type 0
ComesByVolume g e None start volume task result =
    ComesOfRun g task start result ⊎ ComesOfOther g e task start volume result
ComesByVolume g e (Some path) start volume task result =
    ComesOfGiven g e task start volume result

-- ---- how a job and the program end

-- the result of an init, by the path of the volume if one is given
abbrev pub MakesByVolume : {D Path : Type 0} → Ghosts D → Option Path → Image → Bytes → Bytes
    → Bool → Result (Unit {0}) End → Type 0
MakesByVolume g None start user digits page_sums result =
    ComesOfInit g user digits page_sums start result
MakesByVolume g (Some path) start user digits page_sums result =
    ComesOfPlacedInit g user digits page_sums start result

-- the results of jobs on two files that held this, and a volume that held this
abbrev pub on_pair : {D E : Type 0} → Ghosts D → Ghosts E → Image → List ℕ → Coming
on_pair g e start volume = record {
  makes = λ paths. MakesByVolume g paths.volume start;
  comes = λ paths. ComesByVolume g e paths.volume start volume;
}

-- the status of the program, on two files that held this and a volume that held this
abbrev pub ProgramEndsOnPair : {D E K : Type 0} → Ghosts D → Ghosts E → Result Job ArgsEnd → Image
    → List ℕ → SinkStep K → ExitCode → Type 0
ProgramEndsOnPair g e read start volume sink status =
    ProgramEndsBy (λ asked ended. JobEndsBy (on_pair g e start volume) asked sink ended) read status

-- ---- an index without a volume

-- the connection that was opened on files that held this is to no index of version 1 or 2
pub record IsToNone {D : Type 0} (g : Ghosts D) (start : Image) : Type 0 where
  pub first : Held (FileStore D g)
  pub opened : IsOpenedOn start first
  pub none : ¬ IsOurs (file_state first).now

-- One of version 3 is looked for only if none of version 1 or 2 was found, as far as the files
-- returned what was written.
abbrev pub LooksElsewhere : {D E : Type 0} → Ghosts D → Ghosts E → Type 0
LooksElsewhere g e = (task : Task) (start : Image) (volume : List ℕ) (result : Result ℕ End)
    → (it : ComesOfOther g e task start volume result)
    → HasCleanDisk (file_state it.left.conn) → IsToNone g start

-- If no index of version 1 or 2 was found in two files, or none was made, one of version 3 in them
-- is as it was.
abbrev pub StaysIfUnused : {D : Type 0} → Ghosts D → Type 0
StaysIfUnused {D} g =
    (start : Pair) (left : Left D g)
    → UnusedLeaves IsUnfound start.image left
    ⊎ ((T : Tables) × UnusedLeaves (IsUnmade T) start.image left)
    → UnusedStaysBeside start left

-- Else a job without a volume ends as one on two files.
abbrev pub EndsAsOnFiles : {D E K : Type 0} → Ghosts D → Ghosts E → SinkStep K → Type 0
EndsAsOnFiles g e sink =
    (asked : Job) (start : Image) (volume : List ℕ) (result : Result ExitCode End)
    → volume_of_job asked ≡ None
    → ((task : Task) (found : Result ℕ End) → ¬ ComesOfOther g e task start volume found)
    → JobEndsBy (on_pair g e start volume) asked sink result → JobEnds g asked start sink result
