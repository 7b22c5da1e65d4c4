-- Wrong ends of jobs and of the program, and wrong causes of an end, which the contracts exclude.
use Rattle.std.specs.Prelude.{Bool, Err, List, None, Ok, Option, Result, Some, [], codes, decimal}
use Rattle.std.specs.Prelude.{false, true, ℕ, ◌++◌, ◌∷◌, ◌≡◌}
use Rattle.std.specs.Io.KnownBytes.{Appends}
use Rattle.std.specs.Process.{exit_status}
use Rattle.std.specs.declared.process.ExitCode.{ExitCode}
use Rattle.clap.specs.declared.error.Error.{Error}
use Rattle.sqlite.specs.Recovery.{Image}
use Rattle.sqlite.specs.WalReads.{AreClean}
use Rattle.sqlite_disk.specs.declared.Disk.{Ghosts}
use Rattle.index_io.specs.Counts.{HasFailed}
use Rattle.index_io.specs.declared.sink.Sink.{Ghosts as Outs}
use Rattle.index_args.specs.declared.job.ArgsEnd.TheVariants as args_end
use Rattle.index_args.specs.declared.job.Job.{Job}
use Rattle.index_args.specs.declared.job.Job.TheVariants as job
use Rattle.index_cli.specs.Lines.{line_feed}
use Rattle.index_desk.specs.Checks.{wrong_charges_in}
use Rattle.index_desk.specs.Reports.{report_in}
use Rattle.index_digest.specs.Digest.{read_digest, sha256}
use Rattle.index_http.specs.Steps.{SinkStep, to_sink}
use Rattle.index_names.specs.Faults.{FailsByEither}
use Rattle.index_rules.specs.declared.open.OpenFault.{OpenFault}
use Rattle.index_rules.specs.declared.open.OpenFault.TheVariants as open_fault
use Rattle.index_rules.specs.FirstTables.{IsBadFirstUser}
use Rattle.index_rules.specs.Maps.{Bytes}
use Rattle.index_rules.specs.Tables.{Tables}
use Rattle.index_rules.specs.Users.{read_user}
use Rattle.index.specs.declared.cause.Cause.{Cause}
use Rattle.index.specs.declared.cause.Cause.TheVariants as cause
use Rattle.index.specs.declared.database.Left.{Left}
use Rattle.index.specs.declared.database.Left.TheVariants as unused
use Rattle.index.specs.declared.end.End.{End}
use Rattle.index.specs.declared.end.End.TheVariants as end
use Rattle.index.specs.Ends.{is_store}
use Rattle.index.specs.Jobs.{IsShown, IsStatusOfCheck, IsStatusOfInit, JobEnds, ProgramEnds}
use Rattle.index.specs.Openings.{IsBadFirstUserByHex, IsToldOf}
use Rattle.index.specs.Refuted.{HoldsNoIndex, RefutesInit, RefutesOpening, RefutesWork}
use Rattle.index.specs.Runs.{Holds, HoldsNone}
use Rattle.index.specs.SecondLines.{JobPrintsCause, cause_of_open}

-- ---- jobs

-- the job works on the index at a path
abbrev pub works_on_index : Job → Bool
works_on_index (job.Init paths user digits page_sums) = false
works_on_index (job.Apply None) = false
works_on_index (job.Apply (Some paths)) = true
works_on_index (job.Serve paths args) = true
works_on_index (job.Report paths) = true
works_on_index (job.Check paths) = true

-- the job makes an index
abbrev pub makes_index : Job → Bool
makes_index (job.Init paths user digits page_sums) = true
makes_index (job.Apply paths) = false
makes_index (job.Serve paths args) = false
makes_index (job.Report paths) = false
makes_index (job.Check paths) = false

-- the job counts wrong charges
abbrev pub counts_charges : Job → Bool
counts_charges (job.Init paths user digits page_sums) = false
counts_charges (job.Apply paths) = false
counts_charges (job.Serve paths args) = false
counts_charges (job.Report paths) = false
counts_charges (job.Check paths) = true

-- the job writes a report
abbrev pub writes_report : Job → Bool
writes_report (job.Init paths user digits page_sums) = false
writes_report (job.Apply paths) = false
writes_report (job.Serve paths args) = false
writes_report (job.Report paths) = true
writes_report (job.Check paths) = false

-- the job names a first user and hex digits, of which this holds
abbrev pub NamesFirstUser : (Bytes → Bytes → Type 0) → Job → Type 0
NamesFirstUser Is (job.Init paths user digits page_sums) = Is user.now digits.now
NamesFirstUser Is (job.Apply paths) = ⊥
NamesFirstUser Is (job.Serve paths args) = ⊥
NamesFirstUser Is (job.Report paths) = ⊥
NamesFirstUser Is (job.Check paths) = ⊥

-- a text was written to a sink
abbrev pub Wrote : {K : Type 0} → SinkStep K → List ℕ → Type 0
Wrote sink text = Appends (sink.out.contents sink.old) (sink.out.contents sink.new) text

-- no write to a sink failed or took no byte
abbrev pub HasNotFailed : {K : Type 0} → SinkStep K → Type 0
HasNotFailed sink = ¬ HasFailed (sink.out.failures sink.old) (sink.out.failures sink.new)

-- each disk returns what was written to it
abbrev pub AreAllClean : {D : Type 0} → Ghosts D → Type 0
AreAllClean {D} g = (log db : D) → AreClean g log db

-- no job ends with this status, on disks that return what was written
pub record RefutesJobs {D K : Type 0} (g : Ghosts D) (start : Image) (sink : SinkStep K)
    (status : ExitCode) : Type 0 where
  -- the files hold no index to work on
  pub none : (asked : Job) → AreAllClean g → HoldsNoIndex start → works_on_index asked ≡ true
      → ¬ JobEnds g asked start sink (Ok status)
  -- the files hold a part of an index, though a new one was to be made
  pub anew : (asked : Job) → AreAllClean g → (¬ HoldsNone start) → makes_index asked ≡ true
      → ¬ JobEnds g asked start sink (Ok status)
  -- a new index with a first user who is not valid
  pub user : (asked : Job) → NamesFirstUser IsBadFirstUserByHex asked
      → ¬ JobEnds g asked start sink (Ok status)
  -- another status than 0, though the job ended well
  pub other : (asked : Job) → counts_charges asked ≡ false → (¬ (exit_status status ≡ 0))
      → ¬ JobEnds g asked start sink (Ok status)
  -- a check succeeded, though each index in the files has a wrong charge
  pub wrong : (asked : Job) → AreAllClean g → counts_charges asked ≡ true
      → ((T : Tables) → Holds start T → ¬ (wrong_charges_in T ≡ 0)) → exit_status status ≡ 0
      → ¬ JobEnds g asked start sink (Ok status)
  -- a check failed, though no index in the files has a wrong charge
  pub right : (asked : Job) → AreAllClean g → counts_charges asked ≡ true
      → ((T : Tables) → Holds start T → wrong_charges_in T ≡ 0) → (¬ (exit_status status ≡ 0))
      → ¬ JobEnds g asked start sink (Ok status)
  -- a report succeeded, but what was written is the report on no index in the files
  pub report : (asked : Job) → AreAllClean g → writes_report asked ≡ true
      → ((T : Tables) → Holds start T → ¬ Wrote sink (report_in T))
      → ¬ JobEnds g asked start sink (Ok status)

-- no status of an init or a check tells a wrong end of what it wrote
pub record RefutesStatus {K : Type 0} (sink : SinkStep K) (made : Unit {0}) (found : ℕ)
    : Type 0 where
  -- a failed write, though none failed
  pub init_failed : HasNotFailed sink → (told : End) → ¬ IsStatusOfInit sink (Ok made) (Err told)
  pub check_failed : HasNotFailed sink → (told : End) → ¬ IsStatusOfCheck sink (Ok found) (Err told)
  -- a success, though a write failed
  pub init_hides : (status : ExitCode)
      → (¬ (sink.out.failures sink.new ≡ sink.out.failures sink.old))
      → ¬ IsStatusOfInit sink (Ok made) (Ok status)
  pub check_hides : (status : ExitCode)
      → (¬ (sink.out.failures sink.new ≡ sink.out.failures sink.old))
      → ¬ IsStatusOfCheck sink (Ok found) (Ok status)
  -- another text
  pub init_text : (status : ExitCode) → (¬ Wrote sink (codes "created" ++ line_feed ∷ []))
      → ¬ IsStatusOfInit sink (Ok made) (Ok status)
  pub check_text : (status : ExitCode) → (¬ Wrote sink (decimal found ++ line_feed ∷ []))
      → ¬ IsStatusOfCheck sink (Ok found) (Ok status)
  -- another end than a failed write
  pub init_other : (told : End) → (¬ (told ≡ end.WriteFault))
      → ¬ IsStatusOfInit sink (Ok made) (Err told)
  pub check_other : (told : End) → (¬ (told ≡ end.WriteFault))
      → ¬ IsStatusOfCheck sink (Ok found) (Err told)
  -- something was written, though there was nothing to tell
  pub init_silent : (why : End) (result : Result ExitCode End) → (¬ (sink.new ≡ sink.old))
      → ¬ IsStatusOfInit sink (Err why) result
  pub check_silent : (why : End) (result : Result ExitCode End) → (¬ (sink.new ≡ sink.old))
      → ¬ IsStatusOfCheck sink (Err why) result

-- no program ends with this status
pub record RefutesProgram {D K : Type 0} (g : Ghosts D) (start : Image) (sink : SinkStep K)
    (status : ExitCode) : Type 0 where
  -- another status than 1, though there was no index to work on
  pub none : (asked : Job) → AreAllClean g → HoldsNoIndex start → works_on_index asked ≡ true
      → (¬ (exit_status status ≡ 1)) → ¬ ProgramEnds g (Ok asked) start sink status
  -- another status than 1, though a part of an index was there before an init
  pub anew : (asked : Job) → AreAllClean g → (¬ HoldsNone start) → makes_index asked ≡ true
      → (¬ (exit_status status ≡ 1)) → ¬ ProgramEnds g (Ok asked) start sink status
  -- another status than 1, though memory ran out for the arguments
  pub memory : (¬ (exit_status status ≡ 1))
      → ¬ ProgramEnds g (Err args_end.OutOfMemory) start sink status
  -- another status than 2 for a mistake in the arguments
  pub mistake : (error : Error) → (¬ IsShown error) → (¬ (exit_status status ≡ 2))
      → ¬ ProgramEnds g (Err (args_end.Clap error)) start sink status
  -- neither 0 nor 1 for the help or the version
  pub help : (error : Error) → IsShown error → (¬ (exit_status status ≡ 0))
      → (¬ (exit_status status ≡ 1)) → ¬ ProgramEnds g (Err (args_end.Clap error)) start sink status

-- ---- what is told

module _ {D : Type 0} {g : Ghosts D} where
  -- the files' database was refused
  abbrev pub is_refused : Option (Left D g) → Bool
  is_refused None = false
  is_refused (Some (unused.Shut left)) = false
  is_refused (Some (unused.Refused left)) = true

-- no end is told of two files on which nothing was done, if it is not the reason
pub record RefutesTold {D : Type 0} (g : Ghosts D) : Type 0 where
  -- another end, though the database did not fail
  pub other : (why told : End) (left : Option (Left D g)) → is_store why ≡ false
      → (¬ (told ≡ why)) → ¬ IsToldOf why left told
  -- an end that is no failure of the database, though it failed
  pub kind : (why told : End) (left : Option (Left D g)) → is_store why ≡ true
      → is_store told ≡ false → ¬ IsToldOf why left told
  -- another program has the files, though they were opened and their database was refused
  pub opened : (why : End) (left : Option (Left D g)) → is_store why ≡ true
      → is_refused left ≡ true → ¬ IsToldOf why left (end.Store (Some cause.InUse))

-- the end has no cause
abbrev pub has_no_cause : End → Bool
has_no_cause (end.Open fault) = false
has_no_cause (end.Lines early) = true
has_no_cause (end.Connections early) = true
has_no_cause (end.Listen why) = false
has_no_cause end.OutOfMemory = true
has_no_cause (end.Store found) = false
has_no_cause (end.Volume found path) = false
has_no_cause end.WriteFault = true

-- no job prints another cause of its end than is true
pub record RefutesCauses (asked : Job) (told : Option Cause) : Type 0 where
  -- another cause of a failed database
  pub store : (found : Option Cause) → (¬ (told ≡ found))
      → ¬ JobPrintsCause asked (end.Store found) told
  -- another cause of a failed volume
  pub volume : (found : Option Cause) (path : _) → (¬ (told ≡ found))
      → ¬ JobPrintsCause asked (end.Volume found path) told
  -- another cause of an address that can't be listened on
  pub address : (why : Cause) → (¬ (told ≡ Some why)) → ¬ JobPrintsCause asked (end.Listen why) told
  -- another cause of a database that is no index, or is one though a new one was to be made
  pub database : (fault : OpenFault) → (¬ (fault ≡ open_fault.BadFirstUser))
      → (¬ (told ≡ cause_of_open asked fault)) → ¬ JobPrintsCause asked (end.Open fault) told
  -- a cause of an end that has none
  pub none : (ended : End) → has_no_cause ended ≡ true → (¬ (told ≡ None))
      → ¬ JobPrintsCause asked ended told

-- no init is told a wrong cause of a first user who is not valid
pub record RefutesUserCauses (asked : Job) : Type 0 where
  -- no cause
  pub silent : NamesFirstUser IsBadFirstUserByHex asked
      → ¬ JobPrintsCause asked (end.Open open_fault.BadFirstUser) None
  -- malformed digits, though they are those of a digest
  pub digits : NamesFirstUser
      (λ user digits. IsBadFirstUserByHex user digits × (¬ (read_digest digits ≡ None))) asked
      → ¬ JobPrintsCause asked (end.Open open_fault.BadFirstUser) (Some cause.NoDigest)
  -- an empty token, though the digits are of another text
  pub token : NamesFirstUser
      (λ user digits. IsBadFirstUserByHex user digits × (¬ (read_digest digits ≡ Some (sha256 []))))
      asked
      → ¬ JobPrintsCause asked (end.Open open_fault.BadFirstUser) (Some cause.EmptyToken)
  -- a malformed user id, though it is a valid one
  pub name : NamesFirstUser
      (λ user digits. IsBadFirstUserByHex user digits × (¬ (read_user user ≡ None))) asked
      → ¬ JobPrintsCause asked (end.Open open_fault.BadFirstUser) (Some cause.NoUserId)

-- no first user is refused without a reason, and no user's reading fails in another way than these
pub record RefutesFirstUser : Type 0 where
  -- the digits are those of a digest with which the user can be the first
  pub valid : (user digits digest : Bytes) → read_digest digits ≡ Some digest
      → (¬ IsBadFirstUser user digest) → ¬ IsBadFirstUserByHex user digits
  -- an error that is neither of the two
  pub fault : (why first second : OpenFault) → (¬ (why ≡ first)) → (¬ (why ≡ second))
      → ¬ FailsByEither {A = Bytes} (Err why) first second

-- ---- all of them

-- the wrong outcomes of files, of jobs on them and of what is told of them
pub record RefutesFiles {D K : Type 0} (g : Ghosts D) (out : Outs K) : Type 0 where
  pub opening : RefutesOpening g
  pub work : RefutesWork g
  pub init : RefutesInit g
  pub jobs : (start : Image) (before after : K) (status : ExitCode)
      → RefutesJobs g start (to_sink out before after) status
  pub status : (before after : K) (found : ℕ) → RefutesStatus (to_sink out before after) tt found
  pub program : (start : Image) (before after : K) (status : ExitCode)
      → RefutesProgram g start (to_sink out before after) status
  pub told : RefutesTold g
  pub causes : (asked : Job) (told : Option Cause) → RefutesCauses asked told
  pub users : (asked : Job) → RefutesUserCauses asked
  pub first_user : RefutesFirstUser
