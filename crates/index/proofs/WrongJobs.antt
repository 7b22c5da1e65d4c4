-- Wrong ends of jobs and of the program, and wrong causes, do not meet the words of the contracts.
use Rattle.index.proofs.Words.{◌≡◌, ◌∙◌, ℕ, Bool, true, false, ◌==◌, ◌&&◌, [], Option, Some, None, Result, Ok, Err, refl, sym, ap, subst}
use Rattle.index.proofs.Words.{inl, inr, arith, ◌↔◌, IsErrAnd, is_some, ExitCode, file_state, Image, AreClean, tally_of_files, FileStore}
use Rattle.index.proofs.Words.{files, Ghosts, Files, Tally, Schema, Job, ReportFault, read_digest, sha256, SinkStep, OpenFault}
use Rattle.index.proofs.Words.{IsBadFirstUser, Bytes, Tables, read_user, Cause, Finished, Left, Unclosed, Unused, End, SchemaHasCause}
use Rattle.index.proofs.Words.{cause_of_calls, closing_of, end_by, end_of_report, is_store, ComesOfInit, ComesOfRun, IsStatusOf, JobEnds}
use Rattle.index.proofs.Words.{IsBadFirstUserByHex, IsToldOf, cause_of_store, HoldsNoIndex, Holds, HoldsNone, InitEndsOnFiles, Ran}
use Rattle.index.proofs.Words.{RunEndsOnFiles, CountWrong, Does, Task, WriteReport}
use Rattle.std.proofs.Common.{not}
use Rattle.std.specs.Prelude.{IfOk, IfErr, IsErr, if◌then◌else◌, is_err}
use Rattle.std.specs.Process.{exit_status}
use Rattle.index_args.specs.declared.job.Job.TheVariants as job
use Rattle.index_desk.specs.Checks.{wrong_charges_in}
use Rattle.index_desk.specs.Reports.{Reports, report_in}
use Rattle.index_rules.specs.declared.open.OpenFault.TheVariants as open_fault
use Rattle.index.specs.declared.cause.Cause.TheVariants as cause
use Rattle.index.specs.declared.database.Left.TheVariants as unused
use Rattle.index.specs.declared.end.End.TheVariants as end
use Rattle.index.specs.Ends.{end_of_reporting}
use Rattle.index.specs.Jobs.{IsStatusOfCheck, IsStatusOfInit, had_by, has_by}
use Rattle.index.specs.RefutedJobs.{AreAllClean, NamesFirstUser, RefutesCauses, RefutesFirstUser, RefutesJobs, RefutesProgram}
use Rattle.index.specs.RefutedJobs.{RefutesStatus, RefutesTold, RefutesUserCauses, Wrote, counts_charges, has_no_cause, is_refused}
use Rattle.index.specs.RefutedJobs.{makes_index, works_on_index, writes_report}
use Rattle.index.specs.SecondLines.{IsWhyBadFirstUser, JobPrintsCause, cause_of_open}
use Rattle.index.proofs.WrongLemmas.{is_no_error, no_end, number_in, refutes_init, refutes_work}

no_truth : true ≡ false → ⊥
no_truth is = cc is

-- ---- jobs

abbrev is_well : Result ExitCode End → Bool
is_well (Ok status) = true
is_well (Err told) = false

no_error : (status : ExitCode) (told : End) → ¬ (Ok status ≡ Err told)
no_error status told is = no_truth (ap (λ (it : Result ExitCode End). is_well it) is)

module _ {D K : Type 0} (g : Ghosts D) (start : Image) (sink : SinkStep K) (status : ExitCode) where
  -- without an index no work ends well
  no_run_well : (task : Task) (found : Result ℕ End) → AreAllClean g → HoldsNoIndex start → ComesOfRun g task start found
      → ¬ IsStatusOf found (Ok status)
  no_run_well task (Ok count) clean none comes is = (refutes_work g).comes task start count clean none comes
  no_run_well task (Err told) clean none comes is = no_error status told is

  no_check_well : (found : Result ℕ End) → AreAllClean g → HoldsNoIndex start → ComesOfRun g CountWrong start found
      → ¬ IsStatusOfCheck sink found (Ok status)
  no_check_well (Ok count) clean none comes is = (refutes_work g).comes CountWrong start count clean none comes
  no_check_well (Err told) clean none comes is = no_error status told is.0

  pub none_well : (asked : Job) → AreAllClean g → HoldsNoIndex start → works_on_index asked ≡ true
      → ¬ JobEnds g asked start sink (Ok status)
  none_well (job.Init paths user digits page_sums) clean none works ends = no_truth (sym works)
  none_well (job.Apply None) clean none works ends = no_truth (sym works)
  none_well (job.Apply (Some paths)) clean none works (inl memory) = no_error status end.OutOfMemory memory
  none_well (job.Apply (Some paths)) clean none works (inr (given, (left, found, comes, is))) = no_run_well _ found clean none comes is
  none_well (job.Serve paths args) clean none works (inl memory) = no_error status end.OutOfMemory memory
  none_well (job.Serve paths args) clean none works (inr (found, comes, is)) = no_run_well _ found clean none comes is
  none_well (job.Report paths) clean none works (found, comes, is) = no_run_well _ found clean none comes is
  none_well (job.Check paths) clean none works (found, comes, is) = no_check_well found clean none comes is

  -- if a part of an index is there, no init ends well
  no_init_well : (user digits : Bytes) (page_sums : Bool) (made : Result (Unit {0}) End) → AreAllClean g → (¬ HoldsNone start)
      → ComesOfInit g user digits page_sums start made → ¬ IsStatusOfInit sink made (Ok status)
  no_init_well user digits page_sums (Ok done) clean some comes is = (refutes_init g).comes user digits page_sums start clean some comes
  no_init_well user digits page_sums (Err told) clean some comes is = no_error status told is.0

  pub anew_well : (asked : Job) → AreAllClean g → (¬ HoldsNone start) → makes_index asked ≡ true → ¬ JobEnds g asked start sink (Ok status)
  anew_well (job.Init paths user digits page_sums) clean some makes (made, comes, is) =
      no_init_well user.now digits.now page_sums made clean some comes is
  anew_well (job.Apply paths) clean some makes ends = no_truth (sym makes)
  anew_well (job.Serve paths args) clean some makes ends = no_truth (sym makes)
  anew_well (job.Report paths) clean some makes ends = no_truth (sym makes)
  anew_well (job.Check paths) clean some makes ends = no_truth (sym makes)

  -- nor with a first user who is not valid
  no_user_run : (user digits : Bytes) (page_sums : Bool) → IsBadFirstUserByHex user digits
      → (run : Result (Result (Files D) (Unclosed D g)) (Unused D g))
      → InitEndsOnFiles g user digits page_sums start run → IfErr run (λ it. IsErrAnd {T = Unit {0}} (Ok tt) (IsToldOf it.why it.left)) → ⊥
  no_user_run user digits page_sums bad (Ok closed) ends refused =
      no_truth (sym (ap (λ (it : Result (Result (Files D) (Unclosed D g)) (Unused D g)). is_err it) (ends.bad_first_user.1 bad)))
  no_user_run user digits page_sums bad (Err it) ends refused = absurd refused

  no_user_well : (user digits : Bytes) (page_sums : Bool) (made : Result (Unit {0}) End) → IsBadFirstUserByHex user digits
      → ComesOfInit g user digits page_sums start made → ¬ IsStatusOfInit sink made (Ok status)
  no_user_well user digits page_sums (Ok done) bad comes is = no_user_run user digits page_sums bad comes.run comes.ends comes.refused
  no_user_well user digits page_sums (Err told) bad comes is = no_error status told is.0

  user_well : (asked : Job) → NamesFirstUser IsBadFirstUserByHex asked → ¬ JobEnds g asked start sink (Ok status)
  user_well (job.Init paths user digits page_sums) bad (made, comes, is) = no_user_well user.now digits.now page_sums made bad comes is
  user_well (job.Apply paths) bad ends = absurd bad
  user_well (job.Serve paths args) bad ends = absurd bad
  user_well (job.Report paths) bad ends = absurd bad
  user_well (job.Check paths) bad ends = absurd bad

  -- the status of what ended well
  run_status : (found : Result ℕ End) → (¬ (exit_status status ≡ 0)) → ¬ IsStatusOf found (Ok status)
  run_status (Ok count) other is = other is
  run_status (Err told) other is = no_error status told is

  init_status : (made : Result (Unit {0}) End) → (¬ (exit_status status ≡ 0)) → ¬ IsStatusOfInit sink made (Ok status)
  init_status (Ok done) other is = other is.1
  init_status (Err told) other is = no_error status told is.0

  other_well : (asked : Job) → counts_charges asked ≡ false → (¬ (exit_status status ≡ 0)) → ¬ JobEnds g asked start sink (Ok status)
  other_well (job.Init paths user digits page_sums) counts other (made, comes, is) = init_status made other is
  other_well (job.Apply paths) counts other (inl memory) = no_error status end.OutOfMemory memory
  other_well (job.Apply paths) counts other (inr (given, (left, found, comes, is))) = run_status found other is
  other_well (job.Serve paths args) counts other (inl memory) = no_error status end.OutOfMemory memory
  other_well (job.Serve paths args) counts other (inr (found, comes, is)) = run_status found other is
  other_well (job.Report paths) counts other (found, comes, is) = run_status found other is
  other_well (job.Check paths) counts other ends = no_truth counts

  -- a check counted the wrong charges of an index in the files
  abbrev Counted : ℕ → Type 0
  Counted count = (T : Tables) × Holds start T × (count ≡ wrong_charges_in T)

  counted_in : (count : ℕ) → AreAllClean g → (closed : Result (Files D) (Unclosed D g)) (told : Result ℕ End)
      → IfOk closed (λ files. AreClean g files.log files.db → Ran g (Does CountWrong told) start files)
      → Ok count ≡ end_by told (closing_of closed) → Counted count
  counted_in count clean (Ok files) (Ok n) ran is =
      let it = ran (clean files.log files.db) in
      (it.before, it.held, ap (λ (it : Result ℕ End). number_in it) is ∙ it.did.ends.count)
  counted_in count clean (Ok files) (Err early) ran is = absurd (is_no_error count early is)
  counted_in count clean (Err unclosed) told ran is = absurd (no_end told unclosed.fault count is)

  counted_by : (count : ℕ) → AreAllClean g → (run : Result (Finished D g) (Unused D g)) → RunEndsOnFiles g CountWrong start run
      → IfOk run (λ it. Ok count ≡ end_by it.end (closing_of it.closed))
      → IfErr run (λ it. IsErrAnd {T = ℕ} (Ok count) (IsToldOf it.why it.left)) → Counted count
  counted_by count clean (Ok run) ends done refused = counted_in count clean run.closed run.end ends.ran done
  counted_by count clean (Err it) ends done refused = absurd refused

  abbrev TellsWrong : Tables → Type 0
  TellsWrong T = (exit_status status ≡ 0) ↔ (wrong_charges_in T ≡ 0)

  counted : (found : Result ℕ End) → AreAllClean g → ComesOfRun g CountWrong start found → IsStatusOfCheck sink found (Ok status)
      → (T : Tables) × Holds start T × TellsWrong T
  counted (Ok count) clean comes is =
      let it = counted_by count clean comes.run comes.ends comes.done comes.refused in
      (it.0, it.1, subst (λ (n : ℕ). (exit_status status ≡ 0) ↔ (n ≡ 0)) it.2 is.1)
  counted (Err told) clean comes is = absurd (no_error status told is.0)

  counted_well : (asked : Job) → AreAllClean g → counts_charges asked ≡ true → JobEnds g asked start sink (Ok status)
      → (T : Tables) × Holds start T × TellsWrong T
  counted_well (job.Init paths user digits page_sums) clean counts ends = absurd (no_truth (sym counts))
  counted_well (job.Apply paths) clean counts ends = absurd (no_truth (sym counts))
  counted_well (job.Serve paths args) clean counts ends = absurd (no_truth (sym counts))
  counted_well (job.Report paths) clean counts ends = absurd (no_truth (sym counts))
  counted_well (job.Check paths) clean counts (found, comes, is) = counted found clean comes is

  wrong_well : (asked : Job) → AreAllClean g → counts_charges asked ≡ true → ((T : Tables) → Holds start T → ¬ (wrong_charges_in T ≡ 0))
      → exit_status status ≡ 0
      → ¬ JobEnds g asked start sink (Ok status)
  wrong_well asked clean counts wrong well ends = let it = counted_well asked clean counts ends in tells it.0 (wrong it.0 it.1) it.2
    where
      tells : (T : Tables) → (¬ (wrong_charges_in T ≡ 0)) → ¬ TellsWrong T
      tells T wrong both = wrong (both.0 well)

  right_well : (asked : Job) → AreAllClean g → counts_charges asked ≡ true → ((T : Tables) → Holds start T → wrong_charges_in T ≡ 0)
      → (¬ (exit_status status ≡ 0))
      → ¬ JobEnds g asked start sink (Ok status)
  right_well asked clean counts right other ends = let it = counted_well asked clean counts ends in tells it.0 (right it.0 it.1) it.2
    where
      tells : (T : Tables) → wrong_charges_in T ≡ 0 → ¬ TellsWrong T
      tells T none both = other (both.1 none)

  -- a report was written on an index in the files
  abbrev Reported : Type 0
  Reported = (T : Tables) × Holds start T × Wrote sink (report_in T)

  abbrev TaskHere : Task
  TaskHere = WriteReport (had_by sink) (has_by sink)

  reported_as : (T : Tables) (count : ℕ) (ended : Result (Unit {0}) ReportFault) → Ok count ≡ end_of_reporting ended
      → Reports (report_in T) (had_by sink) (has_by sink) ended
      → Wrote sink (report_in T)
  reported_as T count (Ok done) is wrote = wrote
  reported_as T count (Err fault) is wrote = absurd (is_no_error count (end_of_report fault) is)

  reported_in : (count : ℕ) → AreAllClean g → (closed : Result (Files D) (Unclosed D g)) (told : Result ℕ End)
      → IfOk closed (λ files. AreClean g files.log files.db → Ran g (Does TaskHere told) start files)
      → Ok count ≡ end_by told (closing_of closed) → Reported
  reported_in count clean (Ok files) told ran is =
      let it = ran (clean files.log files.db) in
      (it.before, it.held, reported_as it.before count it.did.ends.ended (is ∙ it.did.ends.is) it.did.ends.reports)
  reported_in count clean (Err unclosed) told ran is = absurd (no_end told unclosed.fault count is)

  reported_by : (count : ℕ) → AreAllClean g → (run : Result (Finished D g) (Unused D g)) → RunEndsOnFiles g TaskHere start run
      → IfOk run (λ it. Ok count ≡ end_by it.end (closing_of it.closed))
      → IfErr run (λ it. IsErrAnd {T = ℕ} (Ok count) (IsToldOf it.why it.left)) → Reported
  reported_by count clean (Ok run) ends done refused = reported_in count clean run.closed run.end ends.ran done
  reported_by count clean (Err it) ends done refused = absurd refused

  reported : (found : Result ℕ End) → AreAllClean g → ComesOfRun g TaskHere start found → IsStatusOf found (Ok status) → Reported
  reported (Ok count) clean comes is = reported_by count clean comes.run comes.ends comes.done comes.refused
  reported (Err told) clean comes is = absurd (no_error status told is)

  report_well : (asked : Job) → AreAllClean g → writes_report asked ≡ true → ((T : Tables) → Holds start T → ¬ Wrote sink (report_in T))
      → ¬ JobEnds g asked start sink (Ok status)
  report_well (job.Init paths user digits page_sums) clean writes wrong ends = no_truth (sym writes)
  report_well (job.Apply paths) clean writes wrong ends = no_truth (sym writes)
  report_well (job.Serve paths args) clean writes wrong ends = no_truth (sym writes)
  report_well (job.Report paths) clean writes wrong (found, comes, is) = let it = reported found clean comes is in wrong it.0 it.1 it.2
  report_well (job.Check paths) clean writes wrong ends = no_truth (sym writes)

  pub refutes_jobs : RefutesJobs g start sink status
  refutes_jobs = record {
    none = none_well;
    anew = anew_well;
    user = user_well;
    other = other_well;
    wrong = wrong_well;
    right = right_well;
    report = report_well;
  }

-- ---- what an init or a check writes

pub refutes_status : {K : Type 0} (sink : SinkStep K) (made : Unit {0}) (found : ℕ) → RefutesStatus sink made found
refutes_status sink made found = record {
  init_failed = λ none told it. none it.1.1.failed;
  check_failed = λ none told it. none it.1.1.failed;
  init_hides = λ status failed it. failed it.0.kept;
  check_hides = λ status failed it. failed it.0.kept;
  init_text = λ status missing it. missing it.0.whole;
  check_text = λ status missing it. missing it.0.whole;
  init_other = λ told other it. other it.0;
  check_other = λ told other it. other it.0;
  init_silent = λ why result wrote it. wrote it.1;
  check_silent = λ why result wrote it. wrote it.1;
}

-- ---- the program

module _ {D K : Type 0} (g : Ghosts D) (start : Image) (sink : SinkStep K) (status : ExitCode) where
  -- if its job can't end well, its status is 1
  no_program : (asked : Job) → ((told : ExitCode) → ¬ JobEnds g asked start sink (Ok told)) → (¬ (exit_status status ≡ 1))
      → (ended : Result ExitCode End) → JobEnds g asked start sink ended → (IsErr ended → exit_status status ≡ 1) → ⊥
  no_program asked none other (Ok told) ends failed = none told ends
  no_program asked none other (Err told) ends failed = other (failed refl)

  pub refutes_program : RefutesProgram g start sink status
  refutes_program = record {
    none = λ asked clean none works other it. no_program asked (λ told. none_well g start sink told asked clean none works)
        other it.0 it.1 it.3;
    anew = λ asked clean some makes other it. no_program asked (λ told. anew_well g start sink told asked clean some makes)
        other it.0 it.1 it.3;
    memory = λ other it. other it;
    mistake = λ error shown other it. other (it.1 shown);
    help = λ error shown first second it. elim (it.0 shown) [
      | inl well ↦ first well
      | inr failed ↦ second failed
    ];
  }

-- ---- what is told

abbrev cause_in : End → Option Cause
cause_in (end.Store found) = found
cause_in _ = None

abbrev is_in_use : Option Cause → Bool
is_in_use (Some cause.InUse) = true
is_in_use _ = false

-- no failed call of the files has the cause that another program has them
first_cause : (caught refused used : Bool)
    → is_in_use (if caught then Some cause.Damaged else if refused then Some cause.Full else if used then None else Some cause.DiskFailed)
    ≡ false
first_cause true refused used = refl
first_cause false true used = refl
first_cause false false true = refl
first_cause false false false = refl

calls_are_ours : (tally : Tally) (used : Bool) → is_in_use (cause_of_calls tally used) ≡ false
calls_are_ours tally used = first_cause (not (tally.caught == 0)) (not (tally.refused == 0)) used

-- nor has a schema
schema_is_ours : (schema : Schema) (found : Option Cause) → SchemaHasCause schema found → is_in_use found ≡ false
schema_is_ours schema found (inl (name, first, (text, told, bytes))) = ap is_in_use told
schema_is_ours schema found (inr (none, told)) = ap is_in_use told

module _ {D : Type 0} {g : Ghosts D} where
  store_is_ours : (store : FileStore D g) → is_in_use (cause_of_store store) ≡ false
  store_is_ours store =
      let calls = files store in
      calls_are_ours (tally_of_files g calls) (g.is_usable calls.0 && g.is_usable calls.1)

  told_other : (why told : End) (left : Option (Left D g)) → is_store why ≡ false → (¬ (told ≡ why)) → ¬ IsToldOf why left told
  told_other why told None kind other is = other is
  told_other why told (Some (unused.Shut left)) kind other is = other is
  told_other why told (Some (unused.Refused left)) kind other is = other (is.0 kind)

  told_kind : (why told : End) (left : Option (Left D g)) → is_store why ≡ true → is_store told ≡ false → ¬ IsToldOf why left told
  told_kind why told None failed kind is = no_truth (sym failed ∙ ap is_store (sym is) ∙ kind)
  told_kind why told (Some (unused.Shut left)) failed kind is = no_truth (sym failed ∙ ap is_store (sym is) ∙ kind)
  told_kind why told (Some (unused.Refused left)) failed kind is = let it = is.1 failed in no_truth (sym (ap is_store it.1) ∙ kind)

  told_opened : (why : End) (left : Option (Left D g)) → is_store why ≡ true → is_refused left ≡ true
      → ¬ IsToldOf why left (end.Store (Some cause.InUse))
  told_opened why None failed refused is = no_truth (sym refused)
  told_opened why (Some (unused.Shut left)) failed refused is = no_truth (sym refused)
  told_opened why (Some (unused.Refused left)) failed refused is =
      let it = is.1 failed in
      let told : Some cause.InUse ≡ it.0 = ap cause_in it.1 in
      let in_use : true ≡ is_in_use it.0 = ap is_in_use told in
      elim it.2 [
        | inl schema ↦ no_truth (in_use ∙ schema_is_ours (file_state left.conn).now.schema it.0 schema)
        | inr calls ↦ no_truth (in_use ∙ ap is_in_use calls.2 ∙ store_is_ours calls.0)
      ]

pub refutes_told : {D : Type 0} (g : Ghosts D) → RefutesTold g
refutes_told g = record { other = told_other; kind = told_kind; opened = told_opened }

-- ---- causes

other_open : (asked : Job) (told : Option Cause) (fault : OpenFault) → (¬ (fault ≡ open_fault.BadFirstUser))
    → (¬ (told ≡ cause_of_open asked fault))
    → ¬ JobPrintsCause asked (end.Open fault) told
other_open asked told open_fault.BadFirstUser differs other is = differs refl
other_open asked told open_fault.NotEmpty differs other is = other is
other_open asked told open_fault.NotAnIndex differs other is = other is
other_open asked told open_fault.OtherVersion differs other is = other is
other_open asked told open_fault.OutOfMemory differs other is = other is
other_open asked told open_fault.Store differs other is = other is

other_none : (asked : Job) (told : Option Cause) (ended : End) → has_no_cause ended ≡ true → (¬ (told ≡ None))
    → ¬ JobPrintsCause asked ended told
other_none asked told (end.Open fault) kind other is = no_truth (sym kind)
other_none asked told (end.Lines early) kind other is = other is
other_none asked told (end.Connections early) kind other is = other is
other_none asked told (end.Listen why) kind other is = no_truth (sym kind)
other_none asked told end.OutOfMemory kind other is = other is
other_none asked told (end.Store found) kind other is = no_truth (sym kind)
other_none asked told (end.Volume found path) kind other is = no_truth (sym kind)
other_none asked told end.WriteFault kind other is = other is

pub refutes_causes : (asked : Job) (told : Option Cause) → RefutesCauses asked told
refutes_causes asked told = record {
  store = λ found other is. other is;
  volume = λ found path other is. other is;
  address = λ why other is. other is;
  database = other_open asked told;
  none = other_none asked told;
}

-- a job whose first user is not valid, and what it is told
abbrev TellsBadUser : Job → Option Cause → Type 0
TellsBadUser asked told = JobPrintsCause asked (end.Open open_fault.BadFirstUser) told

-- one number for each of the three causes
abbrev number_of : Cause → ℕ
number_of cause.NoDigest = 1
number_of cause.EmptyToken = 2
number_of cause.NoUserId = 3
number_of _ = 0

no_two : (first second : Cause) (n m : ℕ) → number_of first ≡ n → number_of second ≡ m → first ≡ second → n ≡ m
no_two first second n m is other same = sym is ∙ ap number_of same ∙ other

-- the cause that is told is true
true_cause : (user digits : Bytes) (said : Cause) → ((why : Cause) × (Some said ≡ Some why) × IsWhyBadFirstUser user digits why)
    → IsWhyBadFirstUser user digits said
true_cause user digits said it =
    let both : Some said ≡ Some it.0 = it.1 in
    let same : said ≡ it.0 = cc in
    subst (λ (it : Cause). IsWhyBadFirstUser user digits it) (sym same) it.2

-- the invalid first user is told a cause that is true
module _ (Valid : Bytes → Bytes → Type 0) (said : Cause)
    (refuted : (user digits : Bytes) → Valid user digits → ¬ IsWhyBadFirstUser user digits said) where
  no_cause : (asked : Job) → NamesFirstUser (λ user digits. IsBadFirstUserByHex user digits × Valid user digits) asked
      → ¬ TellsBadUser asked (Some said)
  no_cause (job.Init paths user digits page_sums) bad is =
      refuted user.now digits.now bad.1 (true_cause user.now digits.now said (is bad.0))
  no_cause (job.Apply paths) bad is = absurd bad
  no_cause (job.Serve paths args) bad is = absurd bad
  no_cause (job.Report paths) bad is = absurd bad
  no_cause (job.Check paths) bad is = absurd bad

no_silence : (asked : Job) → NamesFirstUser IsBadFirstUserByHex asked → ¬ TellsBadUser asked None
no_silence (job.Init paths user digits page_sums) bad is =
    let it = is bad in
    let none : false ≡ true = ap (λ (it : Option Cause). is_some it) it.1 in
    no_truth (sym none)
no_silence (job.Apply paths) bad is = absurd bad
no_silence (job.Serve paths args) bad is = absurd bad
no_silence (job.Report paths) bad is = absurd bad
no_silence (job.Check paths) bad is = absurd bad

pub refutes_users : (asked : Job) → RefutesUserCauses asked
refutes_users asked = record {
  silent = no_silence asked;
  digits = no_cause (λ user digits. ¬ (read_digest digits ≡ None)) cause.NoDigest (λ user digits valid it. elim it [
    | inl malformed ↦ valid malformed.1
    | inr (inl empty) ↦ let no = no_two cause.NoDigest cause.EmptyToken 1 2 refl refl empty.0 in absurd (omega (arith, no))
    | inr (inr name) ↦ let no = no_two cause.NoDigest cause.NoUserId 1 3 refl refl name.0 in absurd (omega (arith, no))
  ]) asked;
  token = no_cause (λ user digits. ¬ (read_digest digits ≡ Some (sha256 []))) cause.EmptyToken (λ user digits valid it. elim it [
    | inl malformed ↦ let no = no_two cause.EmptyToken cause.NoDigest 2 1 refl refl malformed.0 in absurd (omega (arith, no))
    | inr (inl empty) ↦ valid empty.1
    | inr (inr name) ↦ let no = no_two cause.EmptyToken cause.NoUserId 2 3 refl refl name.0 in absurd (omega (arith, no))
  ]) asked;
  name = no_cause (λ user digits. ¬ (read_user user ≡ None)) cause.NoUserId (λ user digits valid it. elim it [
    | inl malformed ↦ let no = no_two cause.NoUserId cause.NoDigest 3 1 refl refl malformed.0 in absurd (omega (arith, no))
    | inr (inl empty) ↦ let no = no_two cause.NoUserId cause.EmptyToken 3 2 refl refl empty.0 in absurd (omega (arith, no))
    | inr (inr name) ↦ valid name.1
  ]) asked;
}

-- ---- the first user

no_bad_user : (user digits digest : Bytes) → read_digest digits ≡ Some digest → (¬ IsBadFirstUser user digest)
    → ¬ IsBadFirstUserByHex user digits
no_bad_user user digits digest is valid (inl none) =
    let no : Some digest ≡ None = sym is ∙ none in
    cc no
no_bad_user user digits digest is valid (inr (other, read, bad)) =
    let both : Some digest ≡ Some other = sym is ∙ read in
    let same : digest ≡ other = cc in
    valid (subst (λ (it : Bytes). IsBadFirstUser user it) (sym same) bad)

pub refutes_first_user : RefutesFirstUser
refutes_first_user = record {
  valid = no_bad_user;
  fault = λ why first second one two it. elim it [
    | inl is ↦ one is
    | inr is ↦ two is
  ];
}
