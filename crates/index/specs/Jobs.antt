-- How a subcommand ends, from the run that it makes.
use Rattle.std.specs.Prelude.{◌≡◌, ◌⊎◌, ◌↔◌, ◌*◌, ℕ, Bool, List, [], ◌∷◌, ◌++◌, codes, decimal}
use Rattle.std.specs.Prelude.{Option, Some, None, option_map}
use Rattle.std.specs.Prelude.{Result, Ok, Err, IfErr, IfOk, IsErr, IsErrAnd}
use Rattle.std.specs.Process.{exit_status}
use Rattle.std.specs.declared.process.ExitCode.{ExitCode}
use Rattle.clap.specs.Words.{kind_of}
use Rattle.clap.specs.declared.error.Error.{Error}
use Rattle.clap.specs.declared.error.ErrorKind.TheVariants.{DisplayHelp, DisplayVersion}
use Rattle.sqlite.specs.Recovery.{Image}
use Rattle.sqlite_disk.specs.declared.Disk.{Ghosts}
use Rattle.sqlite_disk.specs.declared.Files.{Files}
use Rattle.index_cli.specs.Ends.{WritesText}
use Rattle.index_cli.specs.Lines.{line_feed}
use Rattle.index_digest.specs.Digest.{read_digest, sha256}
use Rattle.index_http.specs.Steps.{SinkStep}
use Rattle.index_rules.specs.declared.open.OpenFault.TheVariants as open_fault
use Rattle.index_rules.specs.FirstTables.{first_tables}
use Rattle.index_rules.specs.Maps.{Bytes}
use Rattle.index_rules.specs.Tables.{Tables}
use Rattle.index_args.specs.declared.job.Job.{Job}
use Rattle.index_args.specs.declared.job.Job.TheVariants as job
use Rattle.index_args.specs.declared.job.Paths.{Paths}
use Rattle.index_args.specs.declared.job.ArgsEnd.{ArgsEnd}
use Rattle.index_args.specs.declared.job.ArgsEnd.TheVariants as args_end
use Rattle.index.specs.declared.database.Finished.{Finished}
use Rattle.index.specs.declared.database.Unclosed.{Unclosed}
use Rattle.index.specs.declared.database.Unused.{Unused}
use Rattle.index.specs.declared.end.End.{End}
use Rattle.index.specs.declared.end.End.TheVariants as end
use Rattle.index.specs.Chains.{InitLeadsOn, WorkLeadsOn}
use Rattle.index.specs.Ends.{closing_of, end_by}
use Rattle.index.specs.Openings.{IsToldOf}
use Rattle.index.specs.Runs.{InitEndsOnFiles, RunEndsOnFiles}
use Rattle.index.specs.Tasks.{AnswerLines, CountWrong, Does, Task, WriteReport, answer_sockets}

-- ---- the result of a run

-- The result of a run of this task on the index in two files that held this: that of the work if
-- the files were closed, else that of closing, or why nothing was done. It does not say that these
-- are the files at the path of the job.
pub record ComesOfRun {D : Type 0}
    (g : Ghosts D) (task : Task) (start : Image) (result : Result ℕ End) : Type 0 where
  pub run : Result (Finished D g) (Unused D g)
  pub ends : RunEndsOnFiles g task start run
  pub leads : WorkLeadsOn g task start run
  pub done : IfOk run (λ it. result ≡ end_by it.end (closing_of it.closed))
  pub refused : IfErr run (λ it. IsErrAnd result (IsToldOf it.why it.left))

-- the result of this task on a new index of the user `office` in memory, or that memory ran out
abbrev pub ComesInMemory : Task → Result ℕ End → Type 0
ComesInMemory task result =
    (result ≡ Err (end.Open open_fault.OutOfMemory))
    ⊎ ((after : Tables)
    × Does task result (first_tables (codes "office") (sha256 (codes "office"))) after)

-- the result of a task on an index, as `Comes` says for its paths, or in memory if none are given
abbrev pub ComesByPaths : (Paths → Task → Result ℕ End → Type 0) → Option Paths → Task
    → Result ℕ End → Type 0
ComesByPaths Comes (Some paths) task result = Comes paths task result
ComesByPaths Comes None task result = ComesInMemory task result

-- the result of an init with this user, these hex digits of the token's digest, and page sums or
-- none, on two files that held this: that of closing, or why no index was made
pub record ComesOfInit {D : Type 0}
    (g : Ghosts D) (user digits : Bytes) (page_sums : Bool) (start : Image)
    (result : Result (Unit {0}) End) : Type 0 where
  pub run : Result (Result (Files D) (Unclosed D g)) (Unused D g)
  pub ends : InitEndsOnFiles g user digits page_sums start run
  pub leads : (digest : Bytes) → read_digest digits ≡ Some digest
      → InitLeadsOn g user digest start run
  pub done : IfOk run (λ closed. result ≡ closing_of closed)
  pub refused : IfErr run (λ it. IsErrAnd result (IsToldOf it.why it.left))

-- ---- the status of a job

-- The status of a job is 0 if its run succeeded. Else the job ends as the run did.
abbrev pub IsStatusOf : Result ℕ End → Result ExitCode End → Type 0
IsStatusOf (Ok found) (Ok status) = exit_status status ≡ 0
IsStatusOf (Ok found) (Err told) = ⊥
IsStatusOf (Err told) result = result ≡ Err told

-- A text was written whole, no write failed, and the status is as `Is` says. Or a write failed or
-- took no byte, less than the text was written, and that is the end.
abbrev pub IsStatusOfText : {K : Type 0} → SinkStep K → List ℕ → (ExitCode → Type 0)
    → Result ExitCode End → Type 0
IsStatusOfText sink text Is (Ok status) =
    WritesText sink.out sink.old sink.new text (Ok tt) × Is status
IsStatusOfText sink text Is (Err told) = (told ≡ end.WriteFault)
    × ((count : ℕ) × WritesText sink.out sink.old sink.new text (Err count))

-- A check writes the number of wrong charges in decimal digits with a line feed, and ends with 0
-- exactly if it is 0. If there is no number, nothing is written.
abbrev pub IsStatusOfCheck : {K : Type 0} → SinkStep K → Result ℕ End → Result ExitCode End
    → Type 0
IsStatusOfCheck sink (Ok found) result = IsStatusOfText sink (decimal found ++ line_feed ∷ [])
    (λ status. (exit_status status ≡ 0) ↔ (found ≡ 0)) result
IsStatusOfCheck sink (Err told) result = (result ≡ Err told) × (sink.new ≡ sink.old)

-- An init that made a new index writes so, and ends with 0. If none was made, nothing is written.
abbrev pub IsStatusOfInit : {K : Type 0} → SinkStep K → Result (Unit {0}) End
    → Result ExitCode End → Type 0
IsStatusOfInit sink (Ok made) result = IsStatusOfText sink (codes "created" ++ line_feed ∷ [])
    (λ status. exit_status status ≡ 0) result
IsStatusOfInit sink (Err told) result = (result ≡ Err told) × (sink.new ≡ sink.old)

-- ---- how a job ends

-- a job ended as a run of this task does, whose result comes as `Comes` says
abbrev pub EndsAsRun : (Task → Result ℕ End → Type 0) → Task
    → (Result ℕ End → Result ExitCode End → Type 0) → Result ExitCode End → Type 0
EndsAsRun Comes task IsStatus result =
    (found : Result ℕ End) × Comes task found × IsStatus found result

-- an init ended as a run does, whose result comes as `Makes` says for its user, the hex digits of
-- the token's digest, and page sums or none
abbrev pub EndsAsInit : (Bytes → Bytes → Bool → Result (Unit {0}) End → Type 0) → Bytes → Bytes
    → Bool → (Result (Unit {0}) End → Result ExitCode End → Type 0) → Result ExitCode End → Type 0
EndsAsInit Makes user digits page_sums IsStatus result =
    (made : Result (Unit {0}) End)
    × Makes user digits page_sums made × IsStatus made result

-- what a sink had and has
abbrev pub had_by : {K : Type 0} → SinkStep K → Option (List ℕ)
had_by sink = sink.out.contents sink.old

abbrev pub has_by : {K : Type 0} → SinkStep K → Option (List ℕ)
has_by sink = sink.out.contents sink.new

-- the lines of this input were answered to a sink
abbrev pub ApplyEnds : {K : Type 0} → (Task → Result ℕ End → Type 0) → (given : Option (List ℕ))
    → SinkStep K → Result ExitCode End → Type 0
ApplyEnds Comes given sink result = (left : Option (List ℕ)) × (found : Result ℕ End)
    × Comes (AnswerLines given left (had_by sink) (has_by sink)) found
    × IsStatusOf found result

-- the report was written to a sink
abbrev pub ReportEnds : {K : Type 0} → (Task → Result ℕ End → Type 0) → SinkStep K
    → Result ExitCode End → Type 0
ReportEnds Comes sink result =
    EndsAsRun Comes (WriteReport (had_by sink) (has_by sink)) IsStatusOf result

-- a job ended as `Ended` says, or memory ran out
abbrev pub OrRunsOutOfMemory : Type 0 → Result ExitCode End → Type 0
OrRunsOutOfMemory Ended result = (result ≡ Err end.OutOfMemory) ⊎ Ended

-- how the results of jobs come: of an init, by its paths, and of a task on an index, by its paths
pub record Coming : Type 1 where
  pub makes : Paths → Bytes → Bytes → Bool → Result (Unit {0}) End → Type 0
  pub comes : Paths → Task → Result ℕ End → Type 0

-- How each job ends, whose results come so, with a sink for what it prints. An apply answered the
-- lines of some input.
abbrev pub JobEndsBy : {K : Type 0} → Coming → Job → SinkStep K → Result ExitCode End → Type 0
JobEndsBy by (job.Init paths user digits page_sums) sink result =
    EndsAsInit (by.makes paths) user.now digits.now page_sums (IsStatusOfInit sink) result
JobEndsBy by (job.Apply paths) sink result =
    OrRunsOutOfMemory ((given : Option (List ℕ))
    × ApplyEnds (ComesByPaths by.comes paths) given sink result) result
JobEndsBy by (job.Serve paths args) sink result =
    OrRunsOutOfMemory (EndsAsRun (by.comes paths)
    (answer_sockets args.at (args.requests * args.rounds)) IsStatusOf result) result
JobEndsBy by (job.Report paths) sink result = ReportEnds (by.comes paths) sink result
JobEndsBy by (job.Check paths) sink result =
    EndsAsRun (by.comes paths) CountWrong (IsStatusOfCheck sink) result

-- the results of jobs on two files that held this
abbrev pub on_files : {D : Type 0} → Ghosts D → Image → Coming
on_files g start = record {
  makes = λ paths user digits page_sums. ComesOfInit g user digits page_sums start;
  comes = λ paths task. ComesOfRun g task start;
}

-- how each job ends on two files that held this
abbrev pub JobEnds : {D K : Type 0} → Ghosts D → Job → Image → SinkStep K → Result ExitCode End
    → Type 0
JobEnds g asked start sink result = JobEndsBy (on_files g start) asked sink result

-- the path of the database that a job works on
abbrev pub path_of_job : Job → Option Bytes
path_of_job (job.Init paths user digits page_sums) = Some paths.db.now
path_of_job (job.Apply paths) = option_map (λ it. it.db.now) paths
path_of_job (job.Serve paths args) = Some paths.db.now
path_of_job (job.Report paths) = Some paths.db.now
path_of_job (job.Check paths) = Some paths.db.now

-- ---- how the program ends

-- clap prints the help or the version
abbrev pub IsShown : Error → Type 0
IsShown error = (kind_of error ≡ DisplayHelp) ⊎ (kind_of error ≡ DisplayVersion)

-- The status of the program, by its arguments. It is that of the job, which ends as `Ends` says, or
-- 1 if the job ended with an error. Else it is 1 if memory ran out, 0 or 1 for the help or the
-- version, and 2 for any mistake.
abbrev pub ProgramEndsBy : (Job → Result ExitCode End → Type 0) → Result Job ArgsEnd → ExitCode
    → Type 0
ProgramEndsBy Ends (Ok asked) status =
    (ended : Result ExitCode End) × Ends asked ended
    × IfOk ended (λ told. status ≡ told) × (IsErr ended → exit_status status ≡ 1)
ProgramEndsBy Ends (Err args_end.OutOfMemory) status = exit_status status ≡ 1
ProgramEndsBy Ends (Err (args_end.Clap error)) status =
    (IsShown error → (exit_status status ≡ 0) ⊎ (exit_status status ≡ 1))
    × ((¬ IsShown error) → exit_status status ≡ 2)

-- the status of the program, on two files that held this
abbrev pub ProgramEnds : {D K : Type 0} → Ghosts D → Result Job ArgsEnd → Image → SinkStep K
    → ExitCode → Type 0
ProgramEnds g read start sink status =
    ProgramEndsBy (λ asked ended. JobEnds g asked start sink ended) read status
