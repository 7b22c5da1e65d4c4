-- What is read of a command line, and why it asks for nothing.
use Rattle.std.specs.Prelude.{◌≡◌, ◌≢◌, ◌⊎◌, [], true, List, Result, IfErr, IfOk, IsOk, ⊤}
use Rattle.clap.specs.Words.{IsAmong, Text, fault_of, kind_of, takes}
use Rattle.clap.specs.declared.error.Error.{Error}
use Rattle.clap.specs.declared.error.ErrorKind.TheVariants.{MissingSubcommand}
use Rattle.clap.specs.declared.error.ErrorKind.TheVariants.{OutOfMemory as NoMemory}
use Rattle.index_args.specs.declared.job.Job.{Job}
use Rattle.index_args.specs.declared.job.ArgsEnd.{ArgsEnd}
use Rattle.index_args.specs.declared.job.ArgsEnd.TheVariants.{Clap, OutOfMemory}
use Rattle.index_args.specs.Jobs.{AskFor}
use Rattle.index_args.specs.Program.{index_app}

-- the end for an error of clap
abbrev pub IsEndOf : Error → ArgsEnd → Type 0
IsEndOf error OutOfMemory = kind_of error ≡ NoMemory
IsEndOf error (Clap told) = (told ≡ error) × (kind_of error ≢ NoMemory)

-- arguments that ask for no job
abbrev pub AskNothing : List Text → Type 0
AskNothing args = (job : Job) → ¬ AskFor args job

-- memory ran out, or clap finds this fault in the arguments, or they lack a subcommand
abbrev pub IsArgsRefusal : List Text → ArgsEnd → Type 0
IsArgsRefusal args OutOfMemory = ⊤
IsArgsRefusal args (Clap error) =
    IsAmong (kind_of error) (fault_of index_app args)
    ⊎ ((kind_of error ≡ MissingSubcommand) × AskNothing args)

-- what is read of a command line
pub record ReadsJob (args : List Text) (result : Result Job ArgsEnd) : Type 0 where
  -- the job is the subcommand that clap reads
  pub job : IfOk result (AskFor args)
  -- a command line that clap accepts and that asks for a job is refused only if memory runs out
  pub read : takes index_app args ≡ true → (job : Job) → AskFor args job
      → IfErr result (λ end. end ≡ OutOfMemory)
  -- clap finds no fault in a command line from which a job is read
  pub taken : IsOk result → fault_of index_app args ≡ []
  -- a refusal has the kind of a fault that clap finds
  pub why : IfErr result (IsArgsRefusal args)
