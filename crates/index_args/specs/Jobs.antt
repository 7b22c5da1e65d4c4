-- The job that a command line asks for.
use Rattle.std.specs.Prelude.{◌≡◌, ◌↔◌, ◌≤◌, ◌<◌, ◌^◌, ℕ, List, Option, Some, None}
use Rattle.std.specs.Prelude.{IfSome, IsSome, IsSomeAnd, IsTrue, codes, option_map}
use Rattle.std.specs.Borrow.{Bor}
use Rattle.std.specs.Str.Parse.{IsNumeral, digits_value, without_leading_plus}
use Rattle.clap.specs.Words.{Row, Text, first_of, found_of, rows_of, subcommand_of}
use Rattle.clap.specs.declared.parser.matches.ArgMatches.{ArgMatches}
use Rattle.index_args.specs.declared.job.Job.{Job}
use Rattle.index_args.specs.declared.job.Paths.{Paths}
use Rattle.index_args.specs.declared.job.Job.TheVariants as job
use Rattle.index_args.specs.Program.{index_app}

-- the result has the property, and if something has it there is a result
pub record FindsExactly {A : Type 0} (P : A → Type 0) (result : Option A) : Type 0 where
  pub is : IfSome result P
  pub found : (x : A) → P x → IsSome result

-- the rows of the options that were given
abbrev pub rows_in : ArgMatches → List Row
rows_in given = rows_of (found_of given)

-- the name of the subcommand that was given, and the rows of its options
abbrev pub rows_entered : Option (Bor Text × Bor ArgMatches) → Option (Text × List Row)
rows_entered entered = option_map (λ found. (found.0.now, rows_in found.1.now)) entered

-- the text is this number in decimal digits, possibly with a plus before them
abbrev pub IsDecimalText : ℕ → Text → Type 0
IsDecimalText n text =
    IsNumeral 10 (without_leading_plus text) × (digits_value 10 (without_leading_plus text) ≡ n)

-- the option has this text
abbrev pub HasText : Text → List Row → Text → Type 0
HasText id rows text = first_of id rows ≡ Some text

-- The option is given. It has no value: clap reads the text `true`, or `false` if it is not given.
abbrev pub IsGiven : Text → List Row → Type 0
IsGiven id rows = HasText id rows (codes "true")

-- the option has this number
abbrev pub HasNumber : Text → List Row → ℕ → Type 0
HasNumber id rows n = IsSomeAnd (first_of id rows) (IsDecimalText n)

-- the option has this number of 64 bits, or is not given
abbrev pub HasNumberOrNone : Text → List Row → Option ℕ → Type 0
HasNumberOrNone id rows None = first_of id rows ≡ None
HasNumberOrNone id rows (Some n) = HasNumber id rows n × (n < 2 ^ 64)

-- the number is that of an option's text, or the default without one
abbrev pub IsNumberOr : ℕ → Option Text → ℕ → Type 0
IsNumberOr default None n = n ≡ default
IsNumberOr default (Some text) n = IsDecimalText n text

-- the options have the path of a database, and that of its volume if one is given
abbrev pub HasPaths : List Row → Paths → Type 0
HasPaths rows paths = HasText (codes "db") rows paths.db.now
    × (first_of (codes "volume") rows ≡ option_map (λ volume. volume.now) paths.volume)

-- these paths, or neither is given
abbrev pub HasPathsOrNone : List Row → Option Paths → Type 0
HasPathsOrNone rows None =
    (first_of (codes "db") rows ≡ None) × (first_of (codes "volume") rows ≡ None)
HasPathsOrNone rows (Some paths) = HasPaths rows paths

-- the job is that of the subcommand, with the values of its options
abbrev pub IsJob : Option (Text × List Row) → Job → Type 0
IsJob None job = ⊥
IsJob (Some (name, rows)) (job.Init paths user token page_sums) = (name ≡ codes "init")
    × HasPaths rows paths × HasText (codes "user") rows user.now
    × HasText (codes "token-sha256") rows token.now
    × (IsTrue page_sums ↔ IsGiven (codes "page-sums") rows)
IsJob (Some (name, rows)) (job.Apply paths) = (name ≡ codes "apply") × HasPathsOrNone rows paths
IsJob (Some (name, rows)) (job.Serve paths args) = (name ≡ codes "serve")
    × HasPaths rows paths × HasText (codes "listen") rows args.listen.now
    × HasNumber (codes "requests") rows args.requests
    × (1 ≤ args.requests) × (args.requests ≤ 1000000)
    × IsNumberOr 1 (first_of (codes "rounds") rows) args.rounds
    × (1 ≤ args.rounds) × (args.rounds ≤ 1000000)
    × HasNumberOrNone (codes "at") rows args.at
    × HasNumberOrNone (codes "keep-recent") rows args.keep_recent
IsJob (Some (name, rows)) (job.Report paths) = (name ≡ codes "report") × HasPaths rows paths
IsJob (Some (name, rows)) (job.Check paths) = (name ≡ codes "check") × HasPaths rows paths

-- the arguments ask for this job, as clap reads them
abbrev pub AskFor : List Text → Job → Type 0
AskFor args = IsJob (subcommand_of index_app args)
