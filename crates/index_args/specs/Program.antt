-- The command line of the program: its subcommands and their options, as clap reads them.
use Rattle.std.specs.Prelude.{◌≡◌, ℕ, Some, true, false, codes, [], ◌∷◌, IfOk, Result}
use Rattle.clap.specs.Words.{App, Rule, Text, app_of, new_app, new_rule, rule_of, with_rule}
use Rattle.clap.specs.Words.{with_subcommand}
use Rattle.clap.specs.declared.builder.action.ArgAction.TheVariants.{SetTrue}
use Rattle.clap.specs.declared.builder.arg.Arg.{Arg}
use Rattle.clap.specs.declared.builder.command.Command.{Command}
use Rattle.clap.specs.declared.builder.command.Command.TheViews.{out-Command}
use Rattle.clap.specs.declared.builder.value_parser.ValueParser.TheVariants as parser

-- an option with a value, by its long name
abbrev pub option : Text → Rule
option name = record (new_rule name) { long = Some name }

-- an option that must be given
abbrev pub required : Text → Rule
required name = record (option name) { required = true }

-- an option without a value, by its long name
abbrev pub flag_option : Text → Rule
flag_option name = record (option name) { action = Some SetTrue }

-- an option for a whole number in a range
abbrev pub number_between : ℕ → ℕ → Rule → Rule
number_between least most rule = record rule { parser = Some (parser.Unsigned least most) }

-- an option for any number of 64 bits
abbrev pub any_number : Rule → Rule
any_number rule = number_between 0 18446744073709551615 rule

-- a subcommand that needs a database
abbrev pub database_app : Text → App
database_app name = with_rule (new_app name) (required (codes "db"))

-- a subcommand that needs a database, and may have its volume
abbrev pub paths_app : Text → App
paths_app name = with_rule (database_app name) (option (codes "volume"))

-- the volume of a new index: without a value it is read as the empty text
abbrev pub new_volume_option : Rule
new_volume_option = record (option (codes "volume")) {
  range = Some (record { start_inclusive = 0; end_inclusive = 1 });
  missing = [] ∷ [];
}

-- the subcommand `init` with its options
abbrev pub init_app : App
init_app =
    with_rule (with_rule (with_rule (with_rule (database_app (codes "init"))
    (required (codes "user"))) (required (codes "token-sha256")))
    (flag_option (codes "page-sums")))
    new_volume_option

-- the subcommand `apply`, with an optional database and volume
abbrev pub apply_app : App
apply_app =
    with_rule (with_rule (new_app (codes "apply")) (option (codes "db"))) (option (codes "volume"))

-- the subcommand `serve` with its options
abbrev pub serve_app : App
serve_app =
    with_rule (with_rule (with_rule (with_rule (with_rule
    (paths_app (codes "serve")) (required (codes "listen")))
    (number_between 1 1000000 (required (codes "requests"))))
    (number_between 1 1000000 (option (codes "rounds"))))
    (any_number (option (codes "at"))))
    (any_number (option (codes "keep-recent")))

-- the program's name, which has a version and needs a subcommand after it
abbrev pub program_app : App
program_app = record {
  top = record (new_app (codes "index")).top { has_version = true; subcommand_required = true };
  subs = [];
}

-- the whole command line
abbrev pub index_app : App
index_app =
    with_subcommand (with_subcommand (with_subcommand (with_subcommand (with_subcommand program_app
    init_app.top) apply_app.top) serve_app.top) (paths_app (codes "report")).top)
    (paths_app (codes "check")).top

-- the code's option is this one, and only its own command reads it
pub record IsArg (arg : Arg) (shape : Rule) : Type 0 where
  pub rule : rule_of arg ≡ shape
  pub local : arg.global ≡ false

-- the code's command is this one, as far as parsing reads it
pub record IsApp (command : Command) (shape : App) : Type 0 where
  pub app : app_of command ≡ shape
  pub globals : (out-Command command).has_globals ≡ false

-- the code's command is this one, unless memory ran out
abbrev pub AppIsMade : {E : Type 0} → Result Command E → App → Type 0
AppIsMade result app = IfOk result (λ command. IsApp command app)
