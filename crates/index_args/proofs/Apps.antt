-- A command that grows by options and subcommands.
use Rattle.std.proofs.Common.{◌∙◌, ◌||◌, ap, ap₂}
use Rattle.clap.specs.Words.{App, Rule, with_rule, with_subcommand, AddsArg, AddsSubcommand}
use Rattle.clap.specs.declared.builder.arg.Arg.{Arg}
use Rattle.clap.specs.declared.builder.command.Command.{Command}
use Rattle.index_args.specs.Program.{IsApp, IsArg}

pub IsApp-arg : (old new : Command) (arg : Arg) (app : App) (rule : Rule) → IsApp old app → IsArg arg rule → AddsArg old arg new
    → IsApp new (with_rule app rule)
IsApp-arg old new arg app rule is arg_is adds = record {
  app = adds.shape arg_is.local ∙ ap₂ with_rule is.app arg_is.rule;
  globals = adds.globals ∙ ap₂ (λ x y. x || y) is.globals arg_is.local;
}

pub IsApp-subcommand : (old new sub : Command) (app below : App) → IsApp old app → IsApp sub below → AddsSubcommand old sub new
    → IsApp new (with_subcommand app below.top)
IsApp-subcommand old new sub app below is sub_is adds = record {
  app = adds.shape sub_is.globals ∙ ap₂ with_subcommand is.app (ap (λ (a : App). a.top) sub_is.app);
  globals = adds.globals ∙ ap₂ (λ x y. x || y) is.globals sub_is.globals;
}
