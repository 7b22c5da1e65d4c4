use Rattle.std.proofs.Common.{codes, rules}
use Rattle.std.proofs.lemmas.Result.{IfOk-weaker}
use Rattle.clap.specs.Words.{new_app}
use Rattle.index_args.specs.Program.{IsApp}
use Rattle.index_args.proofs.Apps.{IsApp-arg}
use Rattle.index_args.proofs.command.apply.Goals as goal

pub returns : goal.returns
returns c =
    let none : IsApp c.about.result (new_app (codes "apply")) = search rules in
    let one = IsApp-arg _ _ _ _ _ none c.optional_arg.ensures c.in_ok-arg.ensures in
    IfOk-weaker c.arg-2.result _ _ (λ command adds. IsApp-arg _ _ _ _ _ one c.optional_arg-2.ensures adds) c.arg-2.ensures
