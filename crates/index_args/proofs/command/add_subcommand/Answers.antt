use Rattle.std.proofs.Common.{IfOk, subst}
use Rattle.std.proofs.lemmas.Result.{IfOk-weaker}
use Rattle.index_args.specs.Program.{IsApp}
use Rattle.index_args.proofs.Apps.{IsApp-subcommand}
use Rattle.index_args.proofs.command.add_subcommand.Goals as goal

pub returns-in-Ok : goal.returns-in-Ok
returns-in-Ok c = λ app below is made_is.
    let shape = subst (λ made. IfOk made (λ sub. IsApp sub below)) c.in-Ok.is made_is in
    IfOk-weaker c.subcommand.result _ _ (λ command adds. IsApp-subcommand _ _ _ app below is shape adds) c.subcommand.ensures
