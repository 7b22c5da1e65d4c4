use Rattle.std.proofs.lemmas.Result.{IfOk-weaker}
use Rattle.index_args.proofs.Apps.{IsApp-arg}
use Rattle.index_args.proofs.command.on_paths.Goals as goal

pub returns : goal.returns
returns c =
    IfOk-weaker c.arg.result _ _ (λ command adds. IsApp-arg _ _ _ _ _ c.in_ok-on_database.ensures c.optional_arg.ensures adds) c.arg.ensures
