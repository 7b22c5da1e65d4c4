use Rattle.std.proofs.lemmas.Result.{IfOk-weaker}
use Rattle.index_args.proofs.Apps.{IsApp-arg}
use Rattle.index_args.proofs.command.serve.Goals as goal

pub returns : goal.returns
returns c =
    let one = IsApp-arg _ _ _ _ _ c.in_ok-on_paths.ensures c.required_arg.ensures c.in_ok-arg.ensures in
    let two = IsApp-arg _ _ _ _ _ one c.requests.ensures c.in_ok-arg-2.ensures in
    let three = IsApp-arg _ _ _ _ _ two c.rounds.ensures c.in_ok-arg-3.ensures in
    let four = IsApp-arg _ _ _ _ _ three c.at.ensures c.in_ok-arg-4.ensures in
    IfOk-weaker c.arg-5.result _ _ (λ command adds. IsApp-arg _ _ _ _ _ four c.keep_recent.ensures adds) c.arg-5.ensures
