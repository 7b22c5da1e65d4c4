use Rattle.std.proofs.lemmas.Result.{IfOk-weaker}
use Rattle.index_args.proofs.Apps.{IsApp-arg}
use Rattle.index_args.proofs.command.init.Goals as goal

pub returns : goal.returns
returns c =
    let one = IsApp-arg _ _ _ _ _ c.in_ok-on_database.ensures c.required_arg.ensures c.in_ok-arg.ensures in
    let two = IsApp-arg _ _ _ _ _ one c.required_arg-2.ensures c.in_ok-arg-2.ensures in
    let three = IsApp-arg _ _ _ _ _ two c.flag.ensures c.in_ok-arg-3.ensures in
    IfOk-weaker c.arg-4.result _ _ (λ command adds. IsApp-arg _ _ _ _ _ three c.new_volume.ensures adds) c.arg-4.ensures
