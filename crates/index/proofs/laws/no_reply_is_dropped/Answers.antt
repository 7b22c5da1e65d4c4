use Rattle.index.proofs.WrongDrops.{refutes_drops}
use Rattle.index.proofs.laws.no_reply_is_dropped.Goals as goal

pub returns : goal.returns
returns c = refutes_drops
