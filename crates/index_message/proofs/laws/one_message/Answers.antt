use Rattle.index_message.proofs.MessageLemmas.{at_most_one}
use Rattle.index_message.proofs.laws.one_message.Goals as goal

pub returns : goal.returns
returns c = at_most_one
