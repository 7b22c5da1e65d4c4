use Rattle.index.proofs.RefutedLemmas.{nobody_is_not_served}
use Rattle.index.proofs.laws.nobody_is_passed_over.Goals as goal

pub returns : goal.returns
returns c = nobody_is_not_served
