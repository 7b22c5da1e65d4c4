use Rattle.index_rules.proofs.ServeLemmas.{serves_bound}
use Rattle.index_rules.proofs.laws.served_bytes_are_bound.Goals as goal

pub returns-clause-bound : goal.returns-clause-bound
returns-clause-bound c = serves_bound
