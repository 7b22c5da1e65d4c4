use Rattle.index_rules.proofs.StandsOn.{StandsFor-opened}
use Rattle.index_rules.proofs.laws.first_tables_stand_for_the_opening.Goals as goal

pub returns : goal.returns
returns c = StandsFor-opened
