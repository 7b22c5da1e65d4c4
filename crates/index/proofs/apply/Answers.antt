use Rattle.index.proofs.Words.{inr}
use Rattle.index.proofs.apply.Goals as goal

pub returns-in-Ok : goal.returns-in-Ok
returns-in-Ok g c = inr (_, c.apply.ensures)
