use Rattle.index.proofs.Words.{Ok, Err, refl}
use Rattle.index.proofs.DoneLemmas.{lines_work}
use Rattle.index.proofs.job.LinesWork.run.Goals as goal

pub returns-in-Ok-clause-works : goal.returns-in-Ok-clause-works
returns-in-Ok-clause-works g c = lines_work _ _ _ _ _ _ (Ok c.in-Ok.count) c.in-Ok.ensures.answers

pub returns-in-Err-clause-works : goal.returns-in-Err-clause-works
returns-in-Err-clause-works g c = lines_work _ _ _ _ _ _ (Err c.in-Err.early) c.in-Err.ensures.answers

pub returns-in-Ok-clause-caused : goal.returns-in-Ok-clause-caused
returns-in-Ok-clause-caused g c = (Ok c.in-Ok.count, refl, c.in-Ok.ensures.fails)

pub returns-in-Err-clause-caused : goal.returns-in-Err-clause-caused
returns-in-Err-clause-caused g c = (Err c.in-Err.early, refl, c.in-Err.ensures.fails)
