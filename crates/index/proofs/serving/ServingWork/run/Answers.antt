use Rattle.index.proofs.Words.{Ok, Err}
use Rattle.index.proofs.CausedLemmas.{listening_is_caused, listening_store, serving_is_caused, serving_store}
use Rattle.index.proofs.ServesLemmas.{among, none_works, serves_work}
use Rattle.index.proofs.serving.ServingWork.run.Goals as goal

pub returns-in-Err-clause-works : goal.returns-in-Err-clause-works
returns-in-Err-clause-works g c = none_works _ _ _ _ (
  c.in-Err.ensures.awaited,
  c.in-Err.ensures.unsent,
) _ c.in-Err.ensures.fault _ _ g.met.B.Books.settled _ _

pub returns-in-Ok-ended-clause-works : goal.returns-in-Ok-ended-clause-works
returns-in-Ok-ended-clause-works g c =
    serves_work _ _ _ _ _ _ (among g.L.Coming.Connections.coming g.L.Coming.Connections.replies c.in-Ok.coming
    c.answer_connections-ended.new.connections _ _ _ _ c.in-Ok.ensures.coming c.end.ensures.coming c.in-Ok.ensures.replies
    c.end.ensures.replies)
    _ _ (Ok c.in-Ok-ended.field-0) c.in-Ok-ended.ensures.clock c.in-Ok-ended.ensures.answers

pub returns-in-Err-ended-clause-works : goal.returns-in-Err-ended-clause-works
returns-in-Err-ended-clause-works g c =
    serves_work _ _ _ _ _ _ (among g.L.Coming.Connections.coming g.L.Coming.Connections.replies c.in-Ok.coming
    c.answer_connections-ended.new.connections _ _ _ _ c.in-Ok.ensures.coming c.end.ensures.coming c.in-Ok.ensures.replies
    c.end.ensures.replies)
    _ _ (Err c.in-Err-ended.early) c.in-Err-ended.ensures.clock c.in-Err-ended.ensures.answers

-- ---- why it ended

pub returns-in-Err-clause-caused : goal.returns-in-Err-clause-caused
returns-in-Err-clause-caused g c = listening_is_caused _ _ c.in-Err.ensures.fault

pub returns-in-Err-clause-store : goal.returns-in-Err-clause-store
returns-in-Err-clause-store g c = listening_store _ _ _ c.in-Err.ensures.fault

pub returns-in-Err-ended-clause-caused : goal.returns-in-Err-ended-clause-caused
returns-in-Err-ended-clause-caused g c =
    serving_is_caused _ (Err c.in-Err-ended.early) (λ is. c.end.ensures.refused (c.in-Err-ended.ensures.read is))

pub returns-in-Err-ended-clause-store : goal.returns-in-Err-ended-clause-store
returns-in-Err-ended-clause-store g c = serving_store _ _ (Err c.in-Err-ended.early) c.in-Err-ended.ensures.store
