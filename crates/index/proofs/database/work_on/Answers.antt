use Rattle.index.proofs.Words.{rules, image_at, Shut, CleanShutLeaves}
use Rattle.index.proofs.ChainLemmas.{unfound_leads, work_leads}
use Rattle.index.proofs.database.work_on.Goals as goal

pub returns-in-Ok-clause-ends : goal.returns-in-Ok-clause-ends
returns-in-Ok-clause-ends g c = c.work_and_close.ensures.ends _ c.in-Ok.ensures.opened

pub returns-in-Ok-clause-leads : goal.returns-in-Ok-clause-leads
returns-in-Ok-clause-leads g c = work_leads _ (image_at g.S.Start) _ (c.work_and_close.ensures.ends _ c.in-Ok.ensures.opened)

pub returns-in-Some-clause-leads : goal.returns-in-Some-clause-leads
returns-in-Some-clause-leads g c =
    let start = image_at g.S.Start in
    let shut : CleanShutLeaves start c.in-Some.left = search rules in
    record { ended = tt; cut = tt; unused = unfound_leads start (Shut c.in-Some.left) shut }
