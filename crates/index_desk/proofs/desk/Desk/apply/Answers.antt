use Rattle.index_desk.proofs.Words.{subst, Takes}
use Rattle.index_desk.proofs.TakeLemmas.{takes_keep, takes_settled}
use Rattle.index_desk.proofs.desk.Desk.apply.Goals as goal

pub returns-in-Ok-clause-takes : goal.returns-in-Ok-clause-takes
returns-in-Ok-clause-takes g c =
    subst (λ books. Takes g.B.Books books c.settle.new.books c.args.call c.settle.result) c.self.view_is
    (takes_settled _ _ _ _ _ _ _ c.in-Ok.ensures c.settle.ensures.decided c.settle.ensures.settles)

pub returns-in-Ok-clause-keeps : goal.returns-in-Ok-clause-keeps
returns-in-Ok-clause-keeps g c = takes_keep _ _ _ _ _ (returns-in-Ok-clause-takes g c)
