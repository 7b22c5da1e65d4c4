use Rattle.index.proofs.Words.{◌∙◌, subst, HasCleanDisk, file_state, OpensAgain}
use Rattle.index.proofs.pair.without.Goals as goal

pub returns-clause-again : goal.returns-clause-again
returns-clause-again g c = subst (λ held. HasCleanDisk (file_state held) → OpensAgain held.store)
    (c.worked_on-conn.ensures.same ∙ c.into_connection.ensures.same)
    (λ clean. (c.worked_on-conn.ensures.numbered clean, c.worked_on-conn.ensures.databases clean))
