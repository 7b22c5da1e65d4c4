use Rattle.index_desk.proofs.Words.{rules}
use Rattle.index_desk.proofs.LookLemmas.{looks_by}
use Rattle.index_desk.proofs.RulesLemmas.{standing_by_history}
use Rattle.index_desk.proofs.desk.Desk.standing.Goals as goal

pub returns : goal.returns
returns g c =
    looks_by _ _ _ _ _
    (λ h stands. standing_by_history h _ stands c.args.name.now)
    (search rules)
    (search rules)
