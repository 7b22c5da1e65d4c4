use Rattle.index_desk.proofs.Words.{arith, rules, common_steps}
use Rattle.index_desk.proofs.LookLemmas.{looks_by}
use Rattle.index_desk.proofs.RulesLemmas.{project_rows_by_history}
use Rattle.index_desk.proofs.desk.Desk.project_rows.Goals as goal

pub returns : goal.returns
returns g c =
    looks_by _ _ _ _ _
    (λ h stands rows. project_rows_by_history h _ stands c.args.name.now _)
    (grind (arith, common_steps))
    (search rules)
