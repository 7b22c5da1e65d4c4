use Rattle.index_rules.proofs.Words.{refl, subst, keys_of, Facts, verdict_on, effect}
use Rattle.index_rules.specs.Decided.{Decides}
use Rattle.index_rules.proofs.Seen.{facts-seen}
use Rattle.index_rules.proofs.decision.decide.Goals as goal

pub returns-clause-tables : goal.returns-clause-tables
returns-clause-tables c = λ T one sees.
    subst (λ (f : Facts). Decides c.judge.result (verdict_on c.args.call f) (effect c.args.call.at c.args.call.request f))
    (facts-seen T one c.args.call (keys_of c.args.call) c.args.view.now refl sees) c.judge.ensures
