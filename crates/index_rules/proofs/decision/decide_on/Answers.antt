use Rattle.index_rules.proofs.Words.{sym, subst}
use Rattle.index_rules.specs.Decided.{DecidesIn}
use Rattle.index_rules.proofs.decision.decide_on.Goals as goal

pub returns-in-AddUser : goal.returns-in-AddUser
returns-in-AddUser c = subst (λ request. DecidesIn c.args.context.now request c.add_user.result) (sym c.in-AddUser.is) c.add_user.ensures

pub returns-in-Transfer : goal.returns-in-Transfer
returns-in-Transfer c = subst (λ request. DecidesIn c.args.context.now request c.transfer.result) (sym c.in-Transfer.is) c.transfer.ensures
