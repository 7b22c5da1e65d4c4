use Rattle.index_plain.proofs.Words.{subst, sym, IfOk-weaker}
use Rattle.index_rules.specs.Sound.{IsSound}
use Rattle.index_rules.specs.History.{begins}
use Rattle.index_rules.specs.StandsFor.{StandsFor}
use Rattle.index_rules.proofs.SoundOpened.{IsSound-opened}
use Rattle.index_rules.proofs.StandsOn.{StandsFor-opened}
use Rattle.index_plain.proofs.plain.PlainBooks.new.Goals as goal

pub returns-clause-sound : goal.returns-clause-sound
returns-clause-sound c =
    IfOk-weaker c.with_first_user.result _ _ (λ books is. subst IsSound (sym is) (IsSound-opened c.args.user.now c.args.token))
    c.with_first_user.ensures.tables

pub returns-clause-history : goal.returns-clause-history
returns-clause-history c =
    IfOk-weaker c.with_first_user.result _ _ (λ books is. subst (λ T. StandsFor T (begins c.args.user.now c.args.token)) (sym is)
    (StandsFor-opened c.args.user.now c.args.token)) c.with_first_user.ensures.tables
