use Rattle.index_rules.specs.Seen.{SeesUsers}
use Rattle.index_sql_reads.proofs.FindsLemmas.{fails_then, finds_as, finds_then}
use Rattle.index_sql_reads.proofs.views.see_users.Goals as goal

pub returns-in_err-caller : goal.returns-in_err-caller
returns-in_err-caller g c = fails_then g.S.Store c.in_ok-user.ensures c.in_err-caller.ensures c.from_residual-in_err-caller.ensures.1

pub returns-in_err-bearer : goal.returns-in_err-bearer
returns-in_err-bearer g c = fails_then g.S.Store (finds_then g.S.Store c.in_ok-user.ensures c.in_ok-caller.ensures)
    c.in_err-bearer.ensures c.from_residual-in_err-bearer.ensures.1

pub returns : goal.returns
returns g c =
    let found = finds_then g.S.Store (finds_then g.S.Store c.in_ok-user.ensures c.in_ok-caller.ensures) c.in_ok-bearer.ensures in
    finds_as g.S.Store (λ T. SeesUsers T c.args.keys.now) found (λ T it. record { caller = it.0.1; user = it.0.0; bearer = it.1 })
