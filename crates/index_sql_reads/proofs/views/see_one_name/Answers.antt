use Rattle.index_sql_reads.proofs.Words.{Some}
use Rattle.index_rules.specs.Seen.{SeesName}
use Rattle.index_sql_reads.proofs.FindsLemmas.{fails_then, finds_as, finds_then}
use Rattle.index_sql_reads.proofs.views.see_one_name.Goals as goal

pub returns-in_err-record : goal.returns-in_err-record
returns-in_err-record g c = fails_then g.S.Store c.in_ok-owners.ensures c.in_err-record.ensures c.from_residual-in_err-record.ensures.1

pub returns-in_err-case : goal.returns-in_err-case
returns-in_err-case g c = fails_then g.S.Store (finds_then g.S.Store c.in_ok-owners.ensures c.in_ok-record.ensures)
    c.in_err-case.ensures c.from_residual-in_err-case.ensures.1

pub returns : goal.returns
returns g c =
    let found = finds_then g.S.Store (finds_then g.S.Store c.in_ok-owners.ensures c.in_ok-record.ensures) c.in_ok-case.ensures in
    finds_as g.S.Store (λ T. SeesName T (Some c.args.name.now)) found (λ T it. record { its_record = it.0.1; owners = it.0.0; case = it.1 })
