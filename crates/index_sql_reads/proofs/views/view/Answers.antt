use Rattle.index_rules.specs.Facts.{Sees}
use Rattle.index_sql_reads.proofs.FindsLemmas.{fails_then, finds_as, finds_then}
use Rattle.index_sql_reads.proofs.views.view.Goals as goal

pub returns-in_err-files : goal.returns-in_err-files
returns-in_err-files g c = fails_then g.S.Store c.in_ok-users.ensures c.in_err-files.ensures c.from_residual-in_err-files.ensures.1

pub returns : goal.returns
returns g c = finds_as g.S.Store (λ T. Sees T c.args.keys.now) (finds_then g.S.Store c.in_ok-users.ensures c.in_ok-files.ensures)
    (λ T it. c.from_parts.ensures T _ it.0 it.1.1 it.1.0)
