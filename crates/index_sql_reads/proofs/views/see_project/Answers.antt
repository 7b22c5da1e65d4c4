use Rattle.index_sql_reads.proofs.FindsLemmas.{fails_then, finds_then}
use Rattle.index_sql_reads.proofs.views.see_project.Goals as goal

pub returns-in_err-name : goal.returns-in_err-name
returns-in_err-name g c = fails_then g.S.Store c.in_ok-files.ensures c.in_err-name.ensures c.from_residual-in_err-name.ensures.1

pub returns : goal.returns
returns g c = finds_then g.S.Store c.in_ok-files.ensures c.in_ok-name.ensures
