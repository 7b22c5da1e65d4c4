use Rattle.index_sql_writes.proofs.step.take_put.Goals as goal

pub returns-in-Case : goal.returns-in-Case
returns-in-Case g c = rw c.in-Case.is c.put_case.ensures
