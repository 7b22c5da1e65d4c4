use Rattle.index_sql_writes.proofs.Words.{Ok, Err, on_store, RunsStatement}
use Rattle.index_sql_writes.proofs.TakenLemmas.{at_exit, runs_statement}
use Rattle.index_sql_writes.proofs.statements.run_statement.Goals as goal

pub returns : goal.returns
returns g c = runs_statement g.S.Store _ _ _ _ (Ok c.in_ok-execute.field-0)
    _ c.execute.ensures.same_reference c.in_ok-execute.ensures.ended c.in_ok-execute.ensures.runs c.execute.ensures.survives

pub returns-in_err-execute : goal.returns-in_err-execute
returns-in_err-execute g c =
    at_exit c.from_residual.result c.in_err-execute.field-0.0 (RunsStatement _ _ (on_store g.S.Store _ _)) c.from_residual.ensures.1
    (runs_statement g.S.Store _ _ _ _ (Err c.in_err-execute.field-0.0)
    _ c.execute.ensures.same_reference c.in_err-execute.ensures.ended c.in_err-execute.ensures.runs c.execute.ensures.survives)
