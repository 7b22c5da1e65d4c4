use Rattle.index_sql_writes.proofs.Words.{[], ◌∷◌, rules, Text, delete_case_text}
use Rattle.index_sql_schema.proofs.DeleteCase.{deletes}
use Rattle.index_sql_writes.proofs.TakenLemmas.{step_of}
use Rattle.index_sql_writes.proofs.SureWrites.{delete_case_sure}
use Rattle.index_sql_writes.proofs.statements.delete_case.Goals as goal

pub returns : goal.returns
returns g c = step_of g.S.Store delete_case_text (Text c.args.name.now ∷ []) _ _ _ _ _ delete_case_sure
    (λ count. deletes c.args.name.now _ _ count) (search rules) c.run_statement.ensures
