use Rattle.index_sql_writes.proofs.Words.{[], ◌∷◌, rules, Text, delete_body_text}
use Rattle.index_sql_schema.proofs.DeleteBody.{deletes}
use Rattle.index_sql_writes.proofs.TakenLemmas.{step_of}
use Rattle.index_sql_writes.proofs.SureWrites.{delete_body_sure}
use Rattle.index_sql_writes.proofs.statements.delete_body.Goals as goal

pub returns : goal.returns
returns g c = step_of g.S.Store delete_body_text (Text c.args.file.now ∷ []) _ _ _ _ _ delete_body_sure
    (λ count. deletes c.args.file.now _ _ count) (search rules) c.run_statement.ensures
