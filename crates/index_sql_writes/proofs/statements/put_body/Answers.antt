use Rattle.index_sql_writes.proofs.Words.{rules, put_body_text}
use Rattle.index_sql_schema.proofs.PutBody as statement
use Rattle.index_sql_writes.proofs.TakenLemmas.{step_of}
use Rattle.index_sql_writes.proofs.SureWrites.{put_body_sure}
use Rattle.index_sql_writes.proofs.statements.put_body.Goals as goal

pub returns : goal.returns
returns g c =
    step_of g.S.Store put_body_text (statement.cells c.args.file.now c.args.body.now) _ _ _ _ _ put_body_sure
    (λ count. statement.puts c.args.file.now c.args.body.now (λ id. record { file = c.text.ensures.file_name; body = tt }) _ _ count)
    (search rules) c.run_statement.ensures
