use Rattle.index_sql_writes.proofs.Words.{rules, put_name_text}
use Rattle.index_sql_schema.proofs.PutName as statement
use Rattle.index_sql_writes.proofs.TakenLemmas.{step_of}
use Rattle.index_sql_writes.proofs.SureWrites.{put_name_sure}
use Rattle.index_sql_writes.proofs.statements.put_name.Goals as goal

pub returns : goal.returns
returns g c =
    let name = c.args.name.now in
    let shown = c.args.shown.now in
    let it = c.args.numbers in
    step_of g.S.Store put_name_text (statement.cells name it.state shown it.quota it.charge it.undeleted it.last_upload)
    _ _ _ _ _ put_name_sure
    (λ count. statement.puts name it.state shown it.quota it.charge it.undeleted it.last_upload
    (λ id. record { name = c.text.ensures.normal; found = c.requires id }) _ _ count) (search rules) c.run_statement.ensures
