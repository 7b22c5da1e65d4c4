use Rattle.index_sql_writes.proofs.Words.{rules, length, sym, ap, ◌∙◌, flag_number, put_user_text}
use Rattle.index_sql_writes.proofs.PutRecords.{user_put, user_fits}
use Rattle.index_sql_schema.proofs.PutUser as statement
use Rattle.index_sql_writes.proofs.TakenLemmas.{step_of}
use Rattle.index_sql_writes.proofs.SureWrites.{put_user_sure}
use Rattle.index_sql_writes.proofs.statements.put_user.Goals as goal

pub returns : goal.returns
returns g c =
    let fits = user_fits c.args.user.now c.args.account.now c.text.ensures.user
    (ap length (sym c.to_bytes-token.ensures.value) ∙ c.to_bytes-token.ensures.digest.size) in
    step_of g.S.Store put_user_text (statement.cells c.args.user.now (flag_number c.args.account.now.office) c.args.account.now.token)
    _ _ _ _ _ put_user_sure (λ count. user_put c.args.user.now c.args.account.now fits _ _ count) (search rules) c.run_statement.ensures
