use Rattle.index_sql_writes.proofs.Words.{[], ◌∷◌, rules, Text, put_ban_text}
use Rattle.index_sql_schema.proofs.PutBan.{puts}
use Rattle.index_sql_writes.proofs.TakenLemmas.{step_of}
use Rattle.index_sql_writes.proofs.SureWrites.{put_ban_sure}
use Rattle.index_sql_writes.proofs.statements.put_ban.Goals as goal

pub returns : goal.returns
returns g c = step_of g.S.Store put_ban_text (Text c.args.file.now ∷ []) _ _ _ _ _ put_ban_sure
    (λ count. puts c.args.file.now (λ id. c.text.ensures.file_name) _ _ count) (search rules) c.run_statement.ensures
