use Rattle.index_sql_writes.proofs.Words.{[], ◌∷◌, rules, Text, put_yank_text}
use Rattle.index_sql_schema.proofs.PutYank.{puts}
use Rattle.index_sql_writes.proofs.TakenLemmas.{step_of}
use Rattle.index_sql_writes.proofs.SureWrites.{put_yank_sure}
use Rattle.index_sql_writes.proofs.statements.put_yank.Goals as goal

pub returns : goal.returns
returns g c = step_of g.S.Store put_yank_text (Text c.args.name.now ∷ Text c.args.release.now ∷ Text c.args.reason.now ∷ [])
    _ _ _ _ _ put_yank_sure (λ count. puts c.args.name.now c.args.release.now c.args.reason.now
    (λ id. record { name = c.text.ensures.normal; release = c.text-2.ensures.release; reason = c.utf8.reason }) _ _ count) (search rules)
    c.run_statement.ensures
