use Rattle.index_sql_writes.proofs.Words.{[], ◌∷◌, rules, Text, put_owner_text}
use Rattle.index_sql_schema.proofs.PutOwner.{puts}
use Rattle.index_sql_writes.proofs.TakenLemmas.{step_of}
use Rattle.index_sql_writes.proofs.SureWrites.{put_owner_sure}
use Rattle.index_sql_writes.proofs.statements.put_owner.Goals as goal

pub returns : goal.returns
returns g c = step_of g.S.Store put_owner_text (Text c.args.name.now ∷ Text c.args.user.now ∷ []) _ _ _ _ _ put_owner_sure
    (λ count. puts c.args.name.now c.args.user.now (λ id. record { name = c.text.ensures.normal; user = c.text-2.ensures.user }) _ _ count)
    (search rules) c.run_statement.ensures
