use Rattle.index_sql_writes.proofs.Words.{[], ◌∷◌, rules, Text, delete_owner_text}
use Rattle.index_sql_schema.proofs.DeleteOwner.{deletes}
use Rattle.index_sql_writes.proofs.TakenLemmas.{step_of}
use Rattle.index_sql_writes.proofs.SureWrites.{delete_owner_sure}
use Rattle.index_sql_writes.proofs.statements.delete_owner.Goals as goal

pub returns : goal.returns
returns g c = step_of g.S.Store delete_owner_text (Text c.args.name.now ∷ Text c.args.user.now ∷ []) _ _ _ _ _ delete_owner_sure
    (λ count. deletes c.args.name.now c.args.user.now _ _ count) (search rules) c.run_statement.ensures
