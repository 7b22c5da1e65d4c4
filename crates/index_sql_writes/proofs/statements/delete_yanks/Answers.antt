use Rattle.index_sql_writes.proofs.Words.{[], ◌∷◌, rules, Text, delete_yanks_text}
use Rattle.index_sql_schema.proofs.DeleteYanks.{deletes}
use Rattle.index_sql_writes.proofs.TakenLemmas.{step_of}
use Rattle.index_sql_writes.proofs.SureWrites.{delete_yanks_sure}
use Rattle.index_sql_writes.proofs.statements.delete_yanks.Goals as goal

pub returns : goal.returns
returns g c = step_of g.S.Store delete_yanks_text (Text c.args.name.now ∷ []) _ _ _ _ _ delete_yanks_sure
    (λ count. deletes c.args.name.now _ _ count) (search rules) c.run_statement.ensures
