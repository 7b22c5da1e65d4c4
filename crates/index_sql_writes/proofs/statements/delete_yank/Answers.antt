use Rattle.index_sql_writes.proofs.Words.{[], ◌∷◌, rules, Text, delete_yank_text}
use Rattle.index_sql_schema.proofs.DeleteYank.{deletes}
use Rattle.index_sql_writes.proofs.TakenLemmas.{step_of}
use Rattle.index_sql_writes.proofs.SureWrites.{delete_yank_sure}
use Rattle.index_sql_writes.proofs.statements.delete_yank.Goals as goal

pub returns : goal.returns
returns g c = step_of g.S.Store delete_yank_text (Text c.args.name.now ∷ Text c.args.release.now ∷ []) _ _ _ _ _ delete_yank_sure
    (λ count. deletes c.args.name.now c.args.release.now _ _ count) (search rules) c.run_statement.ensures
