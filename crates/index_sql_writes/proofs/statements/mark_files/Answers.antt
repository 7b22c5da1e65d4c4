use Rattle.index_sql_writes.proofs.Words.{[], ◌∷◌, rules, Text, update_files_text}
use Rattle.index_sql_schema.proofs.UpdateFiles.{updates}
use Rattle.index_sql_writes.proofs.TakenLemmas.{step_of}
use Rattle.index_sql_writes.proofs.SureWrites.{update_files_sure}
use Rattle.index_sql_writes.proofs.statements.mark_files.Goals as goal

pub returns : goal.returns
returns g c = step_of g.S.Store update_files_text (Text c.args.name.now ∷ []) _ _ _ _ _ update_files_sure
    (λ count. updates c.args.name.now _ _ count) (search rules) c.run_statement.ensures
