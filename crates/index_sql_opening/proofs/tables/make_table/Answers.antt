use Rattle.index_sql_opening.proofs.Words.{stage}
use Rattle.index_sql_schema.proofs.CreateLemmas.{stage_step}
use Rattle.index_sql_opening.proofs.NewAskLemmas.{text_taken}
use Rattle.index_sql_opening.proofs.SureTexts.{table_sure}
use Rattle.index_sql_opening.proofs.tables.make_table.Goals as goal

pub returns : goal.returns
returns g c = record {
  uncommitted = c.run_statement.ensures.uncommitted;
  made = λ n is.
      text_taken g.S.Store _ _ (stage n) c.args.sql.now _ _ _ (table_sure n c.args.sql.now is) (λ b. (b.is_open, b.inside, b.schema))
      (λ count b ran. stage_step n c.args.sql.now is _ _ count b ran) c.run_statement.ensures;
}
