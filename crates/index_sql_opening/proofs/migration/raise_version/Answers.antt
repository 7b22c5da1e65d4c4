use Rattle.index_sql_opening.proofs.Words.{[], refl, index_schema, update_version_text, makes}
use Rattle.index_sql_schema.proofs.UpdateVersion.{updates}
use Rattle.index_sql_opening.proofs.MigrationLemmas.{version_sure}
use Rattle.index_sql_opening.proofs.NewAskLemmas.{text_taken}
use Rattle.index_sql_opening.proofs.migration.raise_version.Goals as goal

pub returns : goal.returns
returns g c =
    text_taken g.S.Store _ _ index_schema update_version_text _ _ _ version_sure (λ b. (b.is_open, b.inside, b.index.schema))
    (λ count b ran. makes update_version_text [] _ _ _ _ _ count (updates _ _ _) b ran refl) c.run_statement.ensures
