use Rattle.index_sql_opening.proofs.Words.{first_version_schema, bans_text}
use Rattle.index_sql_opening.proofs.MigrationLemmas.{bans_made, bans_sure}
use Rattle.index_sql_opening.proofs.NewAskLemmas.{text_taken}
use Rattle.index_sql_opening.proofs.migration.make_bans.Goals as goal

pub returns : goal.returns
returns g c = text_taken g.S.Store _ _ first_version_schema bans_text _ _ _ bans_sure (λ b. (b.is_open, b.inside, b.first.schema))
    (λ count b ran. bans_made _ _ count b ran) c.run_statement.ensures
