use Rattle.index_sql_opening.proofs.Words.{[], ◌∷◌, ◌∙◌, without_bans, same_meta, update_version_text, bans_text, MakesInTransaction}
use Rattle.index_sql_opening.proofs.Words.{makes_then, exits, steps_then, text_ask}
use Rattle.index_sql_schema.specs.Index.{raised}
use Rattle.index_sql_opening.proofs.migration.migrate_tables.Goals as goal

pub returns-in_err-make_bans : goal.returns-in_err-make_bans
returns-in_err-make_bans g c = exits g.S.Store (text_ask bans_text ∷ []) (text_ask update_version_text ∷ [])
    _ _ _ c.from_residual.ensures.1 c.in_err-make_bans.ensures

pub returns : goal.returns
returns g c =
    steps_then g.S.Store (text_ask bans_text ∷ []) (MakesInTransaction without_bans raised) (text_ask update_version_text ∷ [])
    (λ can. can.0) (λ did. did.ready) (λ can did limit. (did.ready, limit ∙ can.1))
    (λ did more. makes_then without_bans (λ T. T) same_meta raised _ _ _ did more) c.in_ok-make_bans.ensures _ c.raise_version.ensures
