use Rattle.index_sql_opening.proofs.Words.{[], ◌∷◌, pos, refl, rules, Int, index_schema, put_version_text, makes}
use Rattle.index_sql_schema.proofs.PutVersion.{puts}
use Rattle.index_sql_opening.proofs.NewAskLemmas.{taken}
use Rattle.index_sql_opening.proofs.SureTexts.{version_sure}
use Rattle.index_sql_opening.proofs.new_index.put_version.Goals as goal

pub returns : goal.returns
returns g c =
    taken g.S.Store _ _ index_schema put_version_text (Int (pos c.args.version) ∷ []) _ _ _ _ version_sure
    (λ b. (b.is_open, b.inside, b.index.schema))
    (λ count b ran. makes put_version_text (Int (pos c.args.version) ∷ []) _ _ _ _ _ count (puts c.args.version _ _ _) b ran refl)
    (search rules) c.run_statement.ensures
