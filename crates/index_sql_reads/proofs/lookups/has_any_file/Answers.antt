use Rattle.index_sql_reads.proofs.Words.{◌≡◌, [], ◌∷◌, rules, is_some, slice_get, Text, has_release_in}
use Rattle.index_sql_schema.specs.StatementTexts.{select_release_text}
use Rattle.index_sql_schema.proofs.SelectRelease as statement
use Rattle.index_sql_reads.proofs.FindsLemmas.{fails_query, finds_told}
use Rattle.index_sql_reads.proofs.lookups.has_any_file.Goals as goal

pub look-requires : goal.look-requires
look-requires g c = record { plain = statement.is_plain }

pub returns-in_err-rows : goal.returns-in_err-rows
returns-in_err-rows g c =
    fails_query g.S.Store select_release_text (Text c.args.name.now ∷ Text c.args.release.now ∷ []) _ (search rules)
    (statement.sure c.args.name.now c.args.release.now)
    c.in_err-rows.ensures.looks c.in_err-rows.ensures.reason c.from_residual.ensures.1

pub returns : goal.returns
returns g c =
    let name = c.args.name.now in
    let release = c.args.release.now in
    let rows = c.in_ok-rows in
    finds_told g.S.Store select_release_text (Text name ∷ Text release ∷ []) _ (search rules) (λ it. it)
    (λ rows. is_some (slice_get rows 0)) (λ T it. it ≡ has_release_in T name release) (statement.selects name release)
    c.args.conn.now c.look.new.conn rows.rows.items _ c.as_slice.ensures.value rows.ensures.looks rows.ensures.index rows.ensures.shown
    c.has_row.result c.has_row.ensures
