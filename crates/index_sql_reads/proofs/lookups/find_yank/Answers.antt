use Rattle.index_sql_reads.proofs.Words.{◌≡◌, [], ◌∷◌, rules, option_map, slice_get, Text}
use Rattle.index_rules.specs.Facts.{yank_in}
use Rattle.index_sql_schema.specs.Records.{reason_in}
use Rattle.index_sql_schema.specs.RecordRows.{IsYankRow}
use Rattle.index_sql_schema.specs.StatementTexts.{select_yank_text}
use Rattle.index_sql_schema.proofs.SelectYank as statement
use Rattle.index_sql_reads.proofs.FindsLemmas.{fails_query, finds_read}
use Rattle.index_sql_reads.proofs.lookups.find_yank.Goals as goal

pub look-requires : goal.look-requires
look-requires g c = record { plain = statement.shown.is_plain }

pub returns-in_err-rows : goal.returns-in_err-rows
returns-in_err-rows g c =
    fails_query g.S.Store select_yank_text (Text c.args.name.now ∷ Text c.args.release.now ∷ []) _ (search rules)
    (statement.sure c.args.name.now c.args.release.now)
    c.in_err-rows.ensures.looks c.in_err-rows.ensures.reason c.from_residual.ensures.1

pub returns : goal.returns
returns g c =
    let name = c.args.name.now in
    let release = c.args.release.now in
    let rows = c.in_ok-rows in
    finds_read g.S.Store select_yank_text (Text name ∷ Text release ∷ []) _ (search rules) (λ it. it)
    (λ rows. option_map reason_in (slice_get rows 0)) (λ T it. it ≡ yank_in T name release) (statement.selects name release)
    c.args.conn.now c.look.new.conn rows.rows.items _ c.as_slice.ensures.value rows.ensures.looks rows.ensures.index rows.ensures.shown
    c.first.result IsYankRow (λ old new rows index shown known. statement.records name release old new rows index shown known.1.1.1.1.1.1.0)
    c.first.ensures.value c.first.ensures.complete
