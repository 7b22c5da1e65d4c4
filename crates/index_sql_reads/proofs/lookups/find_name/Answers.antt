use Rattle.index_sql_reads.proofs.Words.{◌≡◌, [], ◌∷◌, rules, option_map, slice_get, get, Text}
use Rattle.index_sql_schema.specs.Records.{name_in}
use Rattle.index_sql_schema.specs.RecordRows.{IsNameRow}
use Rattle.index_sql_schema.specs.StatementTexts.{select_name_text}
use Rattle.index_sql_schema.proofs.SelectName as statement
use Rattle.index_sql_reads.proofs.FindsLemmas.{fails_query, finds_read}
use Rattle.index_sql_reads.proofs.lookups.find_name.Goals as goal

pub look-requires : goal.look-requires
look-requires g c = record { plain = statement.shown.is_plain }

pub returns-in_err-rows : goal.returns-in_err-rows
returns-in_err-rows g c =
    fails_query g.S.Store select_name_text (Text c.args.name.now ∷ []) _ (search rules) (statement.sure c.args.name.now)
    c.in_err-rows.ensures.looks c.in_err-rows.ensures.reason c.from_residual.ensures.1

pub returns : goal.returns
returns g c =
    let name = c.args.name.now in
    let rows = c.in_ok-rows in
    finds_read g.S.Store select_name_text (Text name ∷ []) _ (search rules) (λ it. it) (λ rows. option_map name_in (slice_get rows 0))
    (λ T it. it ≡ get T.names name) (statement.selects name)
    c.args.conn.now c.look.new.conn rows.rows.items _ c.as_slice.ensures.value rows.ensures.looks rows.ensures.index rows.ensures.shown
    c.first.result IsNameRow (λ old new rows index shown known. statement.records name old new rows index shown known.1.1.0)
    c.first.ensures.value c.first.ensures.complete
