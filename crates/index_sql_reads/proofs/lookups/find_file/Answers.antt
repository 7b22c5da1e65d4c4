use Rattle.index_sql_reads.proofs.Words.{◌≡◌, [], ◌∷◌, rules, option_map, slice_get, get, Text}
use Rattle.index_sql_schema.specs.Records.{file_in}
use Rattle.index_sql_schema.specs.RecordRows.{IsFileRow}
use Rattle.index_sql_schema.specs.StatementTexts.{select_file_text}
use Rattle.index_sql_schema.proofs.SelectFile as statement
use Rattle.index_sql_reads.proofs.FindsLemmas.{fails_query, finds_read}
use Rattle.index_sql_reads.proofs.lookups.find_file.Goals as goal

pub look-requires : goal.look-requires
look-requires g c = record { plain = statement.shown.is_plain }

pub returns-in_err-rows : goal.returns-in_err-rows
returns-in_err-rows g c =
    fails_query g.S.Store select_file_text (Text c.args.file.now ∷ []) _ (search rules) (statement.sure c.args.file.now)
    c.in_err-rows.ensures.looks c.in_err-rows.ensures.reason c.from_residual.ensures.1

pub returns : goal.returns
returns g c =
    let file = c.args.file.now in
    let rows = c.in_ok-rows in
    finds_read g.S.Store select_file_text (Text file ∷ []) _ (search rules) (λ it. it) (λ rows. option_map file_in (slice_get rows 0))
    (λ T it. it ≡ get T.files file) (statement.selects file)
    c.args.conn.now c.look.new.conn rows.rows.items _ c.as_slice.ensures.value rows.ensures.looks rows.ensures.index rows.ensures.shown
    c.first.result IsFileRow (λ old new rows index shown known. statement.records file old new rows index shown known.1.1.1.1.0)
    c.first.ensures.value c.first.ensures.complete
