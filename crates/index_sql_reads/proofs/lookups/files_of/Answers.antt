use Rattle.index_sql_reads.proofs.Words.{◌≡◌, [], ◌∷◌, rules, map, file_rows_in, Text, file_row_shown, IsListedRow, select_files_text}
use Rattle.index_sql_schema.proofs.SelectFiles as statement
use Rattle.index_sql_reads.proofs.FindsLemmas.{fails_query, finds_read}
use Rattle.index_sql_reads.proofs.lookups.files_of.Goals as goal

pub look-requires : goal.look-requires
look-requires g c = record { plain = statement.is_plain }

pub returns-in_err-rows : goal.returns-in_err-rows
returns-in_err-rows g c =
    fails_query g.S.Store select_files_text (Text c.args.name.now ∷ []) _ (search rules) (statement.sure c.args.name.now)
    c.in_err-rows.ensures.looks c.in_err-rows.ensures.reason c.from_residual.ensures.1

pub returns : goal.returns
returns g c =
    let name = c.args.name.now in
    let rows = c.in_ok-rows in
    finds_read g.S.Store select_files_text (Text name ∷ []) _ (search rules) (λ rows. rows.items) (map file_row_shown)
    (λ T rows. rows ≡ file_rows_in T name) (statement.selects name)
    c.args.conn.now c.look.new.conn rows.rows.items _ c.as_slice.ensures.value rows.ensures.looks rows.ensures.index rows.ensures.shown
    c.each.result IsListedRow (λ old new rows index shown known. statement.records name old new rows index shown known.1.1.1.1.0
    known.1.1.1.1.1.1.0) c.each.ensures.value c.each.ensures.complete
