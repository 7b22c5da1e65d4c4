use Rattle.index_sql_reads.proofs.Words.{◌≡◌, [], ◌∷◌, rules, option_map, slice_get, get, Text, state, shown_open}
use Rattle.index_sql_schema.specs.Records.{body_in}
use Rattle.index_sql_schema.specs.RecordRows.{IsBodyRow}
use Rattle.index_sql_schema.specs.StatementTexts.{select_body_text}
use Rattle.index_sql_schema.proofs.SelectBody as statement
use Rattle.index_sql_reads.proofs.FindsLemmas.{fails_query, finds_read, on_ok}
use Rattle.index_sql_reads.proofs.body.find_bytes.Goals as goal

pub look-requires : goal.look-requires
look-requires g c = record { plain = statement.shown.is_plain }

pub returns-in_err-rows-clause-finds : goal.returns-in_err-rows-clause-finds
returns-in_err-rows-clause-finds g c =
    fails_query g.S.Store select_body_text (Text c.args.file.now ∷ []) _ (search rules) (statement.sure c.args.file.now)
    c.in_err-rows.ensures.looks c.in_err-rows.ensures.reason c.from_residual.ensures.1

pub returns-clause-finds : goal.returns-clause-finds
returns-clause-finds g c =
    let file = c.args.file.now in
    let rows = c.in_ok-rows in
    finds_read g.S.Store select_body_text (Text file ∷ []) _ (search rules) (option_map (λ bytes. bytes.items))
    (λ rows. option_map body_in (slice_get rows 0)) (λ T it. it ≡ get T.bodies file) (statement.selects file)
    c.args.conn.now c.look.new.conn rows.rows.items _ c.as_slice.ensures.value rows.ensures.looks rows.ensures.index rows.ensures.shown
    c.first_body.result IsBodyRow (λ old new rows index shown known. statement.records file old new rows index shown known.1.1.1.1.1.0)
    c.first_body.ensures.value c.first_body.ensures.complete

pub returns-clause-opened : goal.returns-clause-opened
returns-clause-opened g c =
    on_ok c.first_body.result (λ clean. (shown_open (state g.S.Store c.args.conn.now) (state g.S.Store c.look.new.conn) _ _ _
    (c.in_ok-rows.ensures.shown clean)).1)
