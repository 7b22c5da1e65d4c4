use Rattle.index_sql_reads.proofs.Words.{◌≡◌, [], ◌∷◌, rules, is_some, slice_get, sym, ap, ◌∙◌, Text}
use Rattle.index_rules.specs.Facts.{is_banned_in}
use Rattle.index_sql_schema.specs.Records.{nothing_in}
use Rattle.index_sql_schema.specs.StatementTexts.{select_ban_text}
use Rattle.index_sql_schema.proofs.SelectBan as statement
use Rattle.index_sql_reads.proofs.FindsLemmas.{fails_query, finds_told, is_some-map}
use Rattle.index_sql_reads.proofs.lookups.is_banned.Goals as goal

pub look-requires : goal.look-requires
look-requires g c = record { plain = statement.shown.is_plain }

pub returns-in_err-rows : goal.returns-in_err-rows
returns-in_err-rows g c =
    fails_query g.S.Store select_ban_text (Text c.args.file.now ∷ []) _ (search rules) (statement.sure c.args.file.now)
    c.in_err-rows.ensures.looks c.in_err-rows.ensures.reason c.from_residual.ensures.1

pub returns : goal.returns
returns g c =
    let file = c.args.file.now in
    let rows = c.in_ok-rows in
    finds_told g.S.Store select_ban_text (Text file ∷ []) _ (search rules) (λ it. it) (λ rows. is_some (slice_get rows 0))
    (λ T it. it ≡ is_banned_in T file)
    (λ old new rows index shown. sym (is_some-map nothing_in (slice_get rows 0))
    ∙ ap is_some (statement.selects file old new rows index shown))
    c.args.conn.now c.look.new.conn rows.rows.items _ c.as_slice.ensures.value rows.ensures.looks rows.ensures.index rows.ensures.shown
    c.has_row.result c.has_row.ensures
