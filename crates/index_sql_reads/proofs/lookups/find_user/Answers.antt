use Rattle.index_sql_reads.proofs.Words.{◌≡◌, [], ◌∷◌, rules, option_map, slice_get, get, Text}
use Rattle.index_sql_schema.specs.Records.{user_in}
use Rattle.index_sql_schema.specs.RecordRows.{IsUserRow}
use Rattle.index_sql_schema.specs.StatementTexts.{select_user_text}
use Rattle.index_sql_schema.proofs.SelectUser as statement
use Rattle.index_sql_reads.proofs.FindsLemmas.{fails_query, finds_read}
use Rattle.index_sql_reads.proofs.lookups.find_user.Goals as goal

pub look-requires : goal.look-requires
look-requires g c = record { plain = statement.shown.is_plain }

pub returns-in_err-rows : goal.returns-in_err-rows
returns-in_err-rows g c =
    fails_query g.S.Store select_user_text (Text c.args.user.now ∷ []) _ (search rules) (statement.sure c.args.user.now)
    c.in_err-rows.ensures.looks c.in_err-rows.ensures.reason c.from_residual.ensures.1

pub returns : goal.returns
returns g c =
    let user = c.args.user.now in
    let rows = c.in_ok-rows in
    finds_read g.S.Store select_user_text (Text user ∷ []) _ (search rules) (λ it. it) (λ rows. option_map user_in (slice_get rows 0))
    (λ T it. it ≡ get T.users user) (statement.selects user)
    c.args.conn.now c.look.new.conn rows.rows.items _ c.as_slice.ensures.value rows.ensures.looks rows.ensures.index rows.ensures.shown
    c.first.result IsUserRow (λ old new rows index shown known. statement.records user old new rows index shown known.1.0)
    c.first.ensures.value c.first.ensures.complete
