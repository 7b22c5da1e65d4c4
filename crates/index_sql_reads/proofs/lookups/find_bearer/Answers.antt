use Rattle.index_sql_reads.proofs.Words.{[], ◌∷◌, rules, option_map, slice_get}
use Rattle.index_rules.specs.Facts.{IsBearer}
use Rattle.sqlite_value.specs.declared.value.Value.TheVariants.{Blob}
use Rattle.index_sql_schema.specs.ShownRows.{account_in}
use Rattle.index_sql_schema.specs.RecordRows.{IsAccountRow}
use Rattle.index_sql_schema.specs.StatementTexts.{select_bearer_text}
use Rattle.index_sql_schema.proofs.SelectBearer as statement
use Rattle.index_sql_reads.proofs.FindsLemmas.{fails_query, finds_read}
use Rattle.index_sql_reads.proofs.lookups.find_bearer.Goals as goal

pub look-requires : goal.look-requires
look-requires g c = record { plain = statement.shown.is_plain }

pub returns-in_err-rows : goal.returns-in_err-rows
returns-in_err-rows g c =
    fails_query g.S.Store select_bearer_text (Blob c.args.token ∷ []) _ (search rules) (statement.sure c.args.token)
    c.in_err-rows.ensures.looks c.in_err-rows.ensures.reason c.from_residual.ensures.1

pub returns : goal.returns
returns g c =
    let token = c.args.token in
    let rows = c.in_ok-rows in
    finds_read g.S.Store select_bearer_text (Blob token ∷ []) _ (search rules) (λ it. it) (λ rows. option_map account_in (slice_get rows 0))
    (λ T. IsBearer T token) (statement.selects token)
    c.args.conn.now c.look.new.conn rows.rows.items _ c.as_slice-2.ensures.value rows.ensures.looks rows.ensures.index rows.ensures.shown
    c.first.result IsAccountRow (λ old new rows index shown known. statement.records token old new rows index shown known.1.0)
    c.first.ensures.value c.first.ensures.complete
