use Rattle.index_sql_reads.proofs.Words.{◌≡◌, [], rules, map, name_row_in, IsNamedRow}
use Rattle.index_rules.specs.TableRows.{name_rows_in}
use Rattle.index_sql_schema.specs.StatementTexts.{select_names_text}
use Rattle.index_sql_schema.proofs.SelectNames as statement
use Rattle.index_sql_reads.proofs.FindsLemmas.{fails_query, finds_read}
use Rattle.index_sql_reads.proofs.lookups.names.Goals as goal

pub look-requires : goal.look-requires
look-requires g c = record { plain = statement.all_shown.is_plain }

pub returns-in_err-rows : goal.returns-in_err-rows
returns-in_err-rows g c =
    fails_query g.S.Store select_names_text [] _ (search rules)
    statement.sure c.in_err-rows.ensures.looks c.in_err-rows.ensures.reason c.from_residual.ensures.1

pub returns : goal.returns
returns g c =
    let rows = c.in_ok-rows in
    finds_read g.S.Store select_names_text [] _ (search rules) (λ rows. rows.items) (map name_row_in) (λ T rows. rows ≡ name_rows_in T)
    statement.selects_names
    c.args.conn.now c.look.new.conn rows.rows.items _ c.as_slice.ensures.value rows.ensures.looks rows.ensures.index rows.ensures.shown
    c.each.result IsNamedRow (λ old new rows index shown known. statement.records old new rows index shown known.1.1.0)
    c.each.ensures.value c.each.ensures.complete
