use Rattle.index_sql_reads.proofs.Words.{◌≡◌, [], ◌∷◌, rules, map, ◌∙◌, Text}
use Rattle.index_rules.specs.Tables.{owners_in}
use Rattle.index_sql_schema.specs.ShownRows.{user_shown}
use Rattle.index_sql_schema.specs.RecordRows.{IsOwnerRow}
use Rattle.index_sql_schema.specs.StatementTexts.{select_owners_text}
use Rattle.index_sql_schema.proofs.SelectOwners as statement
use Rattle.index_sql_reads.proofs.FindsLemmas.{fails_query, fails_read, finds_told}
use Rattle.index_sql_reads.proofs.lookups.owners_of.Goals as goal

pub look-requires : goal.look-requires
look-requires g c = record { plain = statement.is_plain }

pub returns-in_err-rows : goal.returns-in_err-rows
returns-in_err-rows g c =
    fails_query g.S.Store select_owners_text (Text c.args.name.now ∷ []) _ (search rules) (statement.sure c.args.name.now)
    c.in_err-rows.ensures.looks c.in_err-rows.ensures.reason c.from_residual.ensures.1

pub returns-in_err-each : goal.returns-in_err-each
returns-in_err-each g c =
    let name = c.args.name.now in
    let rows = c.in_ok-rows in
    fails_read g.S.Store select_owners_text (Text name ∷ []) _ (search rules) (λ it. it) (map user_shown)
    (λ T owners. owners ≡ owners_in T name) (statement.selects name)
    c.args.conn.now c.look.new.conn rows.rows.items _ c.as_slice.ensures.value rows.ensures.looks rows.ensures.index rows.ensures.shown
    IsOwnerRow (λ old new rows index shown known. statement.records name old new rows index shown known.1.1.1.0)
    c.in_err-each.ensures.complete c.from_residual-in_err-each.ensures.1

pub returns : goal.returns
returns g c =
    let name = c.args.name.now in
    let rows = c.in_ok-rows in
    finds_told g.S.Store select_owners_text (Text name ∷ []) _ (search rules) (λ it. it) (map user_shown)
    (λ T owners. owners ≡ owners_in T name) (statement.selects name)
    c.args.conn.now c.look.new.conn rows.rows.items _ c.as_slice.ensures.value rows.ensures.looks rows.ensures.index rows.ensures.shown
    c.new.result (c.new.ensures ∙ c.in_ok-each.ensures.value)
