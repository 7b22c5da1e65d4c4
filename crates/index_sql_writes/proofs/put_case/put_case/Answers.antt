use Rattle.index_sql_writes.proofs.Words.{IsUtf8, rules, subst, refl, put_case_text}
use Rattle.index_sql_writes.specs.Statements.{case_cells, case_numbers}
use Rattle.index_sql_writes.proofs.PutRecords.{case_put, case_fits}
use Rattle.index_sql_writes.proofs.TakenLemmas.{fitting, step_of, too_much}
use Rattle.index_sql_writes.proofs.SureWrites.{put_case_sure}
use Rattle.index_sql_writes.proofs.put_case.put_case.Goals as goal

pub returns-in_err-numbers : goal.returns-in_err-numbers
returns-in_err-numbers g c = too_much g.S.Store _ (case_numbers c.args.case.now)
    _ _ _ _ c.from_residual.ensures.1 c.in_err-numbers.ensures.too_much.1

pub returns : goal.returns
returns g c =
    let name = c.args.name.now in
    let case = c.args.case.now in
    let contact = subst IsUtf8 c.as_str.ensures c.as_str.utf8 in
    let work = subst IsUtf8 c.as_str-2.ensures c.as_str-2.utf8 in
    let why = subst IsUtf8 c.as_str-3.ensures c.as_str-3.utf8 in
    let fits = case_fits name case c.text.ensures.normal c.text-2.ensures.user contact work why c.in_ok-numbers.ensures.tally in
    fitting g.S.Store _ (case_numbers case) put_case_text (case_cells name case) (case_cells name case) _ _ _ refl
    (step_of g.S.Store put_case_text (case_cells name case) _ _ _ _ _ put_case_sure (λ count. case_put name case fits _ _ count)
    (search rules) c.run_statement.ensures)
