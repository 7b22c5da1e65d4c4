use Rattle.index_sql_writes.proofs.Words.{IsUtf8, subst, ◌∙◌, project_numbers}
use Rattle.index_sql_writes.proofs.PutRecords.{held_fits}
use Rattle.index_sql_writes.proofs.TakenLemmas.{held_step, too_much}
use Rattle.index_sql_writes.proofs.statements.hold_name.Goals as goal

pub put_name-requires : goal.put_name-requires
put_name-requires g c id =
    let shown = c.as_str.ensures ∙ c.shown.ensures in
    rw (shown, c.in_ok-numbers.ensures.numbers)
    (held_fits c.args.name.now c.args.project.now (subst IsUtf8 shown c.as_str.utf8) c.in_ok-numbers.ensures.fit id)

pub returns-in_err-numbers : goal.returns-in_err-numbers
returns-in_err-numbers g c = too_much g.S.Store _ (project_numbers c.args.project.now)
    _ _ _ _ c.from_residual.ensures.1 c.in_err-numbers.ensures.too_much.1

pub returns : goal.returns
returns g c = held_step g.S.Store c.args.name.now c.args.project.now _ _ (c.as_str.ensures ∙ c.shown.ensures)
    c.in_ok-numbers.ensures.numbers _ _ _ c.put_name.ensures
