use Rattle.index_sql_writes.proofs.Words.{arith, rules, sym, subst, state, HasCleanDisk, same_meta, on_store, tables_in, AreFilesOf}
use Rattle.index_sql_writes.proofs.Words.{deletes_bodies, deletes_shown, StepMakesChange}
use Rattle.index_sql_writes.specs.Statements.{delete_bodies_ask}
use Rattle.index_sql_writes.proofs.TakenLemmas.{at_exit, uncommitted_then}
use Rattle.index_sql_writes.proofs.BodyLemmas.{bodies_gone}
use Rattle.index_sql_writes.proofs.InTurn.{makes_then}
use Rattle.index_sql_writes.proofs.QueryLemmas.{makes_as}
use Rattle.index_sql_writes.proofs.statements.delete_bodies.Goals as goal

pub returns : goal.returns
returns g c =
    let conn = c.args.tx.now.conn in
    let first = state g.S.Store conn.now in
    let mid = state g.S.Store c.files_named.new.tx.conn.now in
    let last = state g.S.Store c.delete_each.new.tx.conn.now in
    let name = c.args.name.now in
    let rows = c.as_slice.result.now in
    record {
      uncommitted = uncommitted_then g.S.Store conn c.files_named.new.tx.conn c.delete_each.new.tx.conn
          c.files_named.ensures.looked.uncommitted c.delete_each.ensures.uncommitted;
      made = λ clean ready.
          let before : HasCleanDisk mid = omega (arith, c.delete_each.ensures.uncommitted.survives.clean) in
          let asked = c.in_ok-rows.ensures.looked.made before ready in
          let files = subst (AreFilesOf name (tables_in first.now.trees)) (sym c.as_slice.ensures.value)
          ((c.in_ok-rows.ensures.files before).files ready) in
          let gone = c.in_ok-delete_each.ensures.made clean asked.ready in
          makes_as (deletes_shown rows) (deletes_bodies name) first last (bodies_gone name (tables_in first.now.trees) rows files)
          (makes_then (λ T. T) (deletes_shown rows) same_meta same_meta first mid last asked gone);
      opened = search rules;
      asked = search rules;
    }

pub returns-in_err-rows : goal.returns-in_err-rows
returns-in_err-rows g c =
    let name = c.args.name.now in
    at_exit c.from_residual.result c.in_err-rows.field-0.0
    (StepMakesChange (deletes_bodies name) (delete_bodies_ask name) (on_store g.S.Store c.args.tx.now c.files_named.new.tx))
    c.from_residual.ensures.1
    (record { uncommitted = c.files_named.ensures.looked.uncommitted; made = λ clean. tt; opened = λ clean. tt; asked = search rules })

pub returns-in_err-delete_each : goal.returns-in_err-delete_each
returns-in_err-delete_each g c =
    let name = c.args.name.now in
    let conn = c.args.tx.now.conn in
    at_exit c.from_residual-in_err-delete_each.result c.in_err-delete_each.field-0.0
    (StepMakesChange (deletes_bodies name) (delete_bodies_ask name) (on_store g.S.Store c.args.tx.now c.delete_each.new.tx))
    c.from_residual-in_err-delete_each.ensures.1 (record {
      uncommitted = uncommitted_then g.S.Store conn c.files_named.new.tx.conn c.delete_each.new.tx.conn
          c.files_named.ensures.looked.uncommitted c.delete_each.ensures.uncommitted;
      made = λ clean. tt;
      opened = λ clean. tt;
      asked = search rules;
    })
