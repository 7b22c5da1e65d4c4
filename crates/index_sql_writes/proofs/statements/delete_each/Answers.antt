use Rattle.index_sql_writes.proofs.Words.{◌≡◌, inl, inr, Err, refl, sym, ◌∷◌, drop, ◌+◌, rules, arith, subst, drop-cons, state, Row}
use Rattle.index_sql_writes.proofs.Words.{meta_in, on_store, tables_in, AreRecords, file_shown, IsInTransaction, deletes_body}
use Rattle.index_sql_writes.proofs.Words.{deletes_shown, same_meta, CanAskFor, MakesInTransaction, ManyStepsMakeChange, AllByRecursion}
use Rattle.index_sql_writes.proofs.Words.{HasCleanDisk, RowShowsFileName, SqlDeletesBodies}
use Rattle.index_sql_writes.proofs.TakenLemmas.{at_exit, uncommitted_none, uncommitted_then}
use Rattle.index_sql_writes.proofs.InTurn.{one_more}
use Rattle.index_sql_writes.proofs.GoingLemmas.{can_go_on, fault_since}
use Rattle.index_sql_writes.proofs.statements.delete_each.Goals as goal

pub loop-row-init : goal.loop-row-init
loop-row-init g c = record {
  uncommitted = uncommitted_none g.S.Store c.args.tx.now.conn;
  made = search rules;
  asked = search rules;
  shows = search rules;
}

pub loop-row-preserved : goal.loop-row-preserved
loop-row-preserved g c =
    let first = state g.S.Store c.args.tx.now.conn.now in
    let mid = state g.S.Store c.loop-row.tx.conn.now in
    let last = state g.S.Store c.delete_shown.new.tx.conn.now in
    let rest = drop (c.loop-row.row-index + 1) c.args.rows.now in
    let split : drop c.loop-row.row-index c.args.rows.now ≡ c.row-item.result ∷ rest = search (rules, drop-cons) in
    let before = c.loop-row.invariant in
    let did = c.delete_shown.ensures in
    record {
      uncommitted = uncommitted_then g.S.Store c.args.tx.now.conn c.loop-row.tx.conn c.delete_shown.new.tx.conn before.uncommitted
          did.uncommitted;
      made = λ clean ready.
          let was = before.made (omega (arith, did.uncommitted.survives.clean)) ready in
          one_more (λ (r : Row). deletes_body (file_shown r)) deletes_shown first mid last c.row-item.result rest c.args.rows.now
          (subst (λ rest. IsInTransaction mid
          × (deletes_shown rest (tables_in mid.now.trees) ≡ deletes_shown c.args.rows.now (tables_in first.now.trees))
          × (mid.committed ≡ first.committed) × (meta_in mid.now.trees ≡ meta_in first.now.trees)
          × (AreRecords first.now → AreRecords mid.now)) split was) (c.in_ok-delete_shown.ensures.made clean was.0);
      asked = λ clean can out more.
          let earlier : HasCleanDisk mid = omega (arith, did.uncommitted.survives.clean) in
          let was = before.made earlier can.can.ready in
          let going = can_go_on first mid can.can was.0 was.4 before.uncommitted.survives.limit in
          let row = (subst (AllByRecursion RowShowsFileName) split (before.shows can.shown)).0 in
          before.asked earlier can out (subst (λ l. SqlDeletesBodies l mid.now out) (sym split)
          (inr (last.now, c.in_ok-delete_shown.ensures.asked clean (record { can = going; shown = (row, tt) }), more)));
      shows = λ all.
          (subst (AllByRecursion RowShowsFileName) split (before.shows all)).1;
    }

pub returns-in_err-delete_shown : goal.returns-in_err-delete_shown
returns-in_err-delete_shown g c =
    let first = state g.S.Store c.args.tx.now.conn.now in
    let mid = state g.S.Store c.loop-row.tx.conn.now in
    let last = state g.S.Store c.delete_shown.new.tx.conn.now in
    let rows = c.args.rows.now in
    let rest = drop (c.loop-row.row-index + 1) rows in
    let split : drop c.loop-row.row-index rows ≡ c.row-item.result ∷ rest = search (rules, drop-cons) in
    let before = c.loop-row.invariant in
    let did = c.delete_shown.ensures in
    at_exit c.from_residual.result c.in_err-delete_shown.field-0.0
    (ManyStepsMakeChange IsInTransaction (MakesInTransaction (deletes_shown rows) same_meta) (CanAskFor rows) (SqlDeletesBodies rows)
    (on_store g.S.Store c.args.tx.now c.delete_shown.new.tx)) c.from_residual.ensures.1 (record {
      uncommitted = uncommitted_then g.S.Store c.args.tx.now.conn c.loop-row.tx.conn c.delete_shown.new.tx.conn before.uncommitted
          did.uncommitted;
      made = λ clean. tt;
      asked = λ clean can store.
          let earlier : HasCleanDisk mid = omega (arith, did.uncommitted.survives.clean) in
          let was = before.made earlier can.can.ready in
          let going = can_go_on first mid can.can was.0 was.4 before.uncommitted.survives.limit in
          let row = (subst (AllByRecursion RowShowsFileName) split (before.shows can.shown)).0 in
          elim (c.in_err-delete_shown.ensures.asked clean (record { can = going; shown = (row, tt) }) store) [
            | inl fault ↦ inl (fault_since first mid last before.uncommitted.survives.counts fault)
            | inr refuses ↦ inr (
              refuses.0,
              before.asked earlier can (Err refuses.0)
                  (subst (λ l. SqlDeletesBodies l mid.now (Err refuses.0)) (sym split) (inl (refuses.0, refuses.1, refl))),
            )
          ];
    })
