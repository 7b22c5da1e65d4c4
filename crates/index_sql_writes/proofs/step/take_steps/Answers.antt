use Rattle.index_sql_writes.proofs.Words.{◌≡◌, inl, inr, Err, refl, sym, ◌∷◌, drop, ◌+◌, rules, arith, subst, drop-cons, state, all_of}
use Rattle.index_sql_writes.proofs.Words.{meta_in, on_store, tables_in, AreRecords, IsInTransaction, same_meta, CanAsk, MakesInTransaction}
use Rattle.index_sql_writes.proofs.Words.{ManyStepsMakeChange, HasCleanDisk, SqlAnswersEachAsk, asks_by}
use Rattle.index_sql_writes.specs.Changed.{step_by}
use Rattle.index_sql_writes.proofs.TakenLemmas.{at_exit, uncommitted_none, uncommitted_then}
use Rattle.index_sql_writes.proofs.InTurn.{one_more}
use Rattle.index_sql_writes.proofs.GoingLemmas.{can_go_on, fault_since}
use Rattle.index_sql_writes.proofs.step.take_steps.Goals as goal

pub loop-step-init : goal.loop-step-init
loop-step-init g c = record {
  uncommitted = uncommitted_none g.S.Store c.args.tx.now.conn;
  made = search rules;
  opened = search rules;
  asked = search rules;
}

pub loop-step-preserved : goal.loop-step-preserved
loop-step-preserved g c =
    let first = state g.S.Store c.args.tx.now.conn.now in
    let mid = state g.S.Store c.loop-step.tx.conn.now in
    let last = state g.S.Store c.take_step.new.tx.conn.now in
    let rest = drop (c.loop-step.step-index + 1) c.args.steps.now in
    let split : drop c.loop-step.step-index c.args.steps.now ≡ c.step-item.result ∷ rest = search (rules, drop-cons) in
    let before = c.loop-step.invariant in
    let did = c.take_step.ensures in
    record {
      uncommitted = uncommitted_then g.S.Store c.args.tx.now.conn c.loop-step.tx.conn c.take_step.new.tx.conn before.uncommitted
          did.uncommitted;
      made = λ clean ready.
          let was = before.made (omega (arith, did.uncommitted.survives.clean)) ready in
          one_more step_by all_of first mid last c.step-item.result rest c.args.steps.now
          (subst (λ rest. IsInTransaction mid
          × (all_of rest (tables_in mid.now.trees) ≡ all_of c.args.steps.now (tables_in first.now.trees))
          × (mid.committed ≡ first.committed) × (meta_in mid.now.trees ≡ meta_in first.now.trees)
          × (AreRecords first.now → AreRecords mid.now)) split was) (c.in_ok-take_step.ensures.made clean was.0);
      opened = λ some clean. (before.uncommitted.kept (omega (arith, did.uncommitted.survives.clean))).was_open
          (c.in_ok-take_step.ensures.opened clean);
      asked = λ clean can out more.
          let earlier : HasCleanDisk mid = omega (arith, did.uncommitted.survives.clean) in
          let was = before.made earlier can.ready in
          let going = can_go_on first mid can was.0 was.4 before.uncommitted.survives.limit in
          before.asked earlier can out (subst (λ l. SqlAnswersEachAsk (asks_by l) mid.now out) (sym split)
          (inr (last.now, c.in_ok-take_step.ensures.asked clean going, more)));
    }

pub returns-in_err-take_step-clause-taken : goal.returns-in_err-take_step-clause-taken
returns-in_err-take_step-clause-taken g c =
    let first = state g.S.Store c.args.tx.now.conn.now in
    let mid = state g.S.Store c.loop-step.tx.conn.now in
    let last = state g.S.Store c.take_step.new.tx.conn.now in
    let steps = c.args.steps.now in
    let rest = drop (c.loop-step.step-index + 1) steps in
    let split : drop c.loop-step.step-index steps ≡ c.step-item.result ∷ rest = search (rules, drop-cons) in
    let before = c.loop-step.invariant in
    let did = c.take_step.ensures in
    at_exit c.from_residual.result c.in_err-take_step.field-0.0
    (ManyStepsMakeChange IsInTransaction (MakesInTransaction (all_of steps) same_meta) CanAsk (SqlAnswersEachAsk (asks_by steps))
    (on_store g.S.Store c.args.tx.now c.take_step.new.tx)) c.from_residual.ensures.1 (record {
      uncommitted = uncommitted_then g.S.Store c.args.tx.now.conn c.loop-step.tx.conn c.take_step.new.tx.conn before.uncommitted
          did.uncommitted;
      made = λ clean. tt;
      asked = λ clean can store.
          let earlier : HasCleanDisk mid = omega (arith, did.uncommitted.survives.clean) in
          let was = before.made earlier can.ready in
          let going = can_go_on first mid can was.0 was.4 before.uncommitted.survives.limit in
          elim (c.in_err-take_step.ensures.asked clean going store) [
            | inl fault ↦ inl (fault_since first mid last before.uncommitted.survives.counts fault)
            | inr refuses ↦ inr (
              refuses.0,
              before.asked earlier can (Err refuses.0)
                  (subst (λ l. SqlAnswersEachAsk (asks_by l) mid.now (Err refuses.0)) (sym split) (inl (refuses.0, refuses.1, refl))),
            )
          ];
    })
