use Rattle.index_sql_writes.proofs.Words.{arith, rules, CanAsk, state, HasCleanDisk, same_meta, all_of, FailsForRefusal, asks_by}
use Rattle.index_sql_writes.proofs.CommitLemmas.{made_by_commit}
use Rattle.index_sql_writes.proofs.StepAskLemmas.{at_exit, begins_fit, fails_inside, fails_to_commit}
use Rattle.index_sql_writes.proofs.ShutLemmas.{shut_survives}
use Rattle.index_sql_writes.proofs.change.commit_steps.Goals as goal

pub returns-in_err-commit-clause-shut : goal.returns-in_err-commit-clause-shut
returns-in_err-commit-clause-shut g c = λ some shut.
    let survives = shut_survives g.S.Store c.args.conn.now _ c.take_steps.new.tx.conn.now c.commit.new.self.0 _
    c.transaction-tx.ensures.begun (c.in_ok-take_steps.ensures.opened some)
    shut c.take_steps.ensures.taken.uncommitted.survives c.commit.ensures.survives in search rules

pub returns-clause-shut : goal.returns-clause-shut
returns-clause-shut g c = λ some shut.
    let survives = shut_survives g.S.Store c.args.conn.now _ c.take_steps.new.tx.conn.now c.commit.new.self.0 _
    c.transaction-tx.ensures.begun (c.in_ok-take_steps.ensures.opened some)
    shut c.take_steps.ensures.taken.uncommitted.survives c.commit.ensures.survives in search rules

pub returns-in_err-take_steps-clause-reason : goal.returns-in_err-take_steps-clause-reason
returns-in_err-take_steps-clause-reason g c clean index records =
    let e = c.in_err-take_steps.field-0.0 in
    let ended : HasCleanDisk (state g.S.Store c.drop-tx.new.self.0) = search rules in
    let before : HasCleanDisk (state g.S.Store c.take_steps.new.tx.conn.now) = omega (arith, ended, c.drop-tx.ensures.survives.clean) in
    let reason : FailsForRefusal (asks_by c.args.steps.now) (state g.S.Store c.args.conn.now) (state g.S.Store c.drop-tx.new.self.0) e =
    fails_inside g.S.Store c.args.conn.now _ c.transaction-tx.ensures.begun (asks_by c.args.steps.now)
    CanAsk e c.take_steps.new.tx.conn.now c.drop-tx.new.self.0
    (begins_fit g.S.Store c.args.conn.now index records) (c.in_err-take_steps.ensures.taken.asked before)
    c.drop-tx.ensures.survives.counts in
    at_exit c.from_residual.result e _ c.from_residual.ensures.1 (search rules)

pub returns-in_err-commit-clause-reason : goal.returns-in_err-commit-clause-reason
returns-in_err-commit-clause-reason g c clean index records =
    let e = c.in_err-commit.field-0.0 in
    let mid = c.take_steps.new.tx.conn.now in
    let ended : HasCleanDisk (state g.S.Store c.commit.new.self.0) = search rules in
    let before : HasCleanDisk (state g.S.Store mid) = omega (arith, ended, c.commit.ensures.survives.clean) in
    let reason : FailsForRefusal (asks_by c.args.steps.now) (state g.S.Store c.args.conn.now) (state g.S.Store c.commit.new.self.0) e =
    fails_to_commit g.S.Store c.args.conn.now _ c.transaction-tx.ensures.begun (asks_by c.args.steps.now) CanAsk e mid c.commit.new.self.0
    (begins_fit g.S.Store c.args.conn.now index records)
    (λ can. (c.in_ok-take_steps.ensures.taken.made before can.ready).ready) c.take_steps.ensures.taken.uncommitted.survives.counts
    (c.in_err-commit.ensures.err ended) in
    at_exit c.from_residual-in_err-commit.result e _ c.from_residual-in_err-commit.ensures.1 (search rules)

pub returns-clause-made : goal.returns-clause-made
returns-clause-made g c = record {
  made = λ clean opened index.
      let mid = c.take_steps.new.tx.conn.now in
      let ended : HasCleanDisk (state g.S.Store c.commit.new.self.0) = search rules in
      let before : HasCleanDisk (state g.S.Store mid) = omega (arith, ended, c.commit.ensures.survives.clean) in
      let made = made_by_commit g.S.Store (all_of c.args.steps.now)
      same_meta c.args.conn.now _ mid c.commit.new.self.0 c.transaction-tx.ensures.begun opened index
      (c.in_ok-take_steps.ensures.taken.made before) (c.in_ok-commit.ensures.ok ended).1 in search rules;
  opened = search rules;
  unchanged = search rules;
  outside = search rules;
  was_clean = search rules;
  was_open = search rules;
  crash = search rules;
}
