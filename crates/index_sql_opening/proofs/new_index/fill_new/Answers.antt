use Rattle.index_sql_opening.proofs.Words.{arith, rules, state, HasCleanDisk, IsStage, FailsForRefusal, at_exit, fails_inside}
use Rattle.index_sql_opening.proofs.Words.{fails_to_commit, Unlimited}
use Rattle.index_sql_opening.specs.NewAsks.{asks_of_new}
use Rattle.index_sql_opening.proofs.NewAskLemmas.{begins_blank}
use Rattle.index_sql_opening.proofs.new_index.fill_new.Goals as goal

pub returns-in_err-make_all : goal.returns-in_err-make_all
returns-in_err-make_all g c = record {
  made = record {
    made = search rules;
    unchanged = search rules;
    outside = search rules;
    was_clean = search rules;
    was_open = search rules;
    crash = search rules;
    reason = λ clean blank.
        let e = c.in_err-make_all.field-0.0 in
        let asks = asks_of_new c.args.version c.args.user.now c.args.account.now in
        let old = c.args.conn.now in
        let ended : HasCleanDisk (state g.S.Store c.drop-tx.new.self.0) = search rules in
        let before : HasCleanDisk (state g.S.Store c.make_all.new.tx.conn.now) = omega (arith, ended, c.drop-tx.ensures.survives.clean) in
        let reason : FailsForRefusal asks (state g.S.Store old) (state g.S.Store c.drop-tx.new.self.0) e =
        fails_inside g.S.Store old _ c.transaction-tx.ensures.begun asks (Unlimited (IsStage 0))
        e c.make_all.new.tx.conn.now c.drop-tx.new.self.0 (begins_blank g.S.Store old blank) (c.in_err-make_all.ensures.asked before)
        c.drop-tx.ensures.survives.counts in
        at_exit c.from_residual.result e _ c.from_residual.ensures.1 (search rules);
  };
}

pub returns-in_err-commit : goal.returns-in_err-commit
returns-in_err-commit g c = record {
  made = record {
    made = search rules;
    unchanged = search rules;
    outside = search rules;
    was_clean = search rules;
    was_open = search rules;
    crash = search rules;
    reason = λ clean blank.
        let e = c.in_err-commit.field-0.0 in
        let asks = asks_of_new c.args.version c.args.user.now c.args.account.now in
        let old = c.args.conn.now in
        let mid = c.make_all.new.tx.conn.now in
        let ended : HasCleanDisk (state g.S.Store c.commit.new.self.0) = search rules in
        let before : HasCleanDisk (state g.S.Store mid) = omega (arith, ended, c.commit.ensures.survives.clean) in
        let reason : FailsForRefusal asks (state g.S.Store old) (state g.S.Store c.commit.new.self.0) e =
        fails_to_commit g.S.Store old _ c.transaction-tx.ensures.begun asks (Unlimited (IsStage 0)) e mid c.commit.new.self.0
        (begins_blank g.S.Store old blank) (λ can. (c.in_ok-make_all.ensures.made before can.0).ready)
        c.make_all.ensures.uncommitted.survives.counts (c.in_err-commit.ensures.err ended) in
        at_exit c.from_residual-in_err-commit.result e _ c.from_residual-in_err-commit.ensures.1 (search rules);
  };
}
