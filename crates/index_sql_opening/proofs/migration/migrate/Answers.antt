use Rattle.index_sql_opening.proofs.Words.{arith, rules, state, HasCleanDisk, IsMigrating, FailsForRefusal, at_exit, fails_inside}
use Rattle.index_sql_opening.proofs.Words.{fails_to_commit, Unlimited}
use Rattle.index_sql_opening.specs.Migrated.{asks_of_migration}
use Rattle.index_sql_opening.proofs.MigrationLemmas.{begins_first}
use Rattle.index_sql_opening.proofs.migration.migrate.Goals as goal

pub returns-in_err-migrate_tables : goal.returns-in_err-migrate_tables
returns-in_err-migrate_tables g c = record {
  made = record {
    made = search rules;
    unchanged = search rules;
    outside = search rules;
    was_clean = search rules;
    was_open = search rules;
    crash = search rules;
    reason = λ clean known.
        let e = c.in_err-migrate_tables.field-0.0 in
        let old = c.args.conn.now in
        let ended : HasCleanDisk (state g.S.Store c.drop-tx.new.self.0) = search rules in
        let before : HasCleanDisk (state g.S.Store c.migrate_tables.new.tx.conn.now) =
        omega (arith, ended, c.drop-tx.ensures.survives.clean) in
        let reason : FailsForRefusal asks_of_migration (state g.S.Store old) (state g.S.Store c.drop-tx.new.self.0) e =
        fails_inside g.S.Store old _ c.transaction-tx.ensures.begun asks_of_migration (Unlimited IsMigrating)
        e c.migrate_tables.new.tx.conn.now c.drop-tx.new.self.0 (begins_first g.S.Store old known)
        (c.in_err-migrate_tables.ensures.asked before) c.drop-tx.ensures.survives.counts in
        at_exit c.from_residual.result e _ c.from_residual.ensures.1 (search rules);
  };
}

pub returns-in_err-commit : goal.returns-in_err-commit
returns-in_err-commit g c = record {
  made = record {
    made = search rules;
    unchanged = search rules;
    outside = search rules;
    was_clean = search rules;
    was_open = search rules;
    crash = search rules;
    reason = λ clean known.
        let e = c.in_err-commit.field-0.0 in
        let old = c.args.conn.now in
        let mid = c.migrate_tables.new.tx.conn.now in
        let ended : HasCleanDisk (state g.S.Store c.commit.new.self.0) = search rules in
        let before : HasCleanDisk (state g.S.Store mid) = omega (arith, ended, c.commit.ensures.survives.clean) in
        let reason : FailsForRefusal asks_of_migration (state g.S.Store old) (state g.S.Store c.commit.new.self.0) e =
        fails_to_commit g.S.Store old _ c.transaction-tx.ensures.begun asks_of_migration (Unlimited IsMigrating) e mid c.commit.new.self.0
        (begins_first g.S.Store old known) (λ can. (c.in_ok-migrate_tables.ensures.made before can.0).ready)
        c.migrate_tables.ensures.uncommitted.survives.counts (c.in_err-commit.ensures.err ended) in
        at_exit c.from_residual-in_err-commit.result e _ c.from_residual-in_err-commit.ensures.1 (search rules);
  };
}
