use Rattle.index_sql_writes.proofs.Words.{◌≡◌, ◌<◌, IsTrue, drop, Database, state, Outcome, HasCleanDisk, IsInTransaction, IsUncommitted}
use Rattle.index_sql_writes.proofs.Words.{meta_in, tables_in, AreRecords, CanAsk, SqlAnswersEachAsk, asks_by, all_of}
use Rattle.index_sql_writes.proofs.step.take_steps.Given as goal

abbrev pub invariant-loop-step : goal.invariant-loop-step
invariant-loop-step g l =
    let first = state g.S.Store l.fn.tx.conn.now in
    let now = state g.S.Store l.tx.conn.now in
    record {
      uncommitted : IsUncommitted g.S.Store l.fn.tx.conn l.tx.conn;
      made : HasCleanDisk now → IsInTransaction first
          → IsInTransaction now × (all_of (drop l.step-index l.steps) (tables_in now.now.trees)
          ≡ all_of l.steps (tables_in first.now.trees)) × (now.committed ≡ first.committed)
          × (meta_in now.now.trees ≡ meta_in first.now.trees) × (AreRecords first.now → AreRecords now.now);
      opened : 0 < l.step-index → HasCleanDisk now → IsTrue first.is_open;
      asked : HasCleanDisk now → CanAsk first → (out : Outcome Database)
          → SqlAnswersEachAsk (asks_by (drop l.step-index l.steps)) now.now out → SqlAnswersEachAsk (asks_by l.steps) first.now out;
    }
