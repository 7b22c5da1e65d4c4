use Rattle.index_sql_writes.proofs.Words.{◌≡◌, drop, AllByRecursion, Database, state, Outcome, HasCleanDisk, meta_in, tables_in, AreRecords}
use Rattle.index_sql_writes.proofs.Words.{IsInTransaction, IsUncommitted, CanAskFor, RowShowsFileName, SqlDeletesBodies, deletes_shown}
use Rattle.index_sql_writes.proofs.statements.delete_each.Given as goal

abbrev pub invariant-loop-row : goal.invariant-loop-row
invariant-loop-row g l =
    let first = state g.S.Store l.fn.tx.conn.now in
    let now = state g.S.Store l.tx.conn.now in
    record {
      uncommitted : IsUncommitted g.S.Store l.fn.tx.conn l.tx.conn;
      made : HasCleanDisk now → IsInTransaction first
          → IsInTransaction now × (deletes_shown (drop l.row-index l.rows) (tables_in now.now.trees)
          ≡ deletes_shown l.rows (tables_in first.now.trees)) × (now.committed ≡ first.committed)
          × (meta_in now.now.trees ≡ meta_in first.now.trees) × (AreRecords first.now → AreRecords now.now);
      asked : HasCleanDisk now → CanAskFor l.rows first → (out : Outcome Database) → SqlDeletesBodies (drop l.row-index l.rows) now.now out
          → SqlDeletesBodies l.rows first.now out;
      shows : AllByRecursion RowShowsFileName l.rows → AllByRecursion RowShowsFileName (drop l.row-index l.rows);
    }
