use Rattle.index_sql_reads.proofs.Words.{◌≡◌, map, take}
use Rattle.index_sql_reads.proofs.from_row.each.Given as goal

abbrev pub invariant-loop-row : goal.invariant-loop-row
invariant-loop-row g l = l.all.items ≡ map g.T.FromRow.stands_for (take l.row-index l.rows)
