use Rattle.index_sql_reads.proofs.Words.{◌≡◌, List, length, Row, Took}
use Rattle.index_sql_reads.specs.Handed.{Gives}
use Rattle.index_sql_reads.proofs.walk.hand_all.Given as goal

abbrev pub invariant-rows : goal.invariant-rows
invariant-rows g l =
    (l.rows.conn.ghost_name ≡ l.fn.rows.conn.ghost_name) × (given : List Row)
    × Gives g.S.Store l.fn.rows.conn.now l.rows.conn.now given
    × Took (λ before row after. g.K.Taker.takes before (g.R.FromRow.stands_for row) after) given l.fn.taker l.taker
    × (length given ≡ l._given)
