use Rattle.index_sql_reads.proofs.Words.{subst}
use Rattle.index_sql_reads.proofs.WalkLemmas.{stopped}
use Rattle.index_sql_reads.proofs.walk.hand.Goals as goal

pub returns-clause-walks : goal.returns-clause-walks
returns-clause-walks g c =
    stopped (λ before row after. g.K.Taker.takes before (g.R.FromRow.stands_for row) after)
    (λ before row after. g.K.Taker.stops before (g.R.FromRow.stands_for row) after) c.args.row.now _ _
    (subst (λ row. g.K.Taker.stops c.args.taker.now row c.take.new.self) c.in_ok-value.ensures.value
    (c.take.ensures.stopped c.if-take.false))
