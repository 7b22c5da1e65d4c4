use Rattle.std.proofs.Common.{[], ◌∷◌}
use Rattle.index_fault_tests.proofs.WalkLemmas.{faulted_as, stopped}
use Rattle.index_fault_tests.proofs.tests.fakes.hand_name.Goals as goal

pub returns-then-take : goal.returns-then-take
returns-then-take g c =
    let row = c.args.row.now in record {
      given = (
        row ∷ [],
        faulted_as g.K.Taker.takes g.K.Taker.stops c.args.fault c.from.result c.from.ensures row c.args.taker.now c.take.new.self
            (c.take.ensures.took c.if-take.true),
      );
    }

pub returns-else-take : goal.returns-else-take
returns-else-take g c =
    let row = c.args.row.now in record {
      given = (
        row ∷ [],
        stopped g.K.Taker.takes g.K.Taker.stops row c.args.taker.now c.take.new.self (c.take.ensures.stopped c.if-take.false),
      );
    }
