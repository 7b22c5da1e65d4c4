use Rattle.index_tables.proofs.Words.{inr, MakesNothing}
use Rattle.index_tables.proofs.OpenedLemmas.{looked_refused}
use Rattle.index_tables.proofs.PlacedLemmas.{looked_nothing_new, refused_shown}
use Rattle.index_tables.proofs.placed.refuse_unlike.Goals as goal

pub returns-in-Ok : goal.returns-in-Ok
returns-in-Ok g c =
    let new = c.told_version.new.conn in
    record {
      why = c.refusal.ensures.why;
      left = looked_refused 3 g.S.Store MakesNothing c.args.conn new c.told_version.ensures.looks c.requires c.refusal.result
          (λ clean. refused_shown g.S.Store c.args.conn new c.in-Ok.version c.refusal.result c.refusal.ensures.is
          (c.in-Ok.ensures.version.told clean));
      nothing_new = looked_nothing_new g.S.Store c.args.conn new c.told_version.ensures.looks;
    }

pub returns-in-Err : goal.returns-in-Err
returns-in-Err g c =
    record {
      why = inr (inr c.open_fault_of.ensures.fault);
      left = looked_refused 3 g.S.Store MakesNothing c.args.conn c.told_version.new.conn c.told_version.ensures.looks c.requires
          c.open_fault_of.result (λ clean o placed. c.open_fault_of.ensures.fault);
      nothing_new = looked_nothing_new g.S.Store c.args.conn c.told_version.new.conn c.told_version.ensures.looks;
    }
