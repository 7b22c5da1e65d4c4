use Rattle.index.proofs.Words.{Ok, Err, subst, subst₂, over_files, TakesPlaced, IsToldOf}
use Rattle.index.specs.InVolume.{pair_of}
use Rattle.index.proofs.UnusedLemmas.{refused_stays, still_unfound}
use Rattle.index.proofs.VolumeRuns.{leaves_to_next}
use Rattle.index.proofs.pair.work_placed.Goals as goal

pub returns-in-Ok : goal.returns-in-Ok
returns-in-Ok g c =
    let takes = subst (TakesPlaced over_files c.args.conn) c.in-Ok.is c.adopt_placed.ensures in
    record {
      adopted = Ok c.in-Ok.books;
      takes = takes;
      ended = record { worked = c.work_with.result; ends = c.work_with.ensures; told = c.ended_over.ensures };
      refused = tt;
      leads = λ image has. leaves_to_next _ _ (pair_of image _) c.args.conn c.in-Ok.books has takes c.work_with.result c.work_with.ensures;
    }

pub returns-in-Err : goal.returns-in-Err
returns-in-Err g c =
    let takes = subst (TakesPlaced over_files c.args.conn) c.in-Err.is c.adopt_placed.ensures in
    record {
      adopted = Err c.in-Err.left;
      takes = takes;
      ended = tt;
      refused = subst₂ (λ why left. IsToldOf why left c.end_of_unused.result)
          c.refused.ensures.why c.refused.ensures.left c.end_of_unused.ensures;
      leads = λ image has unfound. refused_stays (pair_of image _) c.in-Err.left.conn c.refused.ensures.again
          (still_unfound image c.args.conn c.in-Err.left unfound takes.refused);
    }
