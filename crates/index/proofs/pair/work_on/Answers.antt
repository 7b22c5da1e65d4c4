use Rattle.index.proofs.Words.{Ok, Err, false, rules, subst, image_at, IfSome_then, Shut}
use Rattle.index.specs.InVolume.{pair_of}
use Rattle.index.specs.Openings.{OpeningEnds}
use Rattle.index.proofs.PairLemmas.{ends_on}
use Rattle.index.proofs.UnusedLemmas.{LeavesCommitted, shut_stays, unfound_of_opened}
use Rattle.index.proofs.VolumeRuns.{database_of_opened}
use Rattle.index.proofs.pair.work_on.Goals as goal

pub returns-in-Ok : goal.returns-in-Ok
returns-in-Ok g c =
    let ends = subst (OpeningEnds false (image_at g.S.Start)) c.in-Ok.is c.open_existing.ensures in
    let same = c.worked_on.ensures.same in
    record {
      opened = Ok c.in-Ok.conn;
      ends = ends;
      found = database_of_opened _ _ ends.opened;
      stays = unfound_of_opened (image_at g.S.Start) c.in-Ok.conn ends.opened (subst LeavesCommitted same c.worked_on.ensures.settled);
      ended = ends_on same c.work_placed.ensures;
      leads = tt;
      shut = tt;
    }

pub returns-in-Err : goal.returns-in-Err
returns-in-Err g c =
    let start = image_at g.S.Start in
    let ends = subst (OpeningEnds false start) c.in-Err.is c.open_existing.ensures in
    record {
      opened = Err c.in-Err.failed;
      ends = ends;
      found = tt;
      stays = tt;
      ended = tt;
      leads = IfSome_then c.in-Err.failed.left ends.shut (λ left. shut_stays (pair_of start _) (Shut left));
      shut = search rules;
    }
