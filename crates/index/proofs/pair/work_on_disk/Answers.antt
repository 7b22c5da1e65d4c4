use Rattle.index.proofs.Words.{sym, subst}
use Rattle.index.specs.InVolume.{IsNextVolume}
use Rattle.index.specs.Pairs.{IsWithoutVolume}
use Rattle.index.proofs.UnusedLemmas.{untaken}
use Rattle.index.proofs.pair.work_on_disk.Goals as goal

pub returns-in-Ok : goal.returns-in-Ok
returns-in-Ok g c = record {
  first = c.in-Ok.books.books.conn;
  first_disk = c.in-Ok.books.disk;
  taken = c.in-Ok.ensures.taken;
  ran = c.run_and_close.ensures;
}

pub returns-in-Err : goal.returns-in-Err
returns-in-Err g c = subst (IsWithoutVolume g.E.Disk c.args.books.conn (IsNextVolume g.E.Disk c.args.disk)) (sym c.without.ensures.is)
    (untaken g.E.Disk c.args.books.conn c.in-Err.field-0.books.conn c.args.disk c.in-Err.field-0.disk c.end_of_taking-end.result
    c.end_of_taking-end.ensures.fault c.in-Err.ensures.refused.settled c.without.ensures.again)
