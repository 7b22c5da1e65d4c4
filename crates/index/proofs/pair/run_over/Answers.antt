use Rattle.index.proofs.Words.{◌≡◌, rules, subst, sym, WorksOver, placed_side}
use Rattle.index.proofs.PairLemmas.{kept_on, worked_on}
use Rattle.index.proofs.pair.run_over.Goals as goal

pub returns-clause-worked : goal.returns-clause-worked
returns-clause-worked g c =
    let task = g.W.Work.task c.args.work.now c.run_at_desk-books.new.work in
    let first = c.args.books in
    let last = c.run_at_desk-books.result.0 in
    let end = c.run_at_desk-books.result.1 in
    let it = c.run_at_desk-books.ensures in
    let parts : c.into_parts-books.result ≡ (last.books, last.disk) = search rules in
    let worked : WorksOver task end (placed_side g.S.Store g.E.Disk first.books.conn first.disk)
    (placed_side g.S.Store g.E.Disk last.books.conn last.disk) = record {
      done = it.works.done;
      ends = it.works.ends;
      answered = it.works.answered;
      went = it.works.went;
      honest = it.honest;
      clean = it.clean;
    } in
    let given = c.into_parts-books.result in
    let to = subst (λ p. WorksOver task end (placed_side g.S.Store g.E.Disk first.books.conn first.disk)
    (placed_side g.S.Store g.E.Disk p.0.conn p.1)) (sym parts) worked in
    worked_on g.S.Store g.E.Disk task end first.books.conn given.0.conn c.into_connection.result first.disk given.1
    c.into_connection.ensures.same to

pub returns-clause-kept : goal.returns-clause-kept
returns-clause-kept g c =
    let parts = c.into_parts-books in
    kept_on g.S.Store g.E.Disk parts.result.0.conn c.into_connection.result parts.result.1 c.into_connection.ensures.same (record {
      end_at = c.run_at_desk-books.result.0.end;
      placed = parts.ensures.placed;
      kept = parts.ensures.kept;
    })
