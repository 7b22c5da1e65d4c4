use Rattle.index_tables.proofs.Words.{looks_kept}
use Rattle.index_tables.proofs.KeptLemmas.{version_kept}
use Rattle.index_tables.proofs.PlaceLemmas.{works_if_open}
use Rattle.index_tables.proofs.places.SqlBooksVersion3Places.kept_of.Goals as goal

pub returns-clause-works : goal.returns-clause-works
returns-clause-works g c =
    let old = c.self.inside.conn in
    let new = c.find_kept-kept.new.conn in
    let looks = c.find_kept-kept.ensures.looks in
    works_if_open 3 g.S.Store new c.find_kept-kept.result (looks_kept g.S.Store old new _ c.expose_index.ensures looks)
    (version_kept 3 g.S.Store old new _ c.self.invariant looks) c.find_kept-kept.ensures.opened
