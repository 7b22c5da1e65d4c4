use Rattle.index_tables.proofs.Words.{IfOk, subst, tables_of, looks_kept, IsLast, BooksState}
use Rattle.index_tables.proofs.KeptLemmas.{version_kept}
use Rattle.index_tables.proofs.PlaceLemmas.{works_if_open}
use Rattle.index_tables.specs.Places.{LastForReason}
use Rattle.index_tables.proofs.places.SqlBooksVersion3Ends.last_file.Goals as goal

pub returns-clause-found : goal.returns-clause-found
returns-clause-found g c honest =
    subst (λ (b : BooksState _). IfOk c.find_last-last.result (IsLast (tables_of g.S.Store b.conn))) c.self.view_is
    (c.find_last-last.ensures.found honest.clean)

pub returns-clause-works : goal.returns-clause-works
returns-clause-works g c =
    let old = c.self.inside.conn in
    let new = c.find_last-last.new.conn in
    let looks = c.find_last-last.ensures.looks in
    works_if_open 3 g.S.Store new c.find_last-last.result (looks_kept g.S.Store old new _ c.expose_index.ensures looks)
    (version_kept 3 g.S.Store old new _ c.self.invariant looks) c.find_last-last.ensures.opened

pub returns-clause-reason : goal.returns-clause-reason
returns-clause-reason g c =
    subst (λ (b : BooksState _). LastForReason g.S.Store b.conn c.find_last-last.new.conn c.find_last-last.result) c.self.view_is
    c.find_last-last.ensures.reason
