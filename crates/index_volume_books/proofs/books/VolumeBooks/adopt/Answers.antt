use Rattle.index_volume_books.proofs.Words.{sym, subst₂, AreTaken, Side, side_of}
use Rattle.index_volume_books.proofs.TakenLemmas.{fit_keeps, fit_placed, taken_by}
use Rattle.index_volume_books.proofs.books.VolumeBooks.adopt.Goals as goal

pub new-requires-clause-placed : goal.new-requires-clause-placed
new-requires-clause-placed g c =
    fit_placed c.in-Ok.end (side_of g.B.Books g.D.Disk c.args.books c.args.disk)
    (side_of g.B.Books g.D.Disk c.fit.new.books c.fit.new.disk) c.in-Ok.ensures.fit

pub new-requires-clause-left : goal.new-requires-clause-left
new-requires-clause-left g c = λ T left. (c.in-Ok.ensures.fit.places_alone T left).1

pub new-requires-clause-kept : goal.new-requires-clause-kept
new-requires-clause-kept g c =
    fit_keeps c.in-Ok.end (side_of g.B.Books g.D.Disk c.args.books c.args.disk)
    (side_of g.B.Books g.D.Disk c.fit.new.books c.fit.new.disk) c.in-Ok.ensures.fit

pub returns-in-Ok-clause-taken : goal.returns-in-Ok-clause-taken
returns-in-Ok-clause-taken g c =
    let old : Side = side_of g.B.Books g.D.Disk c.args.books c.args.disk in
    let new : Side = side_of g.B.Books g.D.Disk c.fit.new.books c.fit.new.disk in
    subst₂ (λ b d. AreTaken old (side_of g.B.Books g.D.Disk b d)) (sym c.new.ensures.same.0) (sym c.new.ensures.same.1.0)
    (taken_by c.in-Ok.end old new c.in-Ok.ensures.fit)

pub returns-in-Err-clause-refused : goal.returns-in-Err-clause-refused
returns-in-Err-clause-refused g c = c.in-Err.ensures.refused
