use Rattle.index_volume_books.proofs.Words.{◌≡◌, refl, sym, ap, subst, ◌∙◌, Some, is_ok, option_map, rules, side_of}
use Rattle.std.specs.Prelude.{IfSome}
use Rattle.index_digest.specs.Digest.{sha256}
use Rattle.index_volume_books.specs.Last.{IsDigestOf}
use Rattle.index_volume_books.proofs.ThroughLemmas.{finds_through, found_none, found_some}
use Rattle.index_volume_books.proofs.books.VolumeBooks.find_bytes.Goals as goal

pub returns-in_err-kept_of-clause-finds : goal.returns-in_err-kept_of-clause-finds
returns-in_err-kept_of-clause-finds g c =
    let now = c.args.self.now in
    let it = c.kept_of.ensures.looks in
    finds_through c.from_residual.result c.args.file.now (side_of g.B.Books g.D.Disk now.books now.disk)
    (side_of g.B.Books g.D.Disk c.kept_of.new.self now.disk)
    it.unchanged refl it.crash (λ d left. left) it.call.honest it.call.clean (λ clean. clean) (search rules) (search rules)

pub returns-in-None-clause-finds : goal.returns-in-None-clause-finds
returns-in-None-clause-finds g c =
    let now = c.args.self.now in
    let it = c.kept_of.ensures.looks in
    finds_through _ c.args.file.now (side_of g.B.Books g.D.Disk now.books now.disk) (side_of g.B.Books g.D.Disk c.kept_of.new.self now.disk)
    it.unchanged refl it.crash (λ d left. left) it.call.honest it.call.clean (λ clean. clean)
    (λ both. found_none (g.D.Disk.seen now.disk) c.args.file.now (g.B.Books.tables now.books)
    (ap (option_map (λ kept. kept.stored.items)) (sym c.in-None.is) ∙ c.in_ok-kept_of.ensures.found both.0))
    (λ honest clean. it.lasts (ap is_ok c.in_ok-kept_of.was) honest clean)

pub returns-in_err-bytes-in-Some-clause-finds : goal.returns-in_err-bytes-in-Some-clause-finds
returns-in_err-bytes-in-Some-clause-finds g c =
    let now = c.args.self.now in
    let it = c.kept_of.ensures.looks in
    finds_through c.from_residual-in_err-bytes-in-Some.result c.args.file.now (side_of g.B.Books g.D.Disk now.books now.disk)
    (side_of g.B.Books g.D.Disk c.kept_of.new.self c.read_stored.new.disk)
    it.unchanged c.read_stored.ensures.same it.crash c.read_stored.ensures.crash it.call.honest it.call.clean c.read_stored.ensures.clean
    (search rules) (search rules)

pub returns-in-Ok-clause-finds : goal.returns-in-Ok-clause-finds
returns-in-Ok-clause-finds g c =
    let now = c.args.self.now in
    let it = c.kept_of.ensures.looks in
    finds_through _ c.args.file.now (side_of g.B.Books g.D.Disk now.books now.disk)
    (side_of g.B.Books g.D.Disk c.kept_of.new.self c.read_stored.new.disk)
    it.unchanged c.read_stored.ensures.same it.crash c.read_stored.ensures.crash it.call.honest it.call.clean c.read_stored.ensures.clean
    (λ both.
    let at : c.as_slice.result.now ≡ c.in-Some.kept.stored.items = cc in
    found_some (g.D.Disk.seen now.disk) c.args.file.now c.as_slice.result.now c.in-Ok.sealed (g.B.Books.tables now.books)
    (ap Some at ∙ ap (option_map (λ kept. kept.stored.items)) (sym c.in-Some.is) ∙ c.in_ok-kept_of.ensures.found both.0)
    (c.in-Ok.ensures.kept ∙ c.in_ok-bytes-in-Some.ensures.read both.1))
    (λ honest clean. it.lasts (ap is_ok c.in_ok-kept_of.was) honest clean)

pub returns-clause-finds : goal.returns-clause-finds
returns-clause-finds g c =
    let now = c.args.self.now in
    let it = c.kept_of.ensures.looks in
    finds_through _ c.args.file.now (side_of g.B.Books g.D.Disk now.books now.disk)
    (side_of g.B.Books g.D.Disk c.kept_of.new.self c.read_stored.new.disk)
    it.unchanged c.read_stored.ensures.same it.crash c.read_stored.ensures.crash it.call.honest it.call.clean c.read_stored.ensures.clean
    (λ both. tt) tt

pub returns-in-Ok-clause-declared : goal.returns-in-Ok-clause-declared
returns-in-Ok-clause-declared g c = λ honest known same.
    ap sha256 c.in-Ok.ensures.kept ∙ c.in-Ok.ensures.matches.0 refl
    ∙ subst (λ it. IfSome it (λ kept. IsDigestOf (g.B.Books.tables c.args.self.now.books) c.args.file.now kept.digest)) c.in-Some.is
    (c.in_ok-kept_of.ensures.digest honest) known same
