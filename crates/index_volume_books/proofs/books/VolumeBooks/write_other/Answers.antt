use Rattle.index_volume_books.proofs.Words.{◌≡◌, ◌⊎◌, refl, sym, ◌∙◌, subst, [], OnOk, Tables, Fits, false≢true, means, over_same, side_of}
use Rattle.index_volume_books.proofs.ThroughLemmas.{stored_other, fits_other, fits_written, fits_left, writes_through}
use Rattle.index_volume_books.proofs.books.VolumeBooks.write_other.Goals as goal

pub invariant_of-self : goal.invariant_of-self
invariant_of-self g c =
    let now = c.args.self.now in
    let was = g.B.Books.tables now.books in
    record {
      placed = λ honest. let before = now.placed (c.write.ensures.call.honest honest) in
          fits_written c.write.result now.end was (g.B.Books.tables c.write.new.self) (means c.args.change was) before
          (fits_other now.end c.args.change was c.requires.other before) (c.write.ensures.written honest)
          (c.write.ensures.unchanged honest);
      left = λ T may. fits_left now.end was (means c.args.change was) (g.B.Books.IsHonest now.books) (g.B.Books.may_leave now.books)
          T now.left (λ honest. fits_other now.end c.args.change was c.requires.other (now.placed honest)) (c.write.ensures.crash T may);
      kept = now.kept;
    }

pub returns-clause-writes : goal.returns-clause-writes
returns-clause-writes g c =
    let now = c.args.self.now in
    let was = g.B.Books.tables now.books in
    let is = stored_other [] c.args.change c.requires.other in
    let e = sym is in
    writes_through c.write.result c.args.change [] [] now.end (side_of g.B.Books g.D.Disk now.books now.disk)
    (side_of g.B.Books g.D.Disk c.write.new.self now.disk)
    is now.placed now.left (g.met.D.Disk.seen_may_stay now.disk) (λ clean. clean) (λ clean. refl)
    (λ clean d may. (now.kept clean).left d may)
    (λ clean honest d may. over_same now.end d (g.D.Disk.seen now.disk) _
    (subst (λ ch. Fits now.end (means ch was)) e (fits_other now.end c.args.change was c.requires.other (now.placed honest)))
    ((now.kept clean).left d may))
    (λ clean up. absurd (false≢true (sym c.requires.other ∙ up)))
    c.write.ensures.call.honest
    (subst (λ ch. g.B.Books.IsHonest c.write.new.self
    → OnOk c.write.result (g.B.Books.tables c.write.new.self ≡ means ch was)) e c.write.ensures.written)
    c.write.ensures.unchanged c.write.ensures.lasts
    (subst (λ ch. (T : Tables) → g.B.Books.may_leave c.write.new.self T
    → g.B.Books.may_leave now.books T ⊎ (g.B.Books.IsHonest now.books × (T ≡ means ch was))) e c.write.ensures.crash)
    (subst (λ ch. g.B.Books.IsHonest now.books
    → OnOk c.write.result ((T : Tables) → g.B.Books.may_leave c.write.new.self T → T ≡ means ch was)) e c.write.ensures.alone)
    c.write.ensures.call.clean
