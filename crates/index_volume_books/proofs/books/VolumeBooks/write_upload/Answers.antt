use Rattle.index_volume_books.proofs.Words.{◌≡◌, ◌⊎◌, refl, sym, ap, ◌∙◌, subst, take, IsTrue, rules, OnOk, means, Tables, Fits, over}
use Rattle.index_volume_books.proofs.Words.{with_stored, side_of}
use Rattle.index_rules.specs.declared.change.Change.TheVariants as change
use Rattle.index_volume_books.proofs.OverLemmas.{fits_means}
use Rattle.index_volume_books.proofs.ThroughLemmas.{fits_more, fits_written, fits_left, writes_through, writes_nothing}
use Rattle.index_volume_books.proofs.books.VolumeBooks.write_upload.Goals as goal

pub returns-in_err-place-in-Upload-clause-writes : goal.returns-in_err-place-in-Upload-clause-writes
returns-in_err-place-in-Upload-clause-writes g c =
    let now = c.args.self.now in
    writes_nothing _ c.args.change now.end (side_of g.B.Books g.D.Disk now.books now.disk)
    (side_of g.B.Books g.D.Disk now.books c.put_body.new.disk)
    refl (λ T may. may) (λ h. h) (λ h. h) now.placed now.left (g.met.D.Disk.seen_may_stay now.disk)
    (λ clean. subst IsTrue c.put_body.ensures.clean clean)
    (λ clean. (c.put_body.ensures.kept (now.kept clean)).1)
    (λ clean d may. (c.put_body.ensures.kept (now.kept clean)).0.left d may ∙ (c.put_body.ensures.kept (now.kept clean)).1)
    (search rules)

pub invariant_of-self-in-Upload : goal.invariant_of-self-in-Upload
invariant_of-self-in-Upload g c =
    let now = c.args.self.now in
    let was = g.B.Books.tables now.books in
    let up = c.in-Upload in
    let put = c.in_ok-place-in-Upload in
    let within = put.ensures.within in
    let changed = means (change.Upload up.name up.project up.file up.record put.place up.ends_case) was in
    let fits : g.B.Books.IsHonest now.books → Fits put.end changed = λ honest.
    fits_means put.end put.place (change.Upload up.name up.project up.file up.record up.body up.ends_case) was
    (fits_more now.end put.end was within.0 (now.placed honest)) (λ _. within.1) in
    record {
      placed = λ honest. let before = c.write.ensures.call.honest honest in
          fits_written c.write.result put.end was (g.B.Books.tables c.write.new.self) changed
          (fits_more now.end put.end was within.0 (now.placed before)) (fits before) (c.write.ensures.written honest)
          (c.write.ensures.unchanged honest);
      left = λ T may. fits_left put.end was changed (g.B.Books.IsHonest now.books) (g.B.Books.may_leave now.books) T
          (λ P may. fits_more now.end put.end P within.0 (now.left P may)) fits (c.write.ensures.crash T may);
      kept = λ clean. (put.ensures.added (now.kept (subst IsTrue c.put_body.ensures.clean clean))).0;
    }

pub returns-clause-writes : goal.returns-clause-writes
returns-clause-writes g c =
    let now = c.args.self.now in
    let was = g.B.Books.tables now.books in
    let up = c.in-Upload in
    let put = c.in_ok-place-in-Upload in
    let e = sym (ap (with_stored put.place) up.is) in
    writes_through c.write.result c.args.change put.place up.body now.end (side_of g.B.Books g.D.Disk now.books now.disk)
    (side_of g.B.Books g.D.Disk c.write.new.self c.put_body.new.disk)
    (subst (λ ch. with_stored up.body ch ≡ ch) (sym up.is) refl)
    now.placed now.left (g.met.D.Disk.seen_may_stay now.disk)
    (λ clean. subst IsTrue c.put_body.ensures.clean clean)
    (λ clean. (c.put_body.ensures.kept (now.kept clean)).1)
    (λ clean d may. ap (take now.end) (put.ensures.alone d may) ∙ (c.put_body.ensures.kept (now.kept clean)).1)
    (λ clean honest d may. ap (λ s. over s (means (with_stored put.place c.args.change) was)) (put.ensures.alone d may))
    (λ clean _. (put.ensures.added (now.kept clean)).1 ∙ c.bytes.ensures)
    c.write.ensures.call.honest
    (subst (λ ch. g.B.Books.IsHonest c.write.new.self
    → OnOk c.write.result (g.B.Books.tables c.write.new.self ≡ means ch was)) e c.write.ensures.written)
    c.write.ensures.unchanged c.write.ensures.lasts
    (subst (λ ch. (T : Tables) → g.B.Books.may_leave c.write.new.self T
    → g.B.Books.may_leave now.books T ⊎ (g.B.Books.IsHonest now.books × (T ≡ means ch was))) e c.write.ensures.crash)
    (subst (λ ch. g.B.Books.IsHonest now.books
    → OnOk c.write.result ((T : Tables) → g.B.Books.may_leave c.write.new.self T → T ≡ means ch was)) e c.write.ensures.alone)
    c.write.ensures.call.clean
