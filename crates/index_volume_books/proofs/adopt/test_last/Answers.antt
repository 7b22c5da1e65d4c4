use Rattle.index_volume_books.proofs.Words.{refl, AreSettled, Side, side_of}
use Rattle.index_volume_books.proofs.TakenLemmas.{looks_with}
use Rattle.index_volume_books.proofs.adopt.test_last.Goals as goal

pub returns-in-Ok-Some : goal.returns-in-Ok-Some
returns-in-Ok-Some g c =
    let old : Side = side_of g.B.Books g.D.Disk c.args.books.now c.args.disk.now in
    let new : Side = side_of g.B.Books g.D.Disk c.kept_of.new.self c.test_kept.new.disk in
    let looks = c.kept_of.ensures.looks in
    let test = c.test_kept.ensures in
    let settled : AreSettled old new = record {
      unchanged = looks.unchanged;
      volume = test.same;
      honest = looks.call.honest;
      clean = looks.call.clean;
      volume_clean = test.clean;
      books_crash = looks.crash;
      volume_crash = test.crash;
    } in
    record {
      looks = looks_with c.args.end c.args.last.now old new settled c.in-Ok-Some.kept.stored.items c.in-Ok-Some.kept.digest
          c.test_kept.result (c.in-Ok-Some.ensures.looks.lasts refl) c.in-Ok-Some.ensures.works
          (λ h. rw c.in-Ok-Some.field-0-is at (c.in-Ok-Some.ensures.found h))
          (λ h. rw c.in-Ok-Some.field-0-is at (c.in-Ok-Some.ensures.digest h))
          test.below test.short test.own test.other;
    }
