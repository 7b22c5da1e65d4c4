use Rattle.index_volume_books.proofs.Words.{◌≢◌, refl, AreSettled, Side, side_of}
use Rattle.index_volume_books.specs.declared.adopt.TakeFault.TheVariants as fault
use Rattle.index_volume_books.proofs.TakenLemmas.{fit_last, fit_none, refused_by_last, refused_for}
use Rattle.index_volume_books.proofs.adopt.fit.Goals as goal

pub returns-in_default-clause-refused : goal.returns-in_default-clause-refused
returns-in_default-clause-refused g c =
    let old : Side = side_of g.B.Books g.D.Disk c.args.books.now c.args.disk.now in
    let new : Side = side_of g.B.Books g.D.Disk c.args.books.now c.settle.new.disk in
    let settled : AreSettled old new = record {
      unchanged = λ _. refl;
      volume = c.settle.ensures.same;
      honest = λ h. h;
      clean = λ h. h;
      volume_clean = c.settle.ensures.clean;
      books_crash = λ T it. it;
      volume_crash = c.settle.ensures.crash;
    } in
    let short : fault.Store ≢ fault.TooShort = (λ is. absurd (cc)) in
    let other : fault.Store ≢ fault.OtherVolume = (λ is. absurd (cc)) in
    refused_for fault.Store old new settled short other

pub returns-in-Ok-None-clause-fit : goal.returns-in-Ok-None-clause-fit
returns-in-Ok-None-clause-fit g c =
    let old : Side = side_of g.B.Books g.D.Disk c.args.books.now c.args.disk.now in
    let mid : Side = side_of g.B.Books g.D.Disk c.last_file.new.self c.settle.new.disk in
    let looks = c.last_file.ensures.looks in
    let settled : AreSettled old mid = record {
      unchanged = looks.unchanged;
      volume = c.settle.ensures.same;
      honest = looks.call.honest;
      clean = looks.call.clean;
      volume_clean = c.settle.ensures.clean;
      books_crash = looks.crash;
      volume_crash = c.settle.ensures.crash;
    } in
    fit_none c.in-Some.end old mid settled c.in-Some.ensures.end c.in-Some.ensures.alone
    (λ h. rw c.in-Ok-None.field-0-is at (c.in-Ok-None.ensures.found h)) (c.in-Ok-None.ensures.looks.lasts refl) c.in-Ok-None.ensures.works
    (g.met.B.Books.settled c.last_file.new.self)

pub returns-in-Ok-clause-fit : goal.returns-in-Ok-clause-fit
returns-in-Ok-clause-fit g c =
    let old : Side = side_of g.B.Books g.D.Disk c.args.books.now c.args.disk.now in
    let mid : Side = side_of g.B.Books g.D.Disk c.last_file.new.self c.settle.new.disk in
    let new : Side = side_of g.B.Books g.D.Disk c.test_last.new.books c.test_last.new.disk in
    let looks = c.last_file.ensures.looks in
    let settled : AreSettled old mid = record {
      unchanged = looks.unchanged;
      volume = c.settle.ensures.same;
      honest = looks.call.honest;
      clean = looks.call.clean;
      volume_clean = c.settle.ensures.clean;
      books_crash = looks.crash;
      volume_crash = c.settle.ensures.crash;
    } in
    fit_last c.in-Some.end old mid settled c.in-Some.ensures.end c.in-Some.ensures.alone
    c.in-Ok-Some.last new (λ h. rw c.in-Ok-Some.field-0-is at (c.in-Ok-Some.ensures.found h)) (c.in-Ok-Some.ensures.looks.lasts refl)
    c.in-Ok.ensures.looks (g.met.B.Books.settled c.test_last.new.books)

pub returns-in-Ok-Some-clause-refused : goal.returns-in-Ok-Some-clause-refused
returns-in-Ok-Some-clause-refused g c =
    let old : Side = side_of g.B.Books g.D.Disk c.args.books.now c.args.disk.now in
    let mid : Side = side_of g.B.Books g.D.Disk c.last_file.new.self c.settle.new.disk in
    let new : Side = side_of g.B.Books g.D.Disk c.test_last.new.books c.test_last.new.disk in
    let looks = c.last_file.ensures.looks in
    let settled : AreSettled old mid = record {
      unchanged = looks.unchanged;
      volume = c.settle.ensures.same;
      honest = looks.call.honest;
      clean = looks.call.clean;
      volume_clean = c.settle.ensures.clean;
      books_crash = looks.crash;
      volume_crash = c.settle.ensures.crash;
    } in
    refused_by_last c.in-Some.end old mid settled c.in-Some.ensures.end c.in-Some.ensures.alone
    c.in-Ok-Some.last new c.in-Err-test_last.why c.in-Err-test_last.ensures.looks

pub returns-clause-refused : goal.returns-clause-refused
returns-clause-refused g c =
    let old : Side = side_of g.B.Books g.D.Disk c.args.books.now c.args.disk.now in
    let mid : Side = side_of g.B.Books g.D.Disk c.last_file.new.self c.settle.new.disk in
    let looks = c.last_file.ensures.looks in
    let settled : AreSettled old mid = record {
      unchanged = looks.unchanged;
      volume = c.settle.ensures.same;
      honest = looks.call.honest;
      clean = looks.call.clean;
      volume_clean = c.settle.ensures.clean;
      books_crash = looks.crash;
      volume_crash = c.settle.ensures.crash;
    } in
    refused_for c.take_fault_of.result old mid settled c.take_fault_of.ensures.short c.take_fault_of.ensures.other
