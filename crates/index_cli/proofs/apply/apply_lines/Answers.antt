use Rattle.index_cli.proofs.Words.{◌≡◌, ◌≢◌, ◌∙◌, ◌+◌, inl, inr, refl, Ok, Err, arith, rules, keeps_on, ReadFault, WriteFault, leaves_none}
use Rattle.index_cli.proofs.CauseLemmas.{HaveFailed-push, counted_push, faults_before, faults_push, none_failed}
use Rattle.index_cli.proofs.Cuts.{Charges-trans, PartIsTaken-none}
use Rattle.index_cli.proofs.LinesWentLemmas.{lines_end, lines_none, lines_push}
use Rattle.index_cli.proofs.Progress.{Progress-during, Progress-none, Progress-part, Progress-push, Progress-taken, Progress-whole}
use Rattle.index_cli.proofs.RunEnds.{LinesEnd-before, failed_or_spent}
use Rattle.index_cli.proofs.apply.apply_lines.Goals as goal

-- ---- before the first line

pub loop-count-init : goal.loop-count-init
loop-count-init g c = record {
  answered = Progress-none _ _ _ _ (lines_none _ g.met.B.Books.settled _);
  faults = (0, none_failed _ _ (inl refl), Progress-none _ _ _ _ (refl, refl));
  counted = (0, inl (omega arith), Progress-none _ _ _ _ (refl, refl));
  charged = search rules;
  spent = search rules;
  reads = search rules;
  writes = search rules;
  keeps = search rules;
}

-- ---- no line was read

pub returns-in_err-size-clause-answers : goal.returns-in_err-size-clause-answers
returns-in_err-size-clause-answers g c =
    let is : c.from_residual.result ≡ Err c.in_err-size.field-0.0 = search rules in
    let other : c.from_residual.result ≢ Err WriteFault = search rules in
    lines_end g.B.Books _ _ _ (leaves_none _ _) _ _ _ _ _ _ c.from_residual.result
    (LinesEnd-before _ _ _ _ _ _ c.from_residual.result c.in_err-size.field-0.0 is other
    (Progress-part _ _ _ _ _ _ _ _ c.loop-count.invariant.answered c.in_err-size.ensures.part))

pub returns-in_err-size-clause-fails : goal.returns-in_err-size-clause-fails
returns-in_err-size-clause-fails g c = record {
  read_fault = λ end.
      let is : c.next_line.result ≡ Err ReadFault = search rules in
      failed_or_spent _ _ _ _ _ _ _ _ _ c.loop-count.invariant.reads c.loop-count.invariant.charged
      c.next_line.ensures.charged (c.next_line.ensures.read_fault is);
  write_fault = search rules;
  reads = search rules;
  writes = search rules;
}

pub returns-in_err-size-clause-limit : goal.returns-in_err-size-clause-limit
returns-in_err-size-clause-limit g c =
    (c.next_line.new.left, Charges-trans _ _ _ _ _ _ c.loop-count.invariant.charged c.next_line.ensures.charged)

pub returns-in_err-size-clause-failures : goal.returns-in_err-size-clause-failures
returns-in_err-size-clause-failures g c =
    let is : c.from_residual.result ≡ Err c.in_err-size.field-0.0 = search rules in
    let other : c.from_residual.result ≢ Err WriteFault = search rules in
    let told = c.loop-count.invariant.faults in (
      told.0,
      told.1,
      LinesEnd-before _ _ _ _ _ _ c.from_residual.result c.in_err-size.field-0.0 is other
          (Progress-part _ _ _ _ _ _ _ _ told.2 c.in_err-size.ensures.part),
    )

pub returns-in_err-size-clause-stores : goal.returns-in_err-size-clause-stores
returns-in_err-size-clause-stores g c =
    let is : c.from_residual.result ≡ Err c.in_err-size.field-0.0 = search rules in
    let other : c.from_residual.result ≢ Err WriteFault = search rules in
    let told = c.loop-count.invariant.counted in (
      told.0,
      told.1,
      LinesEnd-before _ _ _ _ _ _ c.from_residual.result c.in_err-size.field-0.0 is other
          (Progress-part _ _ _ _ _ _ _ _ told.2 c.in_err-size.ensures.part),
    )

-- ---- there was none

pub returns-in_default-clause-answers : goal.returns-in_default-clause-answers
returns-in_default-clause-answers g c =
    let end = rw c.in_default.is at c.in_ok-size.ensures.line in
    lines_end g.B.Books _ _ _ (leaves_none _ _) _ _ _ _ _ _ (Ok _)
    (Progress-whole _ _ _ _ _ _ _ _ c.loop-count.invariant.answered end.0 end.1)

pub returns-in_default-clause-failures : goal.returns-in_default-clause-failures
returns-in_default-clause-failures g c =
    let end = rw c.in_default.is at c.in_ok-size.ensures.line in
    let told = c.loop-count.invariant.faults in
    (told.0, told.1, Progress-whole _ _ _ _ _ _ _ _ told.2 end.0 end.1)

pub returns-in_default-clause-stores : goal.returns-in_default-clause-stores
returns-in_default-clause-stores g c =
    let end = rw c.in_default.is at c.in_ok-size.ensures.line in
    let told = c.loop-count.invariant.counted in
    (told.0, told.1, Progress-whole _ _ _ _ _ _ _ _ told.2 end.0 end.1)

-- ---- memory ran out for a reply

pub returns-in_err-reply-clause-answers : goal.returns-in_err-reply-clause-answers
returns-in_err-reply-clause-answers g c =
    let is : c.from_residual-in_err-reply.result ≡ Err c.in_err-reply.field-0.0 = search rules in
    let other : c.from_residual-in_err-reply.result ≢ Err WriteFault = search rules in
    lines_end g.B.Books _ c.loop-count.desk _ c.in_err-reply.ensures.leaves _ _ _ _ _ _ c.from_residual-in_err-reply.result
    (LinesEnd-before _ _ _ _ _ _ c.from_residual-in_err-reply.result c.in_err-reply.field-0.0 is other
    (Progress-taken _ _ _ _ _ _ _ _ c.in-Some.size _ c.loop-count.invariant.answered (rw c.in-Some.is at c.in_ok-size.ensures.line)))

pub returns-in_err-reply-clause-failures : goal.returns-in_err-reply-clause-failures
returns-in_err-reply-clause-failures g c =
    let is : c.from_residual-in_err-reply.result ≡ Err c.in_err-reply.field-0.0 = search rules in
    let other : c.from_residual-in_err-reply.result ≢ Err WriteFault = search rules in
    let told = c.loop-count.invariant.faults in (
      told.0,
      rw c.in_err-reply.ensures.causes.kept told.1,
      LinesEnd-before _ _ _ _ _ _ c.from_residual-in_err-reply.result c.in_err-reply.field-0.0 is other
          (faults_before _ _ _ _ _ _ _ (Progress-taken _ _ _ _ _ _ _ _ c.in-Some.size _ told.2
          (rw c.in-Some.is at c.in_ok-size.ensures.line))),
    )

pub returns-in_err-reply-clause-stores : goal.returns-in_err-reply-clause-stores
returns-in_err-reply-clause-stores g c =
    let is : c.from_residual-in_err-reply.result ≡ Err c.in_err-reply.field-0.0 = search rules in
    let other : c.from_residual-in_err-reply.result ≢ Err WriteFault = search rules in
    let told = c.loop-count.invariant.counted in (
      told.0,
      rw c.in_err-reply.ensures.stores.kept told.1,
      LinesEnd-before _ _ _ _ _ _ c.from_residual-in_err-reply.result c.in_err-reply.field-0.0 is other
          (faults_before _ _ _ _ _ _ _ (Progress-taken _ _ _ _ _ _ _ _ c.in-Some.size _ told.2
          (rw c.in-Some.is at c.in_ok-size.ensures.line))),
    )

pub returns-in_err-reply-clause-keeps : goal.returns-in_err-reply-clause-keeps
returns-in_err-reply-clause-keeps g c = keeps_on _ _ _ _ c.loop-count.invariant.keeps c.reply_to.ensures.keeps

pub returns-in_err-reply-clause-limit : goal.returns-in_err-reply-clause-limit
returns-in_err-reply-clause-limit g c =
    (c.next_line.new.left, Charges-trans _ _ _ _ _ _ c.loop-count.invariant.charged c.next_line.ensures.charged)

-- ---- a write failed

pub returns-in_default-write_line-clause-answers : goal.returns-in_default-write_line-clause-answers
returns-in_default-write_line-clause-answers g c =
    let front = c.in_default-write_line.ensures.front in
    let B = g.B.Books in
    let reply = rw c.as_slice.ensures.value at c.in_ok-reply.ensures.reply in
    let lasts = rw c.as_slice.ensures.value at c.in_ok-reply.ensures.lasts in
    let asks = rw c.as_slice.ensures.value at c.in_ok-reply.ensures.asks in
    lines_end B _ c.reply_to.new.desk _ (leaves_none _ _) (B.tables c.reply_to.new.desk) _ _ _ _ _ (Err WriteFault)
    (Progress-during _ _ _ _ _ _ _ _ _ _ _ c.in-Some.size _ _ _ c.loop-count.invariant.answered
    (rw c.in-Some.is at c.in_ok-size.ensures.line)
    (lines_push B g.met.B.Books.settled _ _ _ (B.tables c.loop-count.desk) (B.tables c.reply_to.new.desk)
    _ _ _ c.loop-count.invariant.keeps c.reply_to.ensures.keeps reply lasts asks)
    front.0 front.1)

pub returns-in_default-write_line-clause-failures : goal.returns-in_default-write_line-clause-failures
returns-in_default-write_line-clause-failures g c =
    let front = c.in_default-write_line.ensures.front in
    let told = c.loop-count.invariant.faults in
    let causes = c.in_ok-reply.ensures.causes.told in (
      told.0 + causes.0,
      HaveFailed-push told.0 causes.0 _ _ _ told.1 causes.2,
      Progress-during _ _ _ _ _ _ _ _ _ _ _ c.in-Some.size _ _ _ told.2
          (rw c.in-Some.is at c.in_ok-size.ensures.line)
          (faults_push told.0 causes.0 _ (g.B.Books.tables c.loop-count.desk) (g.B.Books.tables c.reply_to.new.desk) _ _ causes.1)
          front.0 front.1,
    )

pub returns-in_default-write_line-clause-stores : goal.returns-in_default-write_line-clause-stores
returns-in_default-write_line-clause-stores g c =
    let front = c.in_default-write_line.ensures.front in
    let told = c.loop-count.invariant.counted in
    let more = counted_push told.0 _ _ _ _ told.1 c.in_ok-reply.ensures.stores.told in (
      told.0 + more.0,
      more.2,
      Progress-during _ _ _ _ _ _ _ _ _ _ _ c.in-Some.size _ _ _ told.2
          (rw c.in-Some.is at c.in_ok-size.ensures.line)
          (faults_push told.0 more.0 _ (g.B.Books.tables c.loop-count.desk) (g.B.Books.tables c.reply_to.new.desk) _ _ more.1)
          front.0 front.1,
    )

pub returns-in_default-write_line-clause-fails : goal.returns-in_default-write_line-clause-fails
returns-in_default-write_line-clause-fails g c = record {
  read_fault = search rules;
  write_fault = λ _. rw c.loop-count.invariant.writes at c.in_default-write_line.ensures.failed;
  reads = λ _. c.in_ok-size.ensures.kept (search rules) ∙ c.loop-count.invariant.reads;
  writes = search rules;
}

pub returns-in_default-write_line-clause-limit : goal.returns-in_default-write_line-clause-limit
returns-in_default-write_line-clause-limit g c =
    (c.next_line.new.left, Charges-trans _ _ _ _ _ _ c.loop-count.invariant.charged c.next_line.ensures.charged)

pub returns-in_default-write_line-clause-keeps : goal.returns-in_default-write_line-clause-keeps
returns-in_default-write_line-clause-keeps g c = keeps_on _ _ _ _ c.loop-count.invariant.keeps c.reply_to.ensures.keeps

-- ---- a line was answered

pub loop-count-preserved : goal.loop-count-preserved
loop-count-preserved g c =
    let B = g.B.Books in
    let invariant = c.loop-count.invariant in
    record {
      answered =
          let reply = rw c.as_slice.ensures.value at c.in_ok-reply.ensures.reply in
          let lasts = rw c.as_slice.ensures.value at c.in_ok-reply.ensures.lasts in
          let asks = rw c.as_slice.ensures.value at c.in_ok-reply.ensures.asks in
          Progress-push _ _ _ _ _ _ _ _ _ _ _ c.in-Some.size _ _ invariant.answered
          (rw c.in-Some.is at c.in_ok-size.ensures.line)
          (lines_push B g.met.B.Books.settled _ _ _ (B.tables c.loop-count.desk) (B.tables c.reply_to.new.desk)
          _ _ _ invariant.keeps c.reply_to.ensures.keeps reply lasts asks)
          c.in-Ok.ensures.whole;
      faults = let causes = c.in_ok-reply.ensures.causes.told in (
        invariant.faults.0 + causes.0,
        HaveFailed-push invariant.faults.0 causes.0 _ _ _ invariant.faults.1 causes.2,
        Progress-push _ _ _ _ _ _ _ _ _ _ _ c.in-Some.size _ _ invariant.faults.2
            (rw c.in-Some.is at c.in_ok-size.ensures.line)
            (faults_push invariant.faults.0 causes.0 _ (B.tables c.loop-count.desk) (B.tables c.reply_to.new.desk) _ _ causes.1)
            c.in-Ok.ensures.whole,
      );
      counted =
          let more = counted_push invariant.counted.0 _ _ _ _ invariant.counted.1 c.in_ok-reply.ensures.stores.told in (
            invariant.counted.0 + more.0,
            more.2,
            Progress-push _ _ _ _ _ _ _ _ _ _ _ c.in-Some.size _ _ invariant.counted.2
                (rw c.in-Some.is at c.in_ok-size.ensures.line)
                (faults_push invariant.counted.0 more.0 _ (B.tables c.loop-count.desk) (B.tables c.reply_to.new.desk) _ _ more.1)
                c.in-Ok.ensures.whole,
          );
      charged = Charges-trans _ _ _ _ _ _ invariant.charged c.next_line.ensures.charged;
      spent = let less = rw c.in-Some.is at c.in_ok-size.ensures.left in omega (arith, less.1, invariant.spent);
      reads = c.in_ok-size.ensures.kept (search rules) ∙ invariant.reads;
      writes = c.in-Ok.ensures.kept ∙ invariant.writes;
      keeps = keeps_on _ _ _ _ invariant.keeps c.reply_to.ensures.keeps;
    }

-- ---- no more lines may be read

pub returns-clause-answers : goal.returns-clause-answers
returns-clause-answers g c =
    lines_end g.B.Books _ _ _ (leaves_none _ _) _ _ _ _ _ _ (Err ReadFault)
    (Progress-part _ _ _ _ _ _ _ _ c.loop-count.invariant.answered (PartIsTaken-none _))

pub returns-clause-failures : goal.returns-clause-failures
returns-clause-failures g c =
    let told = c.loop-count.invariant.faults in
    (told.0, told.1, Progress-part _ _ _ _ _ _ _ _ told.2 (PartIsTaken-none _))

pub returns-clause-stores : goal.returns-clause-stores
returns-clause-stores g c =
    let told = c.loop-count.invariant.counted in
    (told.0, told.1, Progress-part _ _ _ _ _ _ _ _ told.2 (PartIsTaken-none _))

pub returns-clause-fails : goal.returns-clause-fails
returns-clause-fails g c =
    let all : c.loop-count.count ≡ 1099511627776 = search rules in
    let none : c.loop-count.left ≡ 0 = omega (arith, all, c.loop-count.invariant.spent) in
    record {
      read_fault = λ _. inr (rw none at c.loop-count.invariant.charged);
      write_fault = λ e. cc e;
      reads = λ _. c.loop-count.invariant.reads;
      writes = λ _. c.loop-count.invariant.writes;
    }
