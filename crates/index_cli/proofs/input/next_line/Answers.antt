use Rattle.index_cli.proofs.Words.{◌∙◌, ℕ, Option, Result, Ok, Err, arith, LineEnd}
use Rattle.std.proofs.Common.{OnErr}
use Rattle.index_cli.proofs.Cuts.{Grows-byte, Grows-feed, Grows-part, Grows-push}
use Rattle.index_cli.proofs.input.next_line.Goals as goal

whatever_the_end : (r : Result (Option ℕ) LineEnd) (P : Type 0) → P → OnErr r P
whatever_the_end (Ok size) P p = tt
whatever_the_end (Err end) P p = p

pub returns-then-byte-eq10-clause-line : goal.returns-then-byte-eq10-clause-line
returns-then-byte-eq10-clause-line g c =
    Grows-feed _ _ _ _ _ c.loop-size.invariant.grows (rw (c.in-Some.is, c.if-byte-eq10.true) at c.in-Ok.ensures.byte)

pub returns-then-byte-eq10-clause-charged : goal.returns-then-byte-eq10-clause-charged
returns-then-byte-eq10-clause-charged g c =
    let (taken, consumed, long) = Grows-byte _ _ _ _ _ _ c.loop-size.invariant.grows (rw c.in-Some.is at c.in-Ok.ensures.byte) in
    (taken, consumed, omega (arith, long, c.loop-size.invariant.counted, c.loop-size-test.true))

pub returns-in_err-keep_front-in-Some-clause-part : goal.returns-in_err-keep_front-in-Some-clause-part
returns-in_err-keep_front-in-Some-clause-part g c =
    whatever_the_end c.from_residual.result _
    (Grows-part _ _ _ _ _ _ c.loop-size.invariant.grows (rw c.in-Some.is at c.in-Ok.ensures.byte) c.if-byte-eq10.false)

pub returns-in_err-keep_front-in-Some-clause-charged : goal.returns-in_err-keep_front-in-Some-clause-charged
returns-in_err-keep_front-in-Some-clause-charged g c =
    let (taken, consumed, long) = Grows-byte _ _ _ _ _ _ c.loop-size.invariant.grows (rw c.in-Some.is at c.in-Ok.ensures.byte) in
    (taken, consumed, omega (arith, long, c.loop-size.invariant.counted, c.loop-size-test.true))

pub loop-size-preserved : goal.loop-size-preserved
loop-size-preserved g c = record {
  grows = Grows-push _ _ _ _ _ _ _ c.loop-size.invariant.grows (rw c.in-Some.is at c.in-Ok.ensures.byte) c.if-byte-eq10.false
      c.in_ok-keep_front-in-Some.ensures.near c.in_ok-keep_front-in-Some.ensures.far;
  counted = omega (arith, c.loop-size.invariant.counted, c.loop-size-test.true);
  kept = c.in-Ok.ensures.failures ∙ c.loop-size.invariant.kept;
}
