use Rattle.index_pages.proofs.Words.{◌≡◌, arith, length, ◌-◌, ◌+◌, drop, add-one}
use Rattle.std.proofs.Common.{length-drop}
use Rattle.std.proofs.lemmas.List.{take_all}
use Rattle.index_pages.proofs.CutLemmas.{cut_at-none, cut_at-found}
use Rattle.index_pages.proofs.item.cut.Goals as goal

pub returns-then-bytes-at-clause-cut : goal.returns-then-bytes-at-clause-cut
returns-then-bytes-at-clause-cut c =
    let rest = take_all (length c.args.bytes.now - (c.loop-at.at + 1)) (drop (c.loop-at.at + 1) c.args.bytes.now)
    (omega (arith, length-drop (c.loop-at.at + 1) c.args.bytes.now)) in
    rw rest (rw add-one (cut_at-found c.args.separator c.loop-at.at c.args.bytes.now c.loop-at-test.true c.loop-at.invariant.lacks
    c.if-bytes-at.true))

pub returns-clause-cut : goal.returns-clause-cut
returns-clause-cut c =
    let all : length c.args.bytes.now ≡ c.loop-at.at = omega arith in
    cut_at-none c.args.separator c.args.bytes.now (rw all c.loop-at.invariant.lacks)
