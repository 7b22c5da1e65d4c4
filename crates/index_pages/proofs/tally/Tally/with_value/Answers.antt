use Rattle.index_pages.proofs.Words.{◌≡◌, sym, ◌∙◌, ap, item_of, after, after_all, items_left}
use Rattle.index_pages.proofs.TallyLemmas.{after_all-cut}
use Rattle.index_pages.proofs.tally.Tally.with_value.Goals as goal

pub loop-left-preserved : goal.loop-left-preserved
loop-left-preserved c =
    let one = after_all-cut c.loop-left.tally c.in-Some.rest.now c.cut.result.0.now c.cut.result.1 c.cut.ensures.cut in
    let was = rw c.in-Some.is at c.loop-left.invariant in
    let step : c.with-tally.result ≡ after c.loop-left.tally (item_of c.cut.result.0.now) =
    c.with-tally.ensures ∙ ap (after c.loop-left.tally) c.read.ensures in
    ap (λ tally. after_all tally (items_left c.cut.result.1)) step ∙ sym one ∙ was

pub returns : goal.returns
unfolding after_all
returns c = rw c.in_default.is at c.loop-left.invariant
