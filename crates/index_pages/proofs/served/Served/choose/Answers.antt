use Rattle.index_pages.proofs.Words.{◌≡◌, sym, ◌∙◌, ap, suc, drop, map, get_or, Bor, List, ℕ, [], arith, add-one, byte, items_of, item_of}
use Rattle.index_pages.proofs.Words.{cut_at, after_all, no_tally}
use Rattle.std.proofs.lemmas.List.{drop_all}
use Rattle.index_pages.proofs.TallyLemmas.{after_all-append, items_of-drop, tally_readable, chooses_any, chooses_best}
use Rattle.index_pages.proofs.served.Served.choose.Goals as goal

no_value : Bor (List ℕ)
no_value = record { ref_ptr = (0, 0); now = [] }

pub loop-value-preserved : goal.loop-value-preserved
unfolding no_value
loop-value-preserved c =
    let tally = c.loop-value.tally in
    let rest = items_of-drop c.args.accept.now c.loop-value.value-index no_value c.loop-value-test.true in
    let items = map item_of (cut_at (byte ",") (get_or c.args.accept.now c.loop-value.value-index no_value).now) in
    let later = items_of (drop (suc c.loop-value.value-index) c.args.accept.now) in
    rw (add-one, c.with_value-tally.ensures)
    (sym (after_all-append tally items later) ∙ ap (after_all tally) (sym rest) ∙ c.loop-value.invariant)

-- the tally at the end of the loop
pub returns-else-tally : goal.returns-else-tally
unfolding after_all items_of
returns-else-tally c =
    let items = items_of c.args.accept.now in
    let none = drop_all c.loop-value.value-index c.args.accept.now (omega arith) in
    let all : c.loop-value.tally ≡ after_all no_tally items = rw (none, c.new-tally.ensures) at c.loop-value.invariant in
    chooses_any items (sym (tally_readable c.loop-value.tally items all) ∙ c.if-tally.false)

pub returns-then-tally : goal.returns-then-tally
unfolding after_all items_of
returns-then-tally c =
    let items = items_of c.args.accept.now in
    let none = drop_all c.loop-value.value-index c.args.accept.now (omega arith) in
    let all : c.loop-value.tally ≡ after_all no_tally items = rw (none, c.new-tally.ensures) at c.loop-value.invariant in
    chooses_best items c.loop-value.tally c.choose.result all c.if-tally.true c.choose.ensures
