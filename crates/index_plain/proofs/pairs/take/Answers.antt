use Rattle.index_plain.proofs.Words.{sym, ap, ◌∙◌, is_some, option_copied_mut, remove, map_of, pairs_of}
use Rattle.index_plain.proofs.TreeLemmas.{get_map, map_insert}
use Rattle.index_plain.proofs.PairLemmas.{inner_of, pairs_take, pairs_absent}
use Rattle.index_plain.proofs.pairs.take.Goals as goal

pub returns-in-Some : goal.returns-in-Some
returns-in-Some g c =
    let a = g.met.A in
    let b = g.met.B in
    let before = c.args.map.now in
    let inner = c.remove.new.map in
    let after = c.get_mut.follows.lender inner in
    let at = sym c.get_mut.ensures.value ∙ ap option_copied_mut c.in-Some.is in
    let there = map_insert a.Ord.total a.Key.exact before after c.args.first.now inner ((c.get_mut.follows.holds inner).3 (ap is_some at))
    in
    pairs_take a.Ord.total b.Ord.total a.Key.exact b.Key.exact (map_of g.A.Ord.cmp before) (map_of g.A.Ord.cmp after)
    c.args.first.now inner there c.args.second.now
    (c.remove.ensures ∙ ap (λ x. remove (inner_of g.B.Ord.cmp x) c.args.second.now)
    (sym (get_map a.Ord.total before c.args.first.now ∙ at)))

pub returns-in_default : goal.returns-in_default
returns-in_default g c =
    let a = g.met.A in
    let b = g.met.B in
    let before = c.args.map.now in
    ap (λ m. pairs_of g.A.Ord.cmp g.B.Ord.cmp (map_of g.A.Ord.cmp m)) c.get_mut.follows.holds-at-none
    ∙ pairs_absent a.Ord.total b.Ord.total a.Key.exact b.Key.exact (map_of g.A.Ord.cmp before) c.args.first.now c.args.second.now
    (get_map a.Ord.total before c.args.first.now ∙ sym c.get_mut.ensures.value ∙ ap option_copied_mut c.in_default.is)
