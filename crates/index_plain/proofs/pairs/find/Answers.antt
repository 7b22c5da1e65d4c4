use Rattle.index_plain.proofs.Words.{sym, ap, ◌∙◌, option_copied, get, get-empty, map_of}
use Rattle.index_plain.proofs.PairLemmas.{get_pairs, inner_of}
use Rattle.index_plain.proofs.pairs.find.Goals as goal

pub returns-in-Some : goal.returns-in-Some
returns-in-Some g c =
    let a = g.met.A in
    let b = g.met.B in
    c.find-in-Some.ensures
    ∙ ap (λ at. get (inner_of g.B.Ord.cmp at) c.args.second.now) (sym (ap option_copied c.in-Some.is) ∙ c.find.ensures)
    ∙ sym (get_pairs a.Ord.total b.Ord.total a.Key.exact b.Key.exact (map_of g.A.Ord.cmp c.args.map.now) c.args.first.now c.args.second.now)

pub returns-in-None : goal.returns-in-None
returns-in-None g c =
    let a = g.met.A in
    let b = g.met.B in
    sym (get-empty g.B.Ord.cmp c.args.second.now)
    ∙ ap (λ at. get (inner_of g.B.Ord.cmp at) c.args.second.now) (sym (ap option_copied c.in-None.is) ∙ c.find.ensures)
    ∙ sym (get_pairs a.Ord.total b.Ord.total a.Key.exact b.Key.exact (map_of g.A.Ord.cmp c.args.map.now) c.args.first.now c.args.second.now)
