use Rattle.index_plain.proofs.Words.{sym, ap, ◌∙◌, is_some, map_of, with_at}
use Rattle.index_plain.proofs.TreeLemmas.{get_map, map_insert}
use Rattle.index_plain.proofs.table.put_back.Goals as goal

pub returns-in-Some-get_mut : goal.returns-in-Some-get_mut
returns-in-Some-get_mut g c =
    let total = g.met.K.Ord.total in
    map_insert total g.met.K.Key.exact c.args.map.now (c.get_mut.follows.lender c.in-Some.value) c.args.key.now c.in-Some.value
    ((c.get_mut.follows.holds c.in-Some.value).3 (ap is_some (sym (get_map total c.args.map.now c.args.key.now)) ∙ c.requires))
    ∙ ap (with_at (map_of g.K.Ord.cmp c.args.map.now) c.args.key.now) (sym c.in-Some.is)
