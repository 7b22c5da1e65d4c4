use Rattle.index_plain.proofs.Words.{sym, ap, ◌∙◌, rules}
use Rattle.std.specs.BTreeMap.{get}
use Rattle.index_plain.proofs.TreeLemmas.{get_map}
use Rattle.index_plain.proofs.table.replace.Goals as goal

pub returns-clause-former : goal.returns-clause-former
returns-clause-former g c =
    let key = g.met.K.Key.copied c.args.key.now c.in_ok-clone.field-0 (search rules) in
    c.in_ok-insert.ensures.old ∙ ap (get g.K.Ord.cmp c.args.map.now) key ∙ sym (get_map g.met.K.Ord.total c.args.map.now c.args.key.now)
