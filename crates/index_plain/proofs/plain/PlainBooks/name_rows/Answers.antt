use Rattle.index_plain.proofs.Words.{◌≡◌, [], ◌++◌, map, sym, ap, ◌∙◌, nat_list_cmp_total, exact_bytes, rest_all, deref_pair, append-nil}
use Rattle.index_plain.proofs.Words.{name_row}
use Rattle.index_plain.proofs.TreeLemmas.{entries_map}
use Rattle.index_plain.proofs.plain.PlainBooks.name_rows.Goals as goal

pub returns : goal.returns
returns c =
    let names = c.args.self.now.names in
    let rows = c.loop-name.rows.items in
    let none : c.loop-name.name-iterator ≡ [] = rest_all deref_pair _ _ _ c.in-None.is c.next.ensures.steps in
    sym (append-nil rows) ∙ ap (λ es. rows ++ map name_row es) (sym none) ∙ c.loop-name.invariant
    ∙ ap (map name_row) (sym (entries_map nat_list_cmp_total exact_bytes names c.iter-name-items.ensures.ordered))
