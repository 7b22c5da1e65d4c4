use Rattle.index_plain.proofs.Words.{◌≡◌, [], ◌++◌, sym, ap, ◌∙◌, nat_list_cmp_total, exact_bytes, rest_all, deref_pair, append-nil}
use Rattle.index_plain.proofs.Words.{plain_tables}
use Rattle.index_plain.proofs.RowLemmas.{file_rows_of}
use Rattle.index_plain.proofs.TreeLemmas.{entries_map}
use Rattle.index_plain.proofs.plain.PlainBooks.file_rows.Goals as goal

pub returns : goal.returns
returns c =
    let books = c.args.self.now in
    let rows = c.loop-file.rows.items in
    let none : c.loop-file.file-iterator ≡ [] = rest_all deref_pair _ _ _ c.in-None.is c.next.ensures.steps in
    sym (append-nil rows) ∙ ap (λ es. rows ++ file_rows_of (plain_tables books) c.args.name.now es) (sym none) ∙ c.loop-file.invariant
    ∙ ap (file_rows_of (plain_tables books) c.args.name.now)
    (sym (entries_map nat_list_cmp_total exact_bytes books.files c.iter-file-items.ensures.ordered))
