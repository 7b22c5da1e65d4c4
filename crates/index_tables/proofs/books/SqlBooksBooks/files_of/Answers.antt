use Rattle.index_tables.proofs.Words.{◌≡◌, is_ok, rules, subst, next_count, file_rows_in, CountsStoreFault, fails_by_store, BooksState}
use Rattle.index_tables.proofs.Words.{LooksFor}
use Rattle.index_tables.proofs.KeptLemmas.{finds}
use Rattle.index_tables.proofs.books.SqlBooksBooks.files_of.Goals as goal

pub returns : goal.returns
returns g c =
    let new : BooksState _ = record {
      conn = c.files_of-rows.new.conn;
      failures = c.next_count-self-inside.result;
      stores = c.next_count-self-inside-2.result;
    } in
    let old : BooksState _ = record { conn = c.self.inside.conn; failures = c.self.inside.failures; stores = c.self.inside.stores } in
    let count : new.failures ≡ next_count old.failures (is_ok c.files_of-rows.result) = search rules in
    let stores : CountsStoreFault old.stores new.stores (fails_by_store c.files_of-rows.result) = search rules in
    subst (λ before. LooksFor g.V.Version.number g.S.Store before new c.files_of-rows.result
    (λ T it. it.items ≡ file_rows_in T c.args.name.now)) c.self.view_is
    (finds g.V.Version.number g.S.Store old new _ _ c.files_of-rows.ensures count stores)
