use Rattle.index_tables.proofs.Words.{◌≡◌, is_ok, rules, subst, next_count, CountsStoreFault, fails_by_store, BooksState, LooksFor}
use Rattle.index_rules.specs.TableRows.{name_rows_in}
use Rattle.index_tables.proofs.KeptLemmas.{finds}
use Rattle.index_tables.proofs.books.SqlBooksBooks.names.Goals as goal

pub returns : goal.returns
returns g c =
    let new : BooksState _ = record {
      conn = c.names-rows.new.conn;
      failures = c.next_count-self-inside.result;
      stores = c.next_count-self-inside-2.result;
    } in
    let old : BooksState _ = record { conn = c.self.inside.conn; failures = c.self.inside.failures; stores = c.self.inside.stores } in
    let count : new.failures ≡ next_count old.failures (is_ok c.names-rows.result) = search rules in
    let stores : CountsStoreFault old.stores new.stores (fails_by_store c.names-rows.result) = search rules in
    subst (λ before. LooksFor g.V.Version.number g.S.Store before new c.names-rows.result (λ T it. it.items ≡ name_rows_in T))
    c.self.view_is (finds g.V.Version.number g.S.Store old new _ _ c.names-rows.ensures count stores)
