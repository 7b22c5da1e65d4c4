use Rattle.index_tables.proofs.Words.{◌≡◌, is_ok, rules, subst, next_count, CountsStoreFault, fails_by_store, BooksState, SqlLooks}
use Rattle.index_tables.proofs.KeptLemmas.{looks_up}
use Rattle.index_tables.proofs.books.SqlBooksBooks.bytes_of.Goals as goal

pub returns-clause-looks : goal.returns-clause-looks
returns-clause-looks g c =
    let new : BooksState _ = record {
      conn = c.find_body-body.new.conn;
      failures = c.next_count-self-inside.result;
      stores = c.next_count-self-inside-2.result;
    } in
    let old : BooksState _ = record { conn = c.self.inside.conn; failures = c.self.inside.failures; stores = c.self.inside.stores } in
    let count : new.failures ≡ next_count old.failures (is_ok c.find_body-body.result) = search rules in
    let stores : CountsStoreFault old.stores new.stores (fails_by_store c.find_body-body.result) = search rules in
    subst (λ before. SqlLooks g.V.Version.number g.S.Store before new (is_ok c.find_body-body.result)
    (fails_by_store c.find_body-body.result)) c.self.view_is
    (looks_up g.V.Version.number g.S.Store old new _ _ c.find_body-body.ensures.looks count stores)
