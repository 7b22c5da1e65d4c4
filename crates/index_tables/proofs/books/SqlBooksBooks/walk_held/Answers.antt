use Rattle.index_tables.proofs.Words.{◌≡◌, not, rules, subst, next_count, has_fault, to_taker, CountsStoreFault, ends_by_store, BooksState}
use Rattle.index_tables.proofs.Words.{WalksBooks, with_books}
use Rattle.index_rules.specs.TableRows.{held_rows_in}
use Rattle.index_tables.proofs.KeptLemmas.{walks}
use Rattle.index_tables.proofs.books.SqlBooksBooks.walk_held.Goals as goal

pub returns : goal.returns
returns g c =
    let rows_in = held_rows_in in
    let new : BooksState _ = record {
      conn = c.walk_held-ended.new.conn;
      failures = c.next_count-self-inside.result;
      stores = c.next_count-self-inside-2.result;
    } in
    let old : BooksState _ = record { conn = c.self.inside.conn; failures = c.self.inside.failures; stores = c.self.inside.stores } in
    let count : new.failures ≡ next_count old.failures (not (has_fault c.walk_held-ended.result)) = search rules in
    let stores : CountsStoreFault old.stores new.stores (ends_by_store c.walk_held-ended.result) = search rules in
    let taker = to_taker g.K.Taker.takes g.K.Taker.stops c.args.taker.now c.walk_held-ended.new.taker in
    subst (λ before. WalksBooks rows_in (with_books g.V.Version.number g.S.Store before new) taker c.walk_held-ended.result) c.self.view_is
    (walks rows_in (with_books g.V.Version.number g.S.Store old new) taker c.walk_held-ended.result c.walk_held-ended.ensures count stores)
