use Rattle.index_tables.proofs.Words.{◌≡◌, rules, subst, sym, HasVersion, tables_of}
use Rattle.index_tables.proofs.books.SqlBooks.into_connection.Goals as goal

pub returns-clause-honest : goal.returns-clause-honest
returns-clause-honest g c working =
    let kept : HasVersion g.V.Version.number g.S.Store c.conn.inside.conn =
    subst (HasVersion g.V.Version.number g.S.Store) (sym c.conn.view_is) c.self.invariant in
    record {
      clean = working.clean;
      is_open = working.is_open;
      index = c.conn.invariant.index working.clean working.is_open;
      committed = c.conn.invariant.committed working.clean working.is_open;
      version = kept working.clean working.is_open;
    }

pub returns-clause-committed : goal.returns-clause-committed
returns-clause-committed g c honest =
    let same : tables_of g.S.Store c.args.self.conn ≡ tables_of g.S.Store c.conn.inside.conn = search rules in
    record { current = record { index = honest.index; version = honest.version; tables = same }; committed = honest.committed }
