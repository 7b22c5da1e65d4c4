use Rattle.index_sql_opening.proofs.Words.{◌≡◌, false, rules, subst, state, IsSound, index_schema, first_version_schema}
use Rattle.sqlite.specs.State.{IsLive}
use Rattle.index_sql_opening.proofs.RowidLemmas.{numbered_from}
use Rattle.index_sql_opening.proofs.connections.expose_invariants.Goals as goal

pub returns-clause-index : goal.returns-clause-index
returns-clause-index g c is_open schema =
    let v = g.S.Store.view c.args.conn.store in
    let unbroken : v.is_broken ≡ false = search rules in
    let live : IsLive (state g.S.Store c.args.conn) = search rules in
    let sound : IsSound index_schema v.trees = subst (λ s. IsSound s v.trees) schema (live is_open).0 in
    record {
      schema = schema;
      sound = (live is_open).0;
      numbered = numbered_from index_schema v (g.met.S.Alter.listed c.args.conn.store unbroken)
          (g.met.S.Store.ordered c.args.conn.store unbroken) sound;
    }

pub returns-clause-first_version : goal.returns-clause-first_version
returns-clause-first_version g c is_open schema =
    let v = g.S.Store.view c.args.conn.store in
    let unbroken : v.is_broken ≡ false = search rules in
    let live : IsLive (state g.S.Store c.args.conn) = search rules in
    let sound : IsSound first_version_schema v.trees = subst (λ s. IsSound s v.trees) schema (live is_open).0 in
    record {
      schema = schema;
      sound = (live is_open).0;
      numbered = numbered_from first_version_schema v (g.met.S.Alter.listed c.args.conn.store unbroken)
          (g.met.S.Store.ordered c.args.conn.store unbroken) sound;
    }
