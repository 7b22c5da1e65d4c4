use Rattle.index_sql_reads.proofs.Words.{◌∙◌, [], Err, not, rules, inl, refl, subst, sym, state, HasCleanDisk, has_fault, is_fault}
use Rattle.index_sql_reads.proofs.Words.{fault_by, IsIndexConnection, QueriesOnly, clean_before, looks_kept, reasoned, IsGiving, IsOf}
use Rattle.index_sql_reads.proofs.Words.{QueryEndsForReason, on_store}
use Rattle.sqlite.specs.Values.{bound}
use Rattle.index_sql_schema.proofs.LookLemmas.{looks_refused}
use Rattle.index_sql_reads.proofs.WalkLemmas.{fault_told, faulted_as}
use Rattle.index_sql_reads.proofs.QueryLemmas.{begins, ends_by, handed_looks, handed_of, looks_faulty}
use Rattle.index_sql_reads.proofs.walk.walk.Goals as goal

-- ---- when the query begins, of the connection inside

given : (g : _) (c : goal.After-conn-2-1 g) → IsGiving g.S.Store c.args.query.now (bound c.args.params.now)
    c.conn.inside.conn c.hand_all.ensures.handed.last c.hand_all.ensures.handed.rows
given g c =
    let query = c.args.query.now in
    let params = bound c.args.params.now in
    let old = c.conn.inside.conn in
    let made = c.in-Ok.ensures in
    c.hand_all.ensures.handed.gives query params old
    (begins g.S.Store query params c.requires.plain old c.conn.invariant c.in-Ok.rows.conn.now (made.mode c.conn.invariant.outside)
    made.survives made.begun)

looked : (g : _) (c : goal.After-conn-2-1 g) → QueriesOnly g.S.Store c.conn.inside.conn c.hand_all.new.rows.conn.now
    (not (has_fault c.hand_all.result))
looked g c =
    let it = c.hand_all.ensures.handed in
    handed_looks g.S.Store c.args.query.now (bound c.args.params.now)
    c.requires.plain c.conn.inside.conn c.conn.invariant it.last c.hand_all.new.rows.conn.now c.hand_all.result
    (given g c).stayed it.looks

pub invariant_of-conn-2 : goal.invariant_of-conn-2
invariant_of-conn-2 g c = subst (IsIndexConnection g.S.Store) (search rules)
    (looks_kept g.S.Store c.conn.inside.conn c.hand_all.new.rows.conn.now _ c.conn.invariant (looked g c))

pub returns-clause-handed : goal.returns-clause-handed
returns-clause-handed g c =
    let query = c.args.query.now in
    let params = bound c.args.params.now in
    let old = c.conn.inside.conn in
    let now = c.hand_all.new.rows.conn.now in
    let it = c.hand_all.ensures.handed in
    let result = c.hand_all.result in
    let of : HasCleanDisk (state g.S.Store now)
    → IsOf g.S.Store query params old it.rows result =
    handed_of g.S.Store query params c.requires.plain old c.conn.invariant it.last now it.rows result (given g c) it.looks in
    record {
      rows = it.rows;
      walks = it.walks;
      shown = λ clean. subst (λ held. IsOf g.S.Store query params held it.rows result) c.conn.view_is (of (search rules));
    }

pub returns-clause-looks : goal.returns-clause-looks
returns-clause-looks g c =
    let did = not (has_fault c.hand_all.result) in
    subst (λ new. QueriesOnly g.S.Store c.args.conn.now new did) (search rules)
    (subst (λ held. QueriesOnly g.S.Store held c.hand_all.new.rows.conn.now did) c.conn.view_is (looked g c))

pub returns-clause-reason : goal.returns-clause-reason
returns-clause-reason g c sure =
    let query = c.args.query.now in
    let params = bound c.args.params.now in
    let old = c.conn.inside.conn in
    let now = c.hand_all.new.rows.conn.now in
    let it = c.hand_all.ensures.handed in
    let result = c.hand_all.result in
    let ends : QueryEndsForReason g.R.FromRow.is_row query params (on_store g.S.Store old now) result = record {
      reason = ends_by g.S.Store query params c.requires.plain old c.conn.invariant g.R.FromRow.is_row it.last now it.rows result sure
          (given g c) it.looks (λ clean gave. it.reason clean query params gave);
    } in
    subst (λ new. QueryEndsForReason g.R.FromRow.is_row query params (on_store g.S.Store c.args.conn.now new) result) (search rules)
    (subst (λ held. QueryEndsForReason g.R.FromRow.is_row query params (on_store g.S.Store held now) result) c.conn.view_is ends)

-- ---- if it is refused

refused : (g : _) (c : goal.After-end_of g) → QueriesOnly g.S.Store c.conn.inside.conn c.query.follows.lender-at-none
    (not (is_fault c.end_of.result))
refused g c =
    let old = c.conn.inside.conn in
    let now = c.query.follows.lender-at-none in
    let held = rw c.in-Err.is at c.query.follows.holds-at-none in
    looks_faulty g.S.Store old now (fault_by c.in-Err.error) c.end_of.result c.end_of.ensures
    (looks_refused g.S.Store old now c.args.query.now (bound c.args.params.now) c.requires.plain c.conn.invariant
    (held.mode c.conn.invariant.outside) held.survives c.in-Err.error held.err)

pub invariant_of-conn : goal.invariant_of-conn
invariant_of-conn g c = looks_kept g.S.Store _ _ _ c.conn.invariant (refused g c)

pub returns-in-Err-clause-handed : goal.returns-in-Err-clause-handed
returns-in-Err-clause-handed g c = record {
  rows = [];
  walks = faulted_as (λ before row after. g.K.Taker.takes before (g.R.FromRow.stands_for row) after)
      (λ before row after. g.K.Taker.stops before (g.R.FromRow.stands_for row) after) (fault_by c.in-Err.error)
      c.end_of.result c.end_of.ensures [] c.args.taker.now c.args.taker.now refl;
  shown = λ clean. inl refl;
}

pub returns-in-Err-clause-looks : goal.returns-in-Err-clause-looks
returns-in-Err-clause-looks g c = subst (λ held. QueriesOnly g.S.Store held c.query.follows.lender-at-none (not (is_fault c.end_of.result)))
    c.conn.view_is (refused g c)

pub returns-in-Err-clause-reason : goal.returns-in-Err-clause-reason
returns-in-Err-clause-reason g c sure =
    let old = c.conn.inside.conn in
    let now = c.query.follows.lender-at-none in
    let held = rw c.in-Err.is at c.query.follows.holds-at-none in
    let ends : QueryEndsForReason g.R.FromRow.is_row c.args.query.now (bound c.args.params.now) (on_store g.S.Store old now)
    (Err c.end_of.result) = record {
      reason = λ clean is.
          let before = clean_before (state g.S.Store old) (state g.S.Store now) _ held.survives clean in
          inl (reasoned g.S.Store old now c.args.query.now (bound c.args.params.now) c.in-Err.error c.conn.invariant before sure
          (held.err clean) (fault_told (fault_by c.in-Err.error) (sym c.end_of.ensures ∙ is)));
    } in
    subst (λ held. QueryEndsForReason g.R.FromRow.is_row c.args.query.now (bound c.args.params.now) (on_store g.S.Store held now)
    (Err c.end_of.result)) c.conn.view_is ends
