use Rattle.index_sql_schema.proofs.Words.{true, false, sym, ◌∙◌, subst, state, IsIndex, QueriesOnly, HasReason}
use Rattle.index_sql_schema.proofs.LookLemmas.{index_shown, looks_shown, looks_refused, looks_kept, reasoned}
use Rattle.index_sql_schema.proofs.connection.look.Goals as goal

-- what the query leaves of the connection inside
refused : (g : _) (c : goal.After-fault_of g) → QueriesOnly g.S.Store c.conn.inside.conn c.query_all.new.self false
refused g c =
    looks_refused g.S.Store c.conn.inside.conn c.query_all.new.self _ _ c.requires.plain c.conn.invariant
    (c.query_all.ensures.mode c.conn.invariant.outside) c.query_all.ensures.survives _ c.in-Err.ensures.err

shown : (g : _) (c : goal.In-Ok g) → QueriesOnly g.S.Store c.conn.inside.conn c.query_all.new.self true
shown g c =
    looks_shown g.S.Store c.conn.inside.conn c.query_all.new.self _ _ c.requires.plain c.conn.invariant
    (c.query_all.ensures.mode c.conn.invariant.outside) c.query_all.ensures.survives _ c.in-Ok.ensures.ok

pub invariant_of-conn : goal.invariant_of-conn
invariant_of-conn g c = looks_kept g.S.Store _ _ false c.conn.invariant (refused g c)

pub returns-in-Err-clause-looks : goal.returns-in-Err-clause-looks
returns-in-Err-clause-looks g c = subst (λ old. QueriesOnly g.S.Store old c.query_all.new.self false) c.conn.view_is (refused g c)

pub returns-in-Err-clause-reason : goal.returns-in-Err-clause-reason
returns-in-Err-clause-reason g c sure clean is =
    let before = (refused g c).was_clean clean in
    subst (λ old. HasReason (state g.S.Store old) (state g.S.Store c.query_all.new.self)) c.conn.view_is
    (reasoned g.S.Store c.conn.inside.conn c.query_all.new.self _ _ _ c.conn.invariant before sure (c.in-Err.ensures.err clean)
    (sym c.fault_of.ensures ∙ is))

pub invariant_of-conn-2 : goal.invariant_of-conn-2
invariant_of-conn-2 g c = looks_kept g.S.Store _ _ true c.conn.invariant (shown g c)

pub returns-clause-index : goal.returns-clause-index
returns-clause-index g c clean =
    subst (λ old. IsIndex (state g.S.Store old).now) c.conn.view_is
    (index_shown g.S.Store c.conn.inside.conn c.query_all.new.self _ _ c.requires.plain c.conn.invariant
    (c.query_all.ensures.mode c.conn.invariant.outside) c.query_all.ensures.survives clean _ (c.in-Ok.ensures.ok clean))

pub returns-clause-looks : goal.returns-clause-looks
returns-clause-looks g c = subst (λ old. QueriesOnly g.S.Store old c.query_all.new.self true) c.conn.view_is (shown g c)
