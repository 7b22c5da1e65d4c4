use Rattle.index_sql_reads.proofs.Words.{◌≡◌, ◌∙◌, [], ◌∷◌, ◌++◌, inl, inr, Ok, Err, rules, sym, subst, arith, length-append, fault_by}
use Rattle.index_sql_reads.proofs.Words.{on_store}
use Rattle.index_rules.specs.declared.answer.Fault.TheVariants as fault
use Rattle.index_rules.proofs.WalkLemmas.{Walks-then}
use Rattle.index_rules.specs.Walks.{of_rows, to_taker}
use Rattle.index_sql_reads.specs.Handed.{HasHanded}
use Rattle.index_sql_reads.proofs.WalkLemmas.{fault_told, faulted, faulted_as, last_is}
use Rattle.index_sql_reads.proofs.QueryLemmas.{gives_on, none_left, query_failed, nothing_done, given_up}
use Rattle.index_sql_reads.proofs.walk.hand_all.Goals as goal

pub returns-in_err-hand-in-Ok-Some-clause-same_reference : goal.returns-in_err-hand-in-Ok-Some-clause-same_reference
returns-in_err-hand-in-Ok-Some-clause-same_reference g c = c.next.follows.holds-at-none.same_reference ∙ c.rows.invariant.0

pub returns-in_err-hand-in-Ok-Some-clause-handed : goal.returns-in_err-hand-in-Ok-Some-clause-handed
returns-in_err-hand-in-Ok-Some-clause-handed g c =
    let old = c.args.rows.now.conn.now in
    let mid = c.rows.rows.conn.now in
    let now = c.next.follows.lender-at-none.conn.now in
    let moved = c.next.follows.holds-at-none in
    let it = c.rows.invariant in
    let row = c.in-Ok-Some.row.now in
    let end = c.in_err-hand-in-Ok-Some.field-0.0 in
    let told : c.from_residual.result ≡ Err end = search rules in
    subst (λ result. HasHanded g.R.FromRow.is_row (on_store g.S.Store old now)
    (of_rows g.R.FromRow.stands_for (to_taker g.K.Taker.takes g.K.Taker.stops c.args.taker.now c.hand.new.taker)) result) (sym told)
    (record {
      rows = it.1 ++ row ∷ [];
      walks = Walks-then (λ before row after. g.K.Taker.takes before (g.R.FromRow.stands_for row) after)
          (λ before row after. g.K.Taker.stops before (g.R.FromRow.stands_for row) after) {A = Unit {0}} it.1 (row ∷ [])
          c.args.taker.now c.rows.taker c.hand.new.taker (Err end) it.3 c.in_err-hand-in-Ok-Some.ensures.walks;
      last = now;
      gives = λ sql params before begun. gives_on g.S.Store sql params before mid now it.1 row (it.2 sql params before begun)
          moved.mode moved.survives
          (λ clean. rw c.in-Ok-Some.is at (moved.same clean))
          (λ clean. (rw (c.in-Ok-Some.is, c.in-Ok-Some.field-0-is) at (moved.ok clean)) sql params it.1);
      looks = nothing_done g.S.Store mid now end (λ clean. rw c.in-Ok-Some.is at (moved.same clean));
      reason = λ clean sql params gave is. inr
          (inl (λ all. c.in_err-hand-in-Ok-Some.ensures.complete (last_is g.R.FromRow.is_row it.1 row all) is));
    })

pub returns-in-Ok-None-clause-handed : goal.returns-in-Ok-None-clause-handed
returns-in-Ok-None-clause-handed g c =
    let mid = c.rows.rows.conn.now in
    let now = c.next.follows.lender-at-none.conn.now in
    let moved = c.next.follows.holds-at-none in
    let it = c.rows.invariant in record {
      rows = it.1;
      walks = it.3;
      last = mid;
      gives = it.2;
      looks = none_left g.S.Store mid now moved.mode moved.survives (λ clean. rw c.in-Ok-None.is at (moved.same clean))
          (λ clean. rw (c.in-Ok-None.is, c.in-Ok-None.field-0-is) at (moved.ok clean));
      reason = λ clean sql params gave. tt;
    }

pub returns-in-Err-clause-handed : goal.returns-in-Err-clause-handed
returns-in-Err-clause-handed g c =
    let mid = c.rows.rows.conn.now in
    let now = c.next.follows.lender-at-none.conn.now in
    let moved = c.next.follows.holds-at-none in
    let it = c.rows.invariant in
    let f = fault_by c.in-Err.error in record {
      rows = it.1;
      walks = faulted_as (λ before row after. g.K.Taker.takes before (g.R.FromRow.stands_for row) after)
          (λ before row after. g.K.Taker.stops before (g.R.FromRow.stands_for row) after)
          f c.end_of.result c.end_of.ensures it.1 c.args.taker.now c.rows.taker it.3;
      last = mid;
      gives = it.2;
      looks = query_failed g.S.Store mid now c.in-Err.error f c.end_of.result c.end_of.ensures moved.mode moved.survives
          (λ clean. rw c.in-Err.is at (moved.kept clean));
      reason = λ clean sql params gave is. inl (
        c.in-Err.error,
        (rw c.in-Err.is at (moved.err clean)) sql params it.1 gave,
        fault_told f (sym c.end_of.ensures ∙ is),
      );
    }

pub rows-preserved : goal.rows-preserved
rows-preserved g c =
    let mid = c.rows.rows.conn.now in
    let now = c.next.follows.lender-at-none.conn.now in
    let moved = c.next.follows.holds-at-none in
    let it = c.rows.invariant in
    let row = c.in-Ok-Some.row.now in (
      moved.same_reference ∙ it.0,
      it.1 ++ row ∷ [],
      λ sql params before begun. gives_on g.S.Store sql params before mid now it.1 row (it.2 sql params before begun)
          moved.mode moved.survives
          (λ clean. rw c.in-Ok-Some.is at (moved.same clean))
          (λ clean. (rw (c.in-Ok-Some.is, c.in-Ok-Some.field-0-is) at (moved.ok clean)) sql params it.1),
      Walks-then (λ before row after. g.K.Taker.takes before (g.R.FromRow.stands_for row) after)
          (λ before row after. g.K.Taker.stops before (g.R.FromRow.stands_for row) after) it.1 (row ∷ [])
          c.args.taker.now c.rows.taker c.hand.new.taker (Ok (tt {0})) it.3 c.in_ok-hand-in-Ok-Some.ensures.walks,
      omega (arith, length-append it.1 (row ∷ []), it.4),
    )

pub returns-clause-handed : goal.returns-clause-handed
returns-clause-handed g c =
    let it = c.rows.invariant in record {
      rows = it.1;
      walks = faulted (λ before row after. g.K.Taker.takes before (g.R.FromRow.stands_for row) after)
          (λ before row after. g.K.Taker.stops before (g.R.FromRow.stands_for row) after)
          fault.Store it.1 c.args.taker.now c.rows.taker it.3;
      last = c.rows.rows.conn.now;
      gives = it.2;
      looks = given_up g.S.Store c.rows.rows.conn.now fault.Store;
      reason = λ clean sql params gave is. inr (inr (omega (arith, it.4)));
    }
