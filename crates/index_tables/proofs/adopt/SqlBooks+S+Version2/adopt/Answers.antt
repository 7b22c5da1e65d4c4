use Rattle.index_tables.proofs.Words.{rules, inl, inr, refl, Err, subst, NotAnIndex, OutOfMemory, Adopts, IsReason}
use Rattle.std.proofs.lemmas.Result.{IfErr-weaker}
use Rattle.index_tables.proofs.AdoptLemmas.{adopts_by, fault_alone, not_adopted, reason_of_kind}
use Rattle.index_tables.proofs.OpenedLemmas.{refused_at_once}
use Rattle.index_tables.proofs.adopt.SqlBooks+S+Version2.adopt.Goals as goal

pub returns-then-not-has_meta-clause-adopts : goal.returns-then-not-has_meta-clause-adopts
returns-then-not-has_meta-clause-adopts g c =
    let conn = c.expose_invariants-conn.result in
    subst (λ held. Adopts g.S.Store (IsReason g.S.Store) held (Err (record { why = NotAnIndex; conn = conn })))
    c.expose_invariants-conn.ensures.same
    (not_adopted g.S.Store conn _ (inl refl)
    (refused_at_once g.S.Store conn NotAnIndex (search rules) (λ _. inl (search rules))))

pub returns-then-not-has_meta-clause-again : goal.returns-then-not-has_meta-clause-again
returns-then-not-has_meta-clause-again g c clean o ours =
    fault_alone g.S.Store c.args.conn c.expose_invariants-conn.result NotAnIndex (inl (search rules)) o ours

pub returns-in-Ok-Some-clause-adopts : goal.returns-in-Ok-Some-clause-adopts
returns-in-Ok-Some-clause-adopts g c =
    let conn = c.expose_invariants-conn.result in
    subst (λ held. Adopts g.S.Store (IsReason g.S.Store) held c.adopt_kind.result) c.expose_invariants-conn.ensures.same
    (adopts_by g.S.Store conn c.adopt_kind.result
    (λ refused. reason_of_kind g.S.Store conn refused.conn (search rules) c.in-Ok-Some.kind refused.why)
    c.adopt_kind.ensures)

pub returns-in-Ok-Some-clause-again : goal.returns-in-Ok-Some-clause-again
returns-in-Ok-Some-clause-again g c =
    IfErr-weaker c.adopt_kind.result _ _ (λ refused it clean o ours. fault_alone g.S.Store c.args.conn refused.conn refused.why
    (it.reason clean) o ours)
    (returns-in-Ok-Some-clause-adopts g c).refused

pub returns-in-Ok-None-clause-adopts : goal.returns-in-Ok-None-clause-adopts
returns-in-Ok-None-clause-adopts g c =
    subst (λ held. Adopts g.S.Store (IsReason g.S.Store) held (Err c.refuse_other.result)) c.expose_invariants-conn.ensures.same
    (not_adopted g.S.Store c.expose_invariants-conn.result _ c.refuse_other.ensures.why c.refuse_other.ensures.refused)

pub returns-in-Ok-None-clause-again : goal.returns-in-Ok-None-clause-again
returns-in-Ok-None-clause-again g c clean o ours =
    fault_alone g.S.Store c.args.conn c.refuse_other.result.conn c.refuse_other.result.why
    ((returns-in-Ok-None-clause-adopts g c).refused.reason clean) o ours

pub returns-in-Err-clause-adopts : goal.returns-in-Err-clause-adopts
returns-in-Err-clause-adopts g c =
    let conn = c.expose_invariants-conn.result in
    subst (λ held. Adopts g.S.Store (IsReason g.S.Store) held (Err (record { why = OutOfMemory; conn = conn })))
    c.expose_invariants-conn.ensures.same
    (not_adopted g.S.Store conn _ (inr (inr (inl refl)))
    (refused_at_once g.S.Store conn OutOfMemory (search rules) (λ _. (search rules, inl refl))))
