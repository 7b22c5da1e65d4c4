use Rattle.index_cli.proofs.Words.{◌≡◌, ◌∙◌, ◌<◌, ℕ, Result, Err, inl, refl, rules, subst, sym, keeps_on, looks_keep, at_desk, AreOn}
use Rattle.index_cli.proofs.Words.{DeskAnswersConnections}
use Rattle.index_desk.proofs.LeavesLemmas.{never_fell, none_fell}
use Rattle.index_cli.specs.declared.end.ServeEnd.{ServeEnd}
use Rattle.index_cli.specs.Serving.{IsCount}
use Rattle.index_cli.proofs.CauseLemmas.{failed_since}
use Rattle.index_cli.proofs.Served.{are_on, are_push}
use Rattle.index_cli.proofs.WentLemmas.{asks_count, served, served_none, served_push}
use Rattle.index_cli.proofs.serve.answer_connections.Goals as goal

pub loop-count-init : goal.loop-count-init
loop-count-init g c = record {
  served = served_none _ _ (refl, refl) _ _ g.met.B.Books.settled;
  keeps = search rules;
  counted = none_fell _;
  shut = search rules;
}

pub loop-count-preserved : goal.loop-count-preserved
loop-count-preserved g c =
    let B = g.B.Books in
    let C = g.C.Connections in
    let invariant = c.loop-count.invariant in
    let looked = c.is_shut-was_shut.ensures.leaves in
    let next = c.in_ok-answer_next.ensures.answers in
    let more = are_push C.coming C.replies B _ _ c.args.connections.now _ _ _ next in
    let kept = next.answers.keeps in
    let counted = never_fell _ _ _ invariant.counted (asks_count B _ _ next.exchange next.answers.asks) in
    let idle = λ (same : B.failures c.answer_next.new.desk ≡ B.failures c.loop-count.desk). c.is_shut-was_shut.ensures.idle
    (same ∙ sym c.failure_count-failures.ensures) in
    record {
      served = served_push B (g.met.B.Books.settled)
          _ _ next.exchange more _ next.is_given _ _ _ _ _ invariant.keeps next.answers looked idle invariant.served;
      keeps = keeps_on _ _ _ _ invariant.keeps (keeps_on _ _ _ _ kept (looks_keep _ _ _ looked));
      counted = never_fell _ _ _ counted looked.counted;
      shut = λ is. failed_since _ _ _ counted (c.is_shut-was_shut.ensures.store is);
    }

-- ---- at an end

-- fewer were answered
early : (requests count : ℕ) (result : Result (Unit {0}) ServeEnd) (end : ServeEnd) → result ≡ Err end → count < requests
    → IsCount requests result count
early requests count result end is less = subst (λ r. IsCount requests r count) (sym is) less

pub returns-then-was_shut-clause-answers : goal.returns-then-was_shut-clause-answers
returns-then-was_shut-clause-answers g c =
    let C = g.C.Connections in
    let less : c.loop-count.count < c.args.requests = search rules in
    let are = are_on C.coming C.replies _ _ c.loop-count.connections (inl refl) refl in
    served g.B.Books _ _ are _ _ _ _ _ less c.loop-count.invariant.served

pub returns-in_err-answer_next-clause-answers : goal.returns-in_err-answer_next-clause-answers
returns-in_err-answer_next-clause-answers g c =
    let B = g.B.Books in
    let C = g.C.Connections in
    let failed = c.in_err-answer_next.ensures in
    let less : c.loop-count.count < c.args.requests = search rules in
    let is : c.from_residual.result ≡ Err c.in_err-answer_next.field-0.0 = search rules in
    let are = are_on C.coming C.replies _ _ c.answer_next.new.connections failed.rest failed.unsent in
    let Are = AreOn C.coming C.replies c.args.connections.now c.answer_next.new.connections in
    let Counts = IsCount c.args.requests c.from_residual.result in
    subst (λ desk. DeskAnswersConnections (at_desk B c.args.desk.now desk) Are c.args.at Counts) (sym failed.unasked)
    (served B _ Are are c.args.at Counts _ _ _ (early _ _ _ _ is less) c.loop-count.invariant.served)

pub returns-clause-answers : goal.returns-clause-answers
returns-clause-answers g c =
    let C = g.C.Connections in
    let all : c.loop-count.count ≡ c.args.requests = search rules in
    let are = are_on C.coming C.replies _ _ c.loop-count.connections (inl refl) refl in
    served g.B.Books _ _ are _ _ _ _ _ all c.loop-count.invariant.served
