use Rattle.index_http.proofs.Words.{◌≡◌, ◌∙◌, ap, inl, rules, subst, sym, refl, Some, None, Answer, Lasts, leaves_none, is_head, is_put}
use Rattle.index_http.proofs.Words.{call_of, answer_reply, reply_text}
use Rattle.index_rules.specs.Runs.{Answers, tables_after}
use Rattle.index_rules.specs.Verdict.{Verdict}
use Rattle.index_rules.specs.declared.answer.Answer.TheVariants.{Accepted, Already, Refused, Fault}
use Rattle.index_http.specs.Replies.{reply_of}
use Rattle.index_http.specs.Sends.{SendsBytes}
use Rattle.index_http.proofs.EndLemmas.{sent_ends, sent_memory}
use Rattle.index_http.proofs.Failures.{answer_lasts}
use Rattle.index_http.proofs.change.act.Goals as goal

-- a store that was honest is so after an answer that is no fault
answered : (verdict : Verdict) (a : Answer) (Before After : Type 0) → Lasts a Before After → Before → (After → Answers verdict a)
    → Answers verdict a
answered verdict Accepted Before After after before answers = answers after
answered verdict Already Before After lasts before answers = answers (lasts before)
answered verdict (Refused refusal) Before After lasts before answers = answers (lasts before)
answered verdict (Fault fault) Before After lasts before answers = tt

-- a body that is no request asks for nothing
pub returns-in_default : goal.returns-in_default
returns-in_default g c =
    let none : call_of c.args.at c.args.request.now c.args.body ≡ None = sym c.in_ok-call.ensures ∙ c.in_default.is in
    let same_head : c.is_head.result ≡ is_head c.args.request.now.method = c.is_head.ensures ∙ ap is_head c.method-method.ensures in
    record {
      tables = λ honest clean one.
          sent_ends _ _ _ _ _ _ (
            g.B.Books.tables c.args.desk.now,
            (
              reply_of c.message_reply.result,
              ap (λ h. reply_text h (reply_of c.message_reply.result)) same_head,
              rw (c.requires, none) (c.message_reply.ensures, refl),
            ),
            λ _. refl,
          )
          c.send_reply.ensures.sent;
      asks = rw (c.requires, none) (leaves_none g.B.Books c.args.desk.now);
      memory = λ none. absurd (sent_memory _ _ _ _ c.send_reply.ensures.sent none);
      whole = λ _. refl;
      unasked = λ faulty. cc faulty;
      stores = λ none. refl;
      lasts = λ honest clean. inl (honest, refl);
      cut = search rules;
      sends = rw c.requires c.send_reply.ensures.sends;
      keeps = search rules;
    }

pub returns : goal.returns
returns g c =
    let call : call_of c.args.at c.args.request.now c.args.body ≡ Some c.in-Some.call = sym c.in_ok-call.ensures ∙ c.in-Some.is in
    let same_head : c.is_head-2.result ≡ is_head c.args.request.now.method = c.is_head-2.ensures ∙ ap is_head c.method-method.ensures in
    let by_put : c.is_put.result ≡ is_put c.args.request.now.method = c.is_put.ensures ∙ ap is_put c.method-method.ensures in
    let reply = c.answer_reply.ensures ∙ ap (λ put. answer_reply put c.apply-answer.result) by_put in
    let text = ap (λ h. reply_text h (reply_of c.answer_reply.result)) same_head in
    let took = c.apply-answer.ensures.takes in
    record {
      tables = λ honest clean one.
          let answers = answered _ c.apply-answer.result _ _ (took.settles.lasts clean) honest (λ then. ((took.taken then).tables one).0) in
          sent_ends _ _ _ _ _ _ (
            tables_after (g.B.Books.tables c.args.desk.now) c.in-Some.call c.apply-answer.result,
            (reply_of c.answer_reply.result, text, rw (c.requires, call) (c.apply-answer.result, reply, answers, refl, took.settles.store)),
            λ then. ((took.taken then).tables one).1,
          )
          c.send_reply-2.ensures.sent;
      asks = rw (c.requires, call) (sent_ends _ _ _ _ _ _ (
        c.apply-answer.result,
        text ∙ ap (reply_text (is_head c.args.request.now.method)) reply,
        took,
      ) c.send_reply-2.ensures.sent);
      memory = λ none. absurd (sent_memory _ _ _ _ c.send_reply-2.ensures.sent none);
      whole = λ _. refl;
      unasked = λ faulty. cc faulty;
      stores = λ none. absurd (sent_memory _ _ _ _ c.send_reply-2.ensures.sent none);
      lasts = λ honest clean.
          answer_lasts _ _ _ c.apply-answer.result _ _ _ _ _ _ _ (took.settles.lasts clean) honest took.settles.kept
          (subst (λ r. SendsBytes g.K.Sink c.args.sink.now c.send_reply-2.new.sink (reply_text c.is_head-2.result r) c.send_reply-2.result)
          c.answer_reply.ensures c.send_reply-2.ensures.sent);
      cut = search rules;
      sends = rw c.requires c.send_reply-2.ensures.sends;
      keeps = search rules;
    }
