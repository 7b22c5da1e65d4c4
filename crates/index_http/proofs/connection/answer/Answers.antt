use Rattle.index_http.proofs.Words.{◌≡◌, ◌∙◌, ap, false, inl, refl, rules, sym, true, leaves_none, is_reading, reply_text}
use Rattle.index_http.specs.Ends.{Stands}
use Rattle.index_http.proofs.AnswerLemmas.{look_ends}
use Rattle.index_http.proofs.EndLemmas.{sent_ends, sent_memory}
use Rattle.index_http.proofs.Failures.{look_lasts}
use Rattle.index_http.proofs.connection.answer.Goals as goal

pub returns-in-Faulty : goal.returns-in-Faulty
returns-in-Faulty g c = record {
  tables = λ honest clean one.
      rw c.in-Faulty.is
      (sent_ends _ _ _ _ _ _ (
        g.B.Books.tables c.args.desk.now,
        (ap (reply_text c.in-Faulty.is_head) c.message_reply.ensures, refl),
        λ _. refl,
      ) c.send_reply.ensures.sent);
  asks = rw c.in-Faulty.is (leaves_none g.B.Books c.args.desk.now);
  memory = search rules;
  whole = λ none. absurd (sent_memory _ _ _ _ c.send_reply.ensures.sent none);
  unasked = λ faulty. refl;
  stores = λ none. refl;
  lasts = λ honest clean. inl (honest, refl);
  cut = search rules;
  sends = search rules;
  keeps = search rules;
}

pub returns-then-is_reading : goal.returns-then-is_reading
returns-then-is_reading g c =
    let reads : is_reading c.in-Whole.request.method ≡ true =
    sym (c.is_reading.ensures ∙ ap is_reading c.method.ensures) ∙ c.if-is_reading.true in
    record {
      tables = λ honest clean one.
          rw c.in-Whole.is
          (look_ends _ _ _ (Stands g.B.Books.IsHonest g.B.Books.tables c.show.new.desk) _ _ _ _ _ reads
          (λ then. c.show.ensures.shown.leaves.unchanged then) (c.show.ensures.shown.shown honest clean));
      asks = rw (c.in-Whole.is, reads) c.show.ensures.shown.leaves;
      memory = search rules;
      whole = λ _. rw c.in-Whole.is refl;
      unasked = λ faulty. let none : true ≡ false = sym faulty ∙ rw c.in-Whole.is refl in cc none;
      stores = c.show.ensures.shown.stores;
      lasts = λ honest clean. rw c.in-Whole.is (look_lasts _ _ _ _ _ _ _ reads (c.show.ensures.shown.lasts honest clean));
      cut = search rules;
      sends = rw (c.in-Whole.is, reads) c.show.ensures.shown.sends;
      keeps = search rules;
    }

pub returns : goal.returns
returns g c = rw c.in-Whole.is c.act.ensures
