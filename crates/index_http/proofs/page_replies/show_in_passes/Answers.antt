use Rattle.index_http.proofs.Words.{◌≡◌, ◌∙◌, ap, false, inl, inr, refl, rules, subst, Ok, Err, is_err, leaves_on, page_reply, MeasuresPage}
use Rattle.index_caching.specs.Pages.{page_in}
use Rattle.index_http.proofs.EndLemmas.{fault_ends, fault_memory, sent_memory, shown_ends}
use Rattle.index_http.proofs.Failures.{less_shows, look_failed}
use Rattle.index_http.proofs.PassLemmas.{keeps_leaves}
use Rattle.index_http.proofs.PageLemmas.{measured, shows_measured, unmeasurable, unmeasured}
use Rattle.index_http.proofs.page_replies.show_in_passes.Goals as goal

pub returns-in-Ok-Some : goal.returns-in-Ok-Some
returns-in-Ok-Some g c = record {
  shown = λ honest clean.
      let then = c.send_page.ensures.leaves.clean clean in
      let there = measured _ _ _ _
      (subst (λ o. MeasuresPage (page_in (g.B.Books.tables c.args.desk.now) c.args.served c.args.page) (g.B.Books.failures c.args.desk.now)
      (g.B.Books.failures c.length_of.new.desk) (Ok o))
      c.in-Ok-Some.field-0-is (c.in-Ok-Some.ensures.measured honest then)) in
      let right : is_err c.length_of.result ≡ false = search rules in
      let after = c.length_of.ensures.keeps.lasts right honest then in
      let same = c.length_of.ensures.keeps.unchanged after in
      shown_ends _ _ _ _ (page_reply c.args.served there.bytes) _ _ _ refl (shows_measured c.args.served _ _ there)
      (c.send_page.ensures.sent after clean (record {
        bytes = there.bytes;
        is = rw same there.is;
        size = there.size;
        within = there.within;
      }));
  leaves = leaves_on _ _ _ _ (keeps_leaves _ _ _ _ c.length_of.ensures.keeps) c.send_page.ensures.leaves;
  sends = search rules;
  stores = λ is. let told = rw is at c.send_page.ensures.told in cc told;
  lasts = λ honest clean.
      let then = c.send_page.ensures.leaves.clean clean in
      let there = measured _ _ _ _
      (subst (λ o. MeasuresPage (page_in (g.B.Books.tables c.args.desk.now) c.args.served c.args.page) (g.B.Books.failures c.args.desk.now)
      (g.B.Books.failures c.length_of.new.desk) (Ok o))
      c.in-Ok-Some.field-0-is (c.in-Ok-Some.ensures.measured honest then)) in
      let right : is_err c.length_of.result ≡ false = search rules in
      let after = c.length_of.ensures.keeps.lasts right honest then in
      let same = c.length_of.ensures.keeps.unchanged after in
      elim (c.send_page.ensures.lasts after clean
      (record { bytes = there.bytes; is = rw same there.is; size = there.size; within = there.within })) [
        | inl stays ↦ inl (stays.0, stays.1 ∙ c.length_of.ensures.keeps.kept right)
        | inr part ↦ inr (less_shows _ _ (page_reply c.args.served there.bytes) _ _ (shows_measured c.args.served _ _ there) part)
      ];
}

pub returns-in-Ok-None : goal.returns-in-Ok-None
returns-in-Ok-None g c = record {
  shown = λ honest clean.
      let none = unmeasured _ _ _ (rw c.in-Ok-None.field-0-is at (c.in-Ok-None.ensures.measured honest clean)) in
      shown_ends _ _ _ _ _ _ _ _ c.refusal_reply.ensures (rw none refl) c.send_reply.ensures.sent;
  leaves = keeps_leaves _ _ _ _ c.length_of.ensures.keeps;
  sends = search rules;
  stores = λ is. absurd (sent_memory _ _ _ _ c.send_reply.ensures.sent is);
  lasts = λ honest clean.
      let right : is_err c.length_of.result ≡ false = search rules in
      inl (c.length_of.ensures.keeps.lasts right honest clean, c.length_of.ensures.keeps.kept right);
}

pub returns-in-Err : goal.returns-in-Err
returns-in-Err g c = record {
  shown = λ honest clean.
      fault_ends _ _ _ _ _ _ _
      (λ store. unmeasurable c.args.served _ _ _ (rw store at (c.in-Err.ensures.measured honest clean))) c.send_fault.ensures.told;
  leaves = keeps_leaves _ _ _ _ c.length_of.ensures.keeps;
  sends = search rules;
  stores = λ is. c.in-Err.ensures.stores (ap Err (fault_memory _ _ _ _ _ c.send_fault.ensures.told is));
  lasts = λ honest clean. inr (look_failed _ _ _ _ _ _ c.send_fault.ensures.told);
}
