use Rattle.index_http.proofs.Words.{◌∙◌, ap, inl, inr, refl, rules, leaves_none, leaves_on, look_leaves, page_reply}
use Rattle.index_http.proofs.EndLemmas.{fault_ends, fault_stores, sent_memory, shown_ends}
use Rattle.index_http.proofs.Failures.{look_failed}
use Rattle.index_http.proofs.PageLemmas.{shows_gathered}
use Rattle.index_http.proofs.page_replies.show_page.Goals as goal

pub returns-in-Some : goal.returns-in-Some
returns-in-Some g c = record {
  shown = λ honest clean.
      shown_ends _ _ _ _ _ _ _ _ c.page_reply.ensures (shows_gathered c.args.served _ _ (c.in-Some.ensures honest))
      c.send_reply.ensures.sent;
  leaves = leaves_none _ _;
  sends = search rules;
  stores = λ is. absurd (sent_memory _ _ _ _ c.send_reply.ensures.sent is);
  lasts = λ honest clean. inl (honest, refl);
}

pub returns-in-Ok-Some : goal.returns-in-Ok-Some
returns-in-Ok-Some g c = record {
  shown = λ honest clean.
      let is = rw c.in-Ok-Some.field-0-is at (c.in-Ok-Some.ensures.text honest (c.cache_page.ensures.clean clean)) in
      shown_ends _ _ _ _ _ _ _ _ (c.page_reply-in-Ok-Some.ensures ∙ ap (page_reply c.args.served) c.as_slice.ensures.value)
      (shows_gathered c.args.served _ _ is) c.send_reply-sent.ensures.sent;
  leaves = leaves_on _ _ _ _ (look_leaves _ _ _ _ c.in-Ok-Some.ensures.look) (look_leaves _ _ _ _ c.cache_page.ensures);
  sends = search rules;
  stores = λ is. absurd (sent_memory _ _ _ _ c.send_reply-sent.ensures.sent is);
  lasts = λ honest clean.
      let then = c.in-Ok-Some.ensures.look.lasts honest (c.cache_page.ensures.clean clean) in
      inl (c.cache_page.ensures.lasts then clean, c.cache_page.ensures.kept ∙ c.in-Ok-Some.ensures.look.kept);
}

pub returns-in-Ok-None : goal.returns-in-Ok-None
returns-in-Ok-None g c = record {
  shown = λ honest clean.
      let after = c.in-Ok-None.ensures.look.lasts honest (c.show_in_passes.ensures.leaves.clean clean) in
      rw (c.in-Ok-None.ensures.look.unchanged after, c.in-Ok-None.ensures.look.kept) at (c.show_in_passes.ensures.shown after clean);
  leaves = leaves_on _ _ _ _ (look_leaves _ _ _ _ c.in-Ok-None.ensures.look) c.show_in_passes.ensures.leaves;
  sends = search rules;
  stores = λ is. c.show_in_passes.ensures.stores is ∙ c.in-Ok-None.ensures.look.stores;
  lasts = λ honest clean.
      let after = c.in-Ok-None.ensures.look.lasts honest (c.show_in_passes.ensures.leaves.clean clean) in
      rw (c.in-Ok-None.ensures.look.unchanged after, c.in-Ok-None.ensures.look.kept) at (c.show_in_passes.ensures.lasts after clean);
}

pub returns-in-Err : goal.returns-in-Err
returns-in-Err g c = record {
  shown = λ honest clean.
      fault_ends _ _ _ _ _ _ _ (λ store. inr (c.in-Err.ensures.look.store store)) c.send_fault.ensures.told;
  leaves = look_leaves _ _ _ _ c.in-Err.ensures.look;
  sends = search rules;
  stores = fault_stores _ _ _ _ _ _ _ c.send_fault.ensures.told c.in-Err.ensures.look.stores;
  lasts = λ honest clean. inr (look_failed _ _ _ _ _ _ c.send_fault.ensures.told);
}
