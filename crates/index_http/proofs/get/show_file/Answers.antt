use Rattle.index_http.proofs.Words.{◌∙◌, ap, inl, inr, sym, refl, Some, None, rules, leaves_none, leaves_on, look_leaves}
use Rattle.index_http.specs.Replies.{file_reply}
use Rattle.index_http.proofs.EndLemmas.{fault_ends, fault_stores, sent_memory, shown_ends}
use Rattle.index_http.proofs.Failures.{look_failed}
use Rattle.index_http.proofs.get.show_file.Goals as goal

pub returns-in-Some : goal.returns-in-Some
returns-in-Some g c = record {
  shown = λ honest clean.
      shown_ends _ _ _ _ _ _ _ _ (c.file_reply.ensures ∙ ap file_reply c.bytes.ensures) (
        Some c.in-Some.body.now,
        sym (c.in-Some.ensures honest),
        refl,
      ) c.send_reply.ensures.sent;
  leaves = leaves_none _ _;
  sends = search rules;
  stores = λ is. absurd (sent_memory _ _ _ _ c.send_reply.ensures.sent is);
  lasts = λ honest clean. inl (honest, refl);
}

pub returns-in-Ok-Some : goal.returns-in-Ok-Some
returns-in-Ok-Some g c = record {
  shown = λ honest clean.
      let body = rw c.in-Ok-Some.field-0-is at
      (c.in-Ok-Some.ensures.looks.found (c.in-Ok-Some.ensures.looks.look.lasts honest (c.cache_body.ensures.clean clean))) in
      shown_ends _ _ _ _ _ _ _ _ (c.file_reply-in-Ok-Some.ensures ∙ ap file_reply c.bytes-in-Ok-Some.ensures) (
        Some c.in-Ok-Some.body,
        body,
        refl,
      ) c.send_reply-sent.ensures.sent;
  leaves = leaves_on _ _ _ _ (look_leaves _ _ _ _ c.in-Ok-Some.ensures.looks.look) (look_leaves _ _ _ _ c.cache_body.ensures);
  sends = search rules;
  stores = λ is. absurd (sent_memory _ _ _ _ c.send_reply-sent.ensures.sent is);
  lasts = λ honest clean.
      let then = c.in-Ok-Some.ensures.looks.look.lasts honest (c.cache_body.ensures.clean clean) in
      inl (c.cache_body.ensures.lasts then clean, c.cache_body.ensures.kept ∙ c.in-Ok-Some.ensures.looks.look.kept);
}

pub returns-in-Ok-None : goal.returns-in-Ok-None
returns-in-Ok-None g c = record {
  shown = λ honest clean.
      let none = rw c.in-Ok-None.field-0-is at (c.in-Ok-None.ensures.looks.found (c.in-Ok-None.ensures.looks.look.lasts honest clean)) in
      shown_ends _ _ _ _ _ _ _ _ c.refusal_reply.ensures (None, none, refl) c.send_reply-in-Ok-None.ensures.sent;
  leaves = look_leaves _ _ _ _ c.in-Ok-None.ensures.looks.look;
  sends = search rules;
  stores = λ is. absurd (sent_memory _ _ _ _ c.send_reply-in-Ok-None.ensures.sent is);
  lasts = λ honest clean. inl (c.in-Ok-None.ensures.looks.look.lasts honest clean, c.in-Ok-None.ensures.looks.look.kept);
}

pub returns-in-Err : goal.returns-in-Err
returns-in-Err g c = record {
  shown = λ honest clean.
      fault_ends _ _ _ _ _ _ _ (λ store. inr (c.in-Err.ensures.looks.look.store store)) c.send_fault.ensures.told;
  leaves = look_leaves _ _ _ _ c.in-Err.ensures.looks.look;
  sends = search rules;
  stores = fault_stores _ _ _ _ _ _ _ c.send_fault.ensures.told c.in-Err.ensures.looks.look.stores;
  lasts = λ honest clean. inr (look_failed _ _ _ _ _ _ c.send_fault.ensures.told);
}
