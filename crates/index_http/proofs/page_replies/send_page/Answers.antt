use Rattle.index_http.proofs.Words.{◌≤◌, inl, inr, refl, sym, length, leaves_none, most_bytes}
use Rattle.index_http.proofs.PassLemmas.{keeps_leaves}
use Rattle.index_http.proofs.PageLemmas.{less_behind, sends_behind}
use Rattle.index_http.proofs.page_replies.send_page.Goals as goal

pub returns-clause-sent : goal.returns-clause-sent
returns-clause-sent g c = λ honest clean there.
    let short : length there.bytes ≤ most_bytes = rw there.size at there.within in
    rw (c.after_head.ensures.end, sym there.size, c.if-is_head.false)
    (sends_behind _ _ _ _ _ _ _ c.in-Ok.ensures.whole.0 short c.in-Ok.ensures.short c.in-Ok.ensures.whole.1
    (c.send_text.ensures.sent honest clean there.bytes there.is))

pub returns-clause-lasts : goal.returns-clause-lasts
returns-clause-lasts g c = λ honest clean there.
    elim (c.send_text.ensures.lasts honest clean) [
      | inl stays ↦ inl stays
      | inr part ↦ inr (rw (sym there.size, c.if-is_head.false) (less_behind _ _ _ _ _ c.in-Ok.ensures.whole.1 (part there.bytes there.is)))
    ]

pub returns-in-Err-clause-lasts : goal.returns-in-Err-clause-lasts
returns-in-Err-clause-lasts g c = λ honest clean there. inl (honest, refl)

pub returns-then-is_head-clause-lasts : goal.returns-then-is_head-clause-lasts
returns-then-is_head-clause-lasts g c = λ honest clean there. inl (honest, refl)

pub returns-clause-leaves : goal.returns-clause-leaves
returns-clause-leaves g c = keeps_leaves _ _ _ _ c.send_text.ensures.keeps

pub returns-in-Err-clause-leaves : goal.returns-in-Err-clause-leaves
returns-in-Err-clause-leaves g c = leaves_none _ _

pub returns-then-is_head-clause-leaves : goal.returns-then-is_head-clause-leaves
returns-then-is_head-clause-leaves g c = leaves_none _ _
