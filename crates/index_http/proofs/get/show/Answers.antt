use Rattle.index_http.proofs.Words.{◌≡◌, ◌∙◌, ap, inr, rules, look_leaves, is_head}
use Rattle.index_http.proofs.EndLemmas.{fault_ends, fault_stores}
use Rattle.index_http.proofs.Failures.{look_failed}
use Rattle.index_http.proofs.ShowLemmas.{found_and_sent}
use Rattle.index_http.proofs.get.show.Goals as goal

pub returns-in-Ok-clause-shown : goal.returns-in-Ok-clause-shown
returns-in-Ok-clause-shown g c =
    let same_head : c.is_head-is_head.result ≡ is_head c.args.request.now.method =
    c.is_head-is_head.ensures ∙ ap is_head c.method.ensures in
    rw (← same_head, ← c.resource.ensures)
    (found_and_sent _ _ _ _ _ _ _ _ _ _ c.in-Ok.ensures.shows c.send_shown.ensures.shown c.in-Ok.ensures.page)

pub returns-in-Err-clause-shown : goal.returns-in-Err-clause-shown
returns-in-Err-clause-shown g c =
    let same_head : c.is_head-is_head.result ≡ is_head c.args.request.now.method =
    c.is_head-is_head.ensures ∙ ap is_head c.method.ensures in
    record {
      shown = λ honest clean.
          rw (← same_head) (fault_ends _ _ _ _ _ _ _ (λ store. inr (c.in-Err.ensures.shows.look.store store)) c.send_fault.ensures.told);
      leaves = look_leaves _ _ _ _ c.in-Err.ensures.shows.look;
      sends = search rules;
      stores = fault_stores _ _ _ _ _ _ _ c.send_fault.ensures.told c.in-Err.ensures.shows.look.stores;
      lasts = λ honest clean. inr (look_failed _ _ _ _ _ _ c.send_fault.ensures.told);
    }
