use Rattle.index_cli.proofs.Words.{inl, inr, refl, rules}
use Rattle.index_rules.specs.declared.answer.Answer.TheVariants as answer
use Rattle.index_desk.proofs.LeavesLemmas.{look_leaves}
use Rattle.index_cli.proofs.CauseLemmas.{answer_counted, counted_memory, fault_causes, standing_causes}
use Rattle.index_cli.proofs.reply.known_reply.Goals as goal

pub returns-in-Err : goal.returns-in-Err
returns-in-Err g c = record {
  reply = search rules;
  lasts = λ honest clean. inr ((c.in-Err.fault, c.answer_text.ensures), inr (c.in-Err.fault, c.answer_text.ensures));
  leaves = look_leaves _ _ _ _ c.in-Err.ensures.look;
  causes = record {
    told = fault_causes c.in-Err.fault _ _ _ c.answer_text.ensures c.in-Err.ensures.look.once c.in-Err.ensures.look.store;
    kept = search rules;
    memory = search rules;
  };
  stores =
      let told = answer_counted (answer.Fault c.in-Err.fault) _ _ _ c.answer_text.ensures c.in-Err.ensures.look.stores in
      record { told = told; memory = counted_memory _ _ _ told; kept = search rules };
}

pub returns-in-Ok-text : goal.returns-in-Ok-text
returns-in-Ok-text g c = record {
  reply = search rules;
  lasts = λ honest clean. inl (c.in-Ok.ensures.look.lasts honest clean);
  leaves = look_leaves _ _ _ _ c.in-Ok.ensures.look;
  causes = record {
    told = standing_causes c.in-Ok.standing _ _ _ c.in-Ok-text.ensures.text.value c.in-Ok.ensures.look.once;
    kept = search rules;
    memory = search rules;
  };
  stores = record {
    told = inr (inr (inl (c.in-Ok.standing, c.in-Ok-text.ensures.text.value, refl)), c.in-Ok.ensures.look.stores);
    memory = λ _. c.in-Ok.ensures.look.stores;
    kept = search rules;
  };
}
