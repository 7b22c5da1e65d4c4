use Rattle.index_cli.proofs.Words.{◌≡◌, refl, rules, Some, IfOk-weaker, looks_keep, line_of}
use Rattle.index_json.specs.declared.line.Line.TheVariants as line
use Rattle.index_cli.proofs.CauseLemmas.{answer_causes, answer_counted, counted_memory}
use Rattle.index_cli.proofs.FaultTexts.{call_lasts, honest_or_mapped}
use Rattle.index_cli.proofs.reply.reply_to_read.Goals as goal

pub returns-in-Some-Call : goal.returns-in-Some-Call
returns-in-Some-Call g c = record {
  reply = search rules;
  lasts = λ honest clean.
      let asks : line_of c.args.line.now ≡ Some (line.Call c.in-Some-Call.call) = search rules in
      rw asks (call_lasts _ _ _ _ c.apply.result _ c.answer_text.ensures (c.apply.ensures.takes.settles.lasts clean) honest);
  asks = search rules;
  leaves = search rules;
  causes = record {
    told = answer_causes c.apply.result _ _ _ c.answer_text.ensures c.apply.ensures.takes.settles.failures
        c.apply.ensures.takes.settles.store;
    kept = search rules;
    memory = search rules;
  };
  stores =
      let told = answer_counted c.apply.result _ _ _ c.answer_text.ensures c.apply.ensures.takes.settles.stores in
      record { told = told; memory = counted_memory _ _ _ told; kept = search rules };
  keeps = search rules;
}

pub returns-in-Some-Standing : goal.returns-in-Some-Standing
returns-in-Some-Standing g c = record {
  reply = search rules;
  lasts = λ honest clean.
      let asks : line_of c.args.line.now ≡ Some (line.Standing c.in-Some-Standing.name) = search rules in
      let name : c.as_slice.result.now ≡ c.in-Some-Standing.name = search rules in
      let lasts = rw name at c.standing_reply.ensures.lasts in
      rw asks (IfOk-weaker c.standing_reply.result _ _ (λ reply it. honest_or_mapped it (λ told. (told, refl)))
      (lasts honest clean));
  asks = search rules;
  leaves = search rules;
  causes = c.standing_reply.ensures.causes;
  stores = c.standing_reply.ensures.stores;
  keeps = looks_keep _ _ _ c.standing_reply.ensures.leaves;
}
