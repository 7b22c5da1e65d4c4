use Rattle.std.proofs.Common.{Err, ◌≡◌, ◌≤◌, ◌<◌, ◌++◌, ◌∙◌, length, drop, sym, ap, Ok, rules, arith, length-append}
use Rattle.std.proofs.lemmas.List.{take_rest}
use Rattle.std.proofs.lemmas.Result.{IfOk-weaker}
use Rattle.index_message.specs.Heads.{IsHeadAt}
use Rattle.index_message.specs.Messages.{asked_of, is_head_name}
use Rattle.index_message.proofs.MessageLemmas.{asked_has_route, asked_is, follows_short, follows_whole}
use Rattle.index_message.specs.declared.fault.MessageFault.TheVariants.{ShortBody}
use Rattle.index_message.specs.declared.message.Message.TheVariants.{Faulty}
use Rattle.index_message.specs.declared.head.ReadEnd.TheVariants.{ReadFault}
use Rattle.index_message.proofs.message.read_rest.Goals as goal

pub returns-in-Some : goal.returns-in-Some
returns-in-Some g c =
    let asked : (found : IsHeadAt c.args.bytes.items c.args.fields.now c.args.spans) → asked_of found.head ≡ Ok c.in-Ok.asked = λ found.
    sym (asked_is _ _ _ found) ∙ sym (rw c.as_slice-came.ensures.value at c.in_ok-asked.ensures.asked) ∙ c.in-Ok.is in
    let read = rw (c.in-Some.is, c.as_slice-came.ensures.value, take_rest) at c.in_ok-body.ensures.body in
    let given = c.read_body.ensures.reads.limit in
    let bound : c.in-Ok.asked.length ≤ 16777216 = rw c.in-Ok.is at c.in_ok-asked.ensures.bound in
    record {
      message = IfOk-weaker c.whole_message.result _ _
          (λ message is found. (read.0, read.1, is ∙ follows_whole _ _ _ _ _ _ found _ (asked found) read.2.0 read.2.1))
          c.whole_message.ensures.message;
      prompt = search rules;
      memory = λ _ found. asked_has_route found.head _ (asked found);
      reads = record { failures = search rules; limit = (given.0, omega (arith, given.1, bound), given.2) };
    }

pub returns-in-None : goal.returns-in-None
returns-in-None g c =
    let asked : (found : IsHeadAt c.args.bytes.items c.args.fields.now c.args.spans) → asked_of found.head ≡ Ok c.in-Ok.asked = λ found.
    sym (asked_is _ _ _ found) ∙ sym (rw c.as_slice-came.ensures.value at c.in_ok-asked.ensures.asked) ∙ c.in-Ok.is in
    let read = rw (c.in-None.is, c.as_slice-came.ensures.value, take_rest) at c.in_ok-body.ensures.body in
    let named : (found : IsHeadAt c.args.bytes.items c.args.fields.now c.args.spans)
    → c.faulty_message-in-None.result ≡ Faulty ShortBody (is_head_name found.head.method) = λ found.
    rw (sym found.at.method) (rw c.as_slice-came.ensures.value at c.faulty_message-in-None.ensures) in
    let given = c.read_body.ensures.reads.limit in
    let bound : c.in-Ok.asked.length ≤ 16777216 = rw c.in-Ok.is at c.in_ok-asked.ensures.bound in
    record {
      message = λ found. (read.0, read.1, named found ∙ follows_short _ _ _ _ _ found _ (asked found) read.2.0 read.2.1);
      prompt = search rules;
      memory = λ _ found. asked_has_route found.head _ (asked found);
      reads = record { failures = search rules; limit = (given.0, omega (arith, given.1, bound), given.2) };
    }

pub returns-in_err-body : goal.returns-in_err-body
returns-in_err-body g c =
    let asked : (found : IsHeadAt c.args.bytes.items c.args.fields.now c.args.spans) → asked_of found.head ≡ Ok c.in-Ok.asked = λ found.
    sym (asked_is _ _ _ found) ∙ sym (rw c.as_slice-came.ensures.value at c.in_ok-asked.ensures.asked) ∙ c.in-Ok.is in
    let given = c.read_body.ensures.reads.limit in
    let bound : c.in-Ok.asked.length ≤ 16777216 = rw c.in-Ok.is at c.in_ok-asked.ensures.bound in
    record {
      message = search rules;
      prompt = λ is found.
          let failed : c.in_err-body.field-0.0 ≡ ReadFault = search rules in
          let read = rw (c.as_slice-came.ensures.value, take_rest) at (c.in_err-body.ensures.prompt (ap Err failed)) in
          let part : length (drop c.args.spans.len c.args.bytes.items ++ read.0) < c.in-Ok.asked.length =
          rw length-append (omega (arith, read.1)) in
          (read.0, (c.in-Ok.asked, asked found, part), read.2);
      memory = λ _ found. asked_has_route found.head _ (asked found);
      reads = record { failures = search rules; limit = (given.0, omega (arith, given.1, bound), given.2) };
    }
