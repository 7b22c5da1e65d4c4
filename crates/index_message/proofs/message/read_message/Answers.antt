use Rattle.std.proofs.Common.{arith, rules, inl, inr, ap, sym, ◌∙◌, Ok, ◌++◌, [], drop, length, ◌≤◌, length-append}
use Rattle.std.specs.Prelude.{unwrap_or}
use Rattle.std.proofs.KnownBytes.{Consumes-trans}
use Rattle.std.proofs.lemmas.Result.{IfOk-weaker}
use Rattle.index_message.specs.Heads.{IsHeadAt}
use Rattle.index_message.specs.Messages.{begins_with_head}
use Rattle.index_message.specs.declared.fault.MessageFault.TheVariants.{BadHead}
use Rattle.index_message.specs.declared.message.Message.TheVariants.{Faulty}
use Rattle.index_message.proofs.MessageLemmas.{head_is, input_is, message_read, unfinished}
use Rattle.index_message.proofs.message.read_message.Goals as goal

pub returns-in_default-clause-message : goal.returns-in_default-clause-message
returns-in_default-clause-message g c = (
  c.read_head.new.held.items ++ unwrap_or (g.S.Source.remaining c.read_head.new.source) [],
  input_is _ _ _ c.in_ok-spans.ensures.consumed,
  inl (
    c.in_ok-spans.ensures.none (ap Ok c.in_default.is),
    ap (Faulty BadHead) (c.starts_with.ensures.value ∙ ap begins_with_head c.as_slice.ensures.value
        ∙ sym (c.in_ok-spans.ensures.method (ap Ok c.in_default.is))),
  ),
)

pub returns-clause-message : goal.returns-clause-message
returns-clause-message g c =
    let found : IsHeadAt c.read_head.new.held.items c.read_head.new.fields c.in-Some.spans =
    rw c.in-Some.is at c.in_ok-spans.ensures.head in
    let short : length c.read_head.new.held.items ≤ 16384 = omega (arith, c.in_ok-spans.ensures.short, c.read_head.new.held.ok.0) in
    IfOk-weaker c.read_rest.result _ _
    (λ message follows. message_read _ _ _ _ _ _ found message short c.in_ok-spans.ensures.consumed (follows found))
    c.read_rest.ensures.message

pub returns-clause-reads : goal.returns-clause-reads
returns-clause-reads g c =
    let rest = c.read_rest.ensures.reads.limit in
    record {
      failures = search rules;
      limit = (
        c.read_head.new.held.items ++ rest.0,
        rw length-append (omega (arith, rest.1, c.in_ok-spans.ensures.short, c.read_head.new.held.ok.0)),
        Consumes-trans _ _ _ _ _ c.in_ok-spans.ensures.consumed rest.2,
      );
    }

pub returns-clause-prompt : goal.returns-clause-prompt
returns-clause-prompt g c is =
    let found : IsHeadAt c.read_head.new.held.items c.read_head.new.fields c.in-Some.spans =
    rw c.in-Some.is at c.in_ok-spans.ensures.head in
    let short : length c.read_head.new.held.items ≤ 16384 = omega (arith, c.in_ok-spans.ensures.short, c.read_head.new.held.ok.0) in
    let rest = c.read_rest.ensures.prompt is found in
    unfinished _ _ _ _ _ _ _ found short c.in_ok-spans.ensures.consumed rest.2 rest.1

pub returns-clause-memory : goal.returns-clause-memory
returns-clause-memory g c is =
    let found : IsHeadAt c.read_head.new.held.items c.read_head.new.fields c.in-Some.spans =
    rw c.in-Some.is at c.in_ok-spans.ensures.head in
    let short : length c.read_head.new.held.items ≤ 16384 = omega (arith, c.in_ok-spans.ensures.short, c.read_head.new.held.ok.0) in
    let left = unwrap_or (g.S.Source.remaining c.read_head.new.source) [] in
    inr (
      c.read_head.new.held.items ++ left,
      found.head,
      drop c.in-Some.spans.len c.read_head.new.held.items ++ left,
      input_is _ _ _ c.in_ok-spans.ensures.consumed,
      head_is _ left _ _ found short,
      c.read_rest.ensures.memory is found,
    )
