use Rattle.std.proofs.Common.{arith, rules, ap, length, ◌∙◌, ◌≡◌, ◌+◌, vec_len, ◌++◌, length-append}
use Rattle.std.proofs.KnownBytes.{Consumes-trans}
use Rattle.index_message.proofs.head.read_up_to.Goals as goal

pub returns-in_err-read_more : goal.returns-in_err-read_more
returns-in_err-read_more g c =
    let before = c.loop-source.invariant.consumed in
    let more = c.read_more.ensures.limit in
    let held : vec_len c.loop-source.held ≡ length c.args.held.now.items + length before.0 =
    c.loop-source.held.ok.0 ∙ ap length before.1 ∙ length-append c.args.held.now.items before.0 in
    record {
      consumed = search rules;
      full = search rules;
      ended = search rules;
      prompt = search rules;
      reads = record {
        failures = search rules;
        limit = (
          before.0 ++ more.0,
          rw length-append (omega (arith, more.1, held)),
          Consumes-trans _ _ _ _ _ before.2 more.2,
        );
      };
    }
