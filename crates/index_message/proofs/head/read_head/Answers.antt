use Rattle.std.proofs.Common.{arith, ap, length, ◌∙◌, ◌≡◌, vec_len, ◌++◌, refl, rules, length-append}
use Rattle.std.proofs.KnownBytes.{Consumes-nil, Consumes-trans}
use Rattle.index_message.proofs.HeadLemmas.{may_nothing, method_when_never, none_in_nothing, none_by_limit}
use Rattle.index_message.proofs.head.read_head.Goals as goal

pub loop-source-init : goal.loop-source-init
loop-source-init g c = record {
  none = rw c.requires.empty none_in_nothing;
  may = rw c.requires.empty may_nothing;
  consumed = rw c.requires.empty (Consumes-nil _);
  short = let e : vec_len c.args.held.now ≡ 0 = c.args.held.now.ok.0 ∙ ap length c.requires.empty in omega arith;
  steady = refl;
}

pub returns-in_err-read_more-clause-reads : goal.returns-in_err-read_more-clause-reads
returns-in_err-read_more-clause-reads g c =
    let more = c.read_more.ensures.limit in
    record {
      failures = search rules;
      limit = (
        c.loop-source.held.items ++ more.0,
        rw length-append (omega (arith, more.1, c.loop-source.held.ok.0)),
        Consumes-trans _ _ _ _ _ c.loop-source.invariant.consumed more.2,
      );
    }

pub returns-in-Whole-clause-reads : goal.returns-in-Whole-clause-reads
returns-in-Whole-clause-reads g c =
    let more = c.read_more.ensures.limit in
    record {
      failures = search rules;
      limit = (
        c.loop-source.held.items ++ more.0,
        rw length-append (omega (arith, more.1, c.loop-source.held.ok.0)),
        Consumes-trans _ _ _ _ _ c.loop-source.invariant.consumed more.2,
      );
    }

pub returns-clause-none : goal.returns-clause-none
returns-clause-none g c _ = none_by_limit _ _ (omega (arith, c.loop-source.invariant.short, c.loop-source.held.ok.0))
    c.loop-source.invariant.none

pub returns-in-Never-clause-method : goal.returns-in-Never-clause-method
returns-in-Never-clause-method g c _ = method_when_never _ _ (rw (c.in-Never.is, c.as_slice.ensures.value) at c.try_head.ensures.tries)
