use Rattle.std.proofs.Common.{◌≡◌, ◌-◌, vec_len, ◌≤◌}
use Rattle.std.specs.Io.KnownBytes.{Consumes}
use Rattle.httparse.specs.Grammar.{HasNoRequest, MayBecomeRequest}
use Rattle.index_message.proofs.head.read_head.Given as goal

-- the bytes that came hold no head, and are those that the source gave
abbrev pub invariant-loop-source : goal.invariant-loop-source
invariant-loop-source g l = record {
  none : HasNoRequest l.held.items;
  may : MayBecomeRequest l.held.items;
  consumed : Consumes (g.S.Source.remaining l.fn.source) (g.S.Source.remaining l.source) l.held.items;
  short : vec_len l.held ≤ 16384;
  steady : g.S.Source.failures l.source ≡ g.S.Source.failures l.fn.source;
}

abbrev pub decreases-loop-source : goal.decreases-loop-source
decreases-loop-source g l = 16384 - vec_len l.held
