use Rattle.std.proofs.Common.{ℕ, ◌-◌, ◌≡◌, ◌++◌, List, length, vec_len, ◌≤◌}
use Rattle.std.specs.Io.KnownBytes.{Consumes}
use Rattle.index_message.proofs.head.read_up_to.Given as goal

-- what came is what the source gave
abbrev pub invariant-loop-source : goal.invariant-loop-source
invariant-loop-source g l = record {
  consumed : (more : List ℕ) × (l.held.items ≡ l.fn.held.items ++ more)
      × Consumes (g.S.Source.remaining l.fn.source) (g.S.Source.remaining l.source) more
      × (length more ≤ l.wanted);
  steady : g.S.Source.failures l.source ≡ g.S.Source.failures l.fn.source;
}

abbrev pub decreases-loop-source : goal.decreases-loop-source
decreases-loop-source g l = l.wanted - vec_len l.held
