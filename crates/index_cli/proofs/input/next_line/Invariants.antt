use Rattle.index_cli.proofs.Words.{◌≡◌, ◌+◌}
use Rattle.index_cli.proofs.Cuts.{Grows}
use Rattle.index_cli.proofs.input.next_line.Given as goal

abbrev pub invariant-loop-size : goal.invariant-loop-size
invariant-loop-size g l = record {
  grows : Grows (g.S.Source.remaining l.fn.source) (g.S.Source.remaining l.source) l.size l.line.items;
  counted : l.left + l.size ≡ l.most;
  kept : g.S.Source.failures l.source ≡ g.S.Source.failures l.fn.source;
}
