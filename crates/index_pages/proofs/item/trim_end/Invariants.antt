use Rattle.index_pages.proofs.Words.{◌≡◌, length, skip_blanks}
use Rattle.std.specs.Prelude.{reverse}
use Rattle.index_pages.proofs.item.trim_end.Given as goal

abbrev pub invariant-loop-rest : goal.invariant-loop-rest
invariant-loop-rest l = skip_blanks (reverse l.rest) ≡ skip_blanks (reverse l.bytes)

abbrev pub decreases-loop-rest : goal.decreases-loop-rest
decreases-loop-rest l = length l.rest
