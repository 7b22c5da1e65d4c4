use Rattle.index_pages.proofs.Words.{◌≡◌, length, skip_blanks}
use Rattle.index_pages.proofs.item.trim_start.Given as goal

abbrev pub invariant-loop-rest : goal.invariant-loop-rest
invariant-loop-rest l = skip_blanks l.rest ≡ skip_blanks l.bytes

abbrev pub decreases-loop-rest : goal.decreases-loop-rest
decreases-loop-rest l = length l.rest
