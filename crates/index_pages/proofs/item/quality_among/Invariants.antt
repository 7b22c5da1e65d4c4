use Rattle.index_pages.proofs.Words.{◌≡◌, ◌+◌, length, option_map_or}
use Rattle.index_pages.specs.Accept.{first_quality}
use Rattle.index_pages.specs.Tally.{pieces_left}
use Rattle.index_pages.proofs.item.quality_among.Given as goal

-- the pieces that are left decide
abbrev pub invariant-loop-left : goal.invariant-loop-left
invariant-loop-left l = first_quality (pieces_left l.left) ≡ first_quality (pieces_left l.fn.pieces)

abbrev pub decreases-loop-left : goal.decreases-loop-left
decreases-loop-left l = option_map_or (λ rest. length rest.now + 1) l.left 0
