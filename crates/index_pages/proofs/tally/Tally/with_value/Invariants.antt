use Rattle.index_pages.proofs.Words.{◌≡◌, ◌+◌, length, map, option_map_or, byte, cut_at, item_of, after_all, items_left}
use Rattle.index_pages.proofs.tally.Tally.with_value.Given as goal

-- the items so far and those that are left are those of the value
abbrev pub invariant-loop-left : goal.invariant-loop-left
invariant-loop-left l = after_all l.tally (items_left l.left) ≡ after_all l.fn.self (map item_of (cut_at (byte ",") l.value))

abbrev pub decreases-loop-left : goal.decreases-loop-left
decreases-loop-left l = option_map_or (λ rest. length rest.now + 1) l.left 0
