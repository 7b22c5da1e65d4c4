use Rattle.index_sql_opening.proofs.Words.{◌≡◌, length, ◌≤◌}
use Rattle.std.proofs.Common.{take}
use Rattle.index_sql_opening.proofs.same.items.same_slices.Given as goal

-- the items so far are the same, in lists of one length
abbrev pub invariant-loop-at : goal.invariant-loop-at
invariant-loop-at g l = record {
  front : take l.at l.first ≡ take l.at l.second;
  lengths : length l.first ≡ length l.second;
  within : l.at ≤ length l.first;
}
