use Rattle.index_pages.proofs.Words.{◌-◌, ◌≤◌, length}
use Rattle.index_pages.proofs.CutLemmas.{Lacks}
use Rattle.index_pages.proofs.item.cut.Given as goal

-- no byte so far is the separator
abbrev pub invariant-loop-at : goal.invariant-loop-at
invariant-loop-at l = record { within : l.at ≤ length l.bytes; lacks : Lacks l.separator l.at l.bytes }

abbrev pub decreases-loop-at : goal.decreases-loop-at
decreases-loop-at l = length l.bytes - l.at
