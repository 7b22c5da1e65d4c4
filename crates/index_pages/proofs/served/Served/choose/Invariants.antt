use Rattle.index_pages.proofs.Words.{◌≡◌, drop, items_of, after_all}
use Rattle.index_pages.proofs.served.Served.choose.Given as goal

-- the items so far and those that are left are those of all values
abbrev pub invariant-loop-value : goal.invariant-loop-value
invariant-loop-value l = after_all l.tally (items_of (drop l.value-index l.accept)) ≡ after_all l.initial.tally (items_of l.accept)
