use Rattle.std.proofs.Common.{rules}
use Rattle.index_cache.proofs.EntryLemmas.{newest_still}
use Rattle.index_cache.proofs.entries.keep_newest.Goals as goal

pub loop-kept-preserved : goal.loop-kept-preserved
loop-kept-preserved c = (search rules, search rules, newest_still _ _ _ c.loop-kept.invariant.2 c.remove_first-kept.ensures.oldest)
