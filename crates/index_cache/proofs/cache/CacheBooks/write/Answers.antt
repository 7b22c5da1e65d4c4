use Rattle.std.proofs.Common.{rules}
use Rattle.index_cache.proofs.SparedLemmas.{cached_after}
use Rattle.index_cache.proofs.cache.CacheBooks.write.Goals as goal

-- src/cache.rt:118:9
pub invariant_of-self-clause-cached_bodies : goal.invariant_of-self-clause-cached_bodies
invariant_of-self-clause-cached_bodies g c = search (rules, cached_after)
