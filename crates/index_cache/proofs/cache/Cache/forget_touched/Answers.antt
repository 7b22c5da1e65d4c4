use Rattle.std.proofs.Common.{rules}
use Rattle.index_cache.proofs.SparedLemmas.{still_cached}
use Rattle.index_cache.proofs.cache.Cache.forget_touched.Goals as goal

-- src/cache.rt:88:9
pub invariant_of-self-clause-cached_bodies : goal.invariant_of-self-clause-cached_bodies
invariant_of-self-clause-cached_bodies g c = search (rules, still_cached)
