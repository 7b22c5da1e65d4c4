use Rattle.std.specs.Prelude.{◌≡◌, length}
use Rattle.std.specs.List.{All}
use Rattle.index_rules.specs.Tables.{Tables}
use Rattle.index_cache.specs.Entries.{AreNewest, IsCachedBody, body_bytes}
use Rattle.index_cache.proofs.entries.keep_newest.Given as goal

-- what is kept of the tables still is, the bytes are counted, and the first went first
abbrev pub invariant-loop-kept : goal.invariant-loop-kept
invariant-loop-kept l = ((T : Tables) → All (IsCachedBody T) l.fn.bodies.items → All (IsCachedBody T) l.bodies.items)
    × (l.kept ≡ body_bytes l.bodies.items) × AreNewest l.fn.bodies.items l.bodies.items

abbrev pub decreases-loop-kept : goal.decreases-loop-kept
decreases-loop-kept l = length l.bodies.items
