-- The bytes that a change leaves.
use Rattle.std.specs.Prelude.{Bool, true, false, not}
use Rattle.index_rules.specs.Maps.{Bytes, same}
use Rattle.index_rules.specs.declared.change.Change.{Change}
use Rattle.index_rules.specs.declared.change.Change.TheVariants.{Upload, Delete, BanFile, Prohibit}
use Rattle.index_cache.specs.declared.entries.CachedBody.{CachedBody}

-- a change leaves the bytes of all files but the one that it uploads, deletes or bans; a
-- prohibition may touch any
abbrev pub spares_file : Change → Bytes → Bool
spares_file (Upload _ _ changed _ _ _) file = not (same file changed)
spares_file (Delete _ _ changed _) file = not (same file changed)
spares_file (BanFile _ _ changed _) file = not (same file changed)
spares_file (Prohibit _) file = false
spares_file _ file = true

-- a change leaves the body of this entry
abbrev pub spares_body : Change → CachedBody → Bool
spares_body change kept = spares_file change kept.file
