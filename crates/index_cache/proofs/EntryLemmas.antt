-- What is left when the first bodies go.
use Rattle.std.proofs.Common.{◌≡◌, ap, ◌∙◌, List, ◌+◌, drop}
use Rattle.std.proofs.lemmas.List.{drop-drop}
use Rattle.index_cache.specs.declared.entries.CachedBody.{CachedBody}
use Rattle.index_cache.specs.Entries.{AreNewest}

-- one more goes
pub newest_still : (kept mid left : List CachedBody) → AreNewest kept mid → left ≡ drop 1 mid → AreNewest kept left
newest_still kept mid left (gone, is) first = (gone + 1, first ∙ ap (drop 1) is ∙ drop-drop 1 gone kept)
