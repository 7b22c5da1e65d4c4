-- Lists of texts.
use Rattle.std.specs.Prelude.{◌≡◌, Bool, List}
use Rattle.std.specs.List.{list_any}
use Rattle.std.specs.List.Sorted.{IsStrictlySortedBy}
use Rattle.index_rules.specs.Maps.{Bytes, same, bytes_cmp}

-- the texts that pass a test, each once, in byte order
abbrev pub AreThose : (Bytes → Bool) → List Bytes → Type 0
AreThose test texts =
    IsStrictlySortedBy bytes_cmp texts
    × ((text : Bytes) → list_any (same text) texts ≡ test text)
