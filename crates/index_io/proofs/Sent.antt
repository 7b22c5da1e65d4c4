-- Known bytes of a writer, over several writes.
use Rattle.std.proofs.Common.{◌≡◌, ℕ, ◌+◌, List, take, drop, Option}
use Rattle.std.specs.Io.KnownBytes.{Appends}
use Rattle.std.proofs.KnownBytes.{Appends-trans}
use Rattle.std.proofs.Math.Seq.{take-add}

-- a front of some bytes, and then more of them
pub Appends-take_more : (a b c : Option (List ℕ)) (bytes : List ℕ) (written count more : ℕ) → more ≡ written + count
    → Appends a b (take written bytes) → Appends b c (take count (drop written bytes)) → Appends a c (take more bytes)
Appends-take_more a b c bytes written count more is front next = rw (is, take-add written count bytes) (Appends-trans a b c _ _ front next)
