-- The place that ends last.
use Rattle.std.specs.Prelude.{◌≡◌, ◌==◌, ◌&&◌, ℕ, Bool, true, List, [], ◌∷◌, Option, Some, None}
use Rattle.std.specs.Prelude.{IfSome, cond, length, nat_lt}
use Rattle.std.specs.FinMap.{get}
use Rattle.index_digest.specs.Digest.{sha256}
use Rattle.index_rules.specs.Maps.{Bytes}
use Rattle.index_rules.specs.Tables.{Tables}
use Rattle.index_rules.specs.declared.records.FileRecord.{FileRecord}
use Rattle.index_volume.specs.Places.{bytes_at, place_end, place_length}
use Rattle.index_volume_books.specs.Over.{Fits}

-- the digest is that of the record of this file, if the file has one
abbrev pub IsDigestOf : Tables → Bytes → Bytes → Type 0
IsDigestOf T file digest =
    (known : FileRecord) → get T.files file ≡ Some known → digest ≡ known.digest

-- the place of this file ends last, and each body is a place; none if there is no body
abbrev pub IsLast : Tables → Option Bytes → Type 0
IsLast T None = (file place : Bytes) → get T.bodies file ≡ Some place → ⊥
IsLast T (Some last) = (place : Bytes) × (get T.bodies last ≡ Some place) × Fits (place_end place) T

-- a volume has at the place of this file bytes with the digest of its record
abbrev pub HasBytesOf : List ℕ → Tables → Bytes → Type 0
HasBytesOf volume T file = (place : Bytes) → get T.bodies file ≡ Some place
    → IsDigestOf T file (sha256 (bytes_at volume place))

-- if there is a place, the volume has the bytes of the file whose place ends last
abbrev pub IsVolumeOf : Tables → List ℕ → Type 0
IsVolumeOf T volume = (last : Option Bytes) × IsLast T last × IfSome last (HasBytesOf volume T)

-- of two entries of `bodies` the one whose place ends later; the first if both end together
abbrev pub ending_later : Option (Bytes × Bytes) → Bytes × Bytes → Option (Bytes × Bytes)
ending_later None entry = Some entry
ending_later (Some last) entry =
    cond (nat_lt (place_end last.1) (place_end entry.1)) (Some entry) (Some last)

-- of this entry and those of a list the one whose place ends last
abbrev pub last_from : Option (Bytes × Bytes) → List (Bytes × Bytes) → Option (Bytes × Bytes)
last_from last [] = last
last_from last (entry ∷ entries) = last_from (ending_later last entry) entries

-- whether each text in a list of entries has the length of a place
abbrev pub are_places : List (Bytes × Bytes) → Bool
are_places [] = true
are_places (entry ∷ entries) = (length entry.1 == place_length) && are_places entries
