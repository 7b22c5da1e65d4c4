-- Books and a volume that are taken together.
use Rattle.std.specs.Prelude.{◌≡◌, ◌≢◌, ℕ, ◌<◌, List, Result, IfErr, OnOk, IsTrue, Some, length}
use Rattle.std.specs.FinMap.{get}
use Rattle.sqlite_disk.specs.Disk.{Only}
use Rattle.index_digest.specs.Digest.{sha256}
use Rattle.index_rules.specs.Maps.{Bytes}
use Rattle.index_rules.specs.Tables.{Tables}
use Rattle.index_rules.specs.declared.records.FileRecord.{FileRecord}
use Rattle.index_volume.specs.Places.{LiesBelow, bytes_at, place_end}
use Rattle.index_volume_books.specs.declared.adopt.TakeFault.{TakeFault}
use Rattle.index_volume_books.specs.declared.adopt.TakeFault.TheVariants as fault
use Rattle.index_volume_books.specs.Last.{HasBytesOf, IsVolumeOf}
use Rattle.index_volume_books.specs.Over.{Fits}
use Rattle.index_volume_books.specs.Through.{BothHonest, Side, left_of, both_tables}

-- a place of these tables ends behind this end
abbrev pub EndsBehind : ℕ → Tables → Type 0
EndsBehind end T =
    (file : Bytes) × (place : Bytes) × (get T.bodies file ≡ Some place) × (end < place_end place)

-- at a place of these tables the volume has bytes whose digest is not that of the file
abbrev pub HasOtherBytes : List ℕ → Tables → Type 0
HasOtherBytes volume T = (file : Bytes) × (place : Bytes) × (get T.bodies file ≡ Some place)
    × ((known : FileRecord) → get T.files file ≡ Some known
    → sha256 (bytes_at volume place) ≢ known.digest)

-- books and a volume after they were looked at and synced
pub record AreSettled (old new : Side) : Type 0 where
  pub unchanged : new.IsHonest → new.tables ≡ old.tables
  pub volume : new.volume ≡ old.volume
  pub honest : new.IsHonest → old.IsHonest
  pub clean : new.IsClean → old.IsClean
  pub volume_clean : IsTrue new.is_clean → IsTrue old.is_clean
  pub books_crash : (T : Tables) → new.books_leave T → old.books_leave T
  pub volume_crash : (c : List ℕ) → new.volume_leaves c → old.volume_leaves c

-- books and a volume of which the places end at this end or below, which is that of the volume
pub record AreFit (end : ℕ) (old new : Side) : Type 0 where
  pub settled : AreSettled old new
  pub end_is : IsTrue new.is_clean → end ≡ length old.volume
  pub fits : new.IsHonest → Fits end old.tables
  pub own : BothHonest new → IsVolumeOf old.tables old.volume
  pub lasts : old.IsHonest → new.IsClean → new.IsHonest
  -- a crash leaves the places as they stand, and the volume as it is
  pub places_alone : (T : Tables) → new.books_leave T → (T ≡ old.tables) × Fits end T
  pub volume_alone : Only old.volume new.volume_leaves

-- what a look at the bytes of the last file leaves, in a volume with this end
pub record LooksAtLast (end : ℕ) (last : Bytes) (old new : Side)
    (result : Result (Unit {0}) TakeFault) : Type 0 where
  pub settled : AreSettled old new
  pub lasts : OnOk result (old.IsHonest → new.IsClean → new.IsHonest)
  pub works : OnOk result ((T : Tables) → new.books_leave T → new.IsHonest)
  pub below : OnOk result (new.IsHonest → (place : Bytes)
      → get old.tables.bodies last ≡ Some place → LiesBelow end place)
  pub own : OnOk result (BothHonest new → HasBytesOf old.volume old.tables last)
  pub short : IfErr result (λ why. why ≡ fault.TooShort → new.IsHonest
      → (place : Bytes) × (get old.tables.bodies last ≡ Some place) × (end < place_end place))
  pub other : IfErr result (λ why. why ≡ fault.OtherVolume → BothHonest new
      → HasOtherBytes old.volume old.tables)

-- books and a volume that were taken together: the tables are the bytes of the volume at the places
-- of the books, all of which lie within it, and it has the bytes of the last
pub record AreTaken (old new : Side) : Type 0 where
  pub settled : AreSettled old new
  pub fits : BothHonest new → Fits (length old.volume) old.tables
  pub own : BothHonest new → IsVolumeOf old.tables old.volume
  pub lasts : old.IsHonest → new.IsClean → new.IsHonest
  -- a crash leaves these tables and nothing else
  pub alone : (T : Tables) → left_of new T → T ≡ both_tables old

-- books and a volume that were not taken together
pub record AreUntaken (why : TakeFault) (old new : Side) : Type 0 where
  pub settled : AreSettled old new
  -- only a volume that is too short is refused as such
  pub short : why ≡ fault.TooShort → BothHonest new → EndsBehind (length old.volume) old.tables
  -- only a volume that has other bytes at a place is refused as another
  pub other : why ≡ fault.OtherVolume → BothHonest new → HasOtherBytes old.volume old.tables
