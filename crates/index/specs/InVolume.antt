-- An index in two files and a volume: what a run finds there, and what is left.
use Rattle.std.specs.Prelude.{◌≡◌, ◌⊎◌, ℕ, List, IsTrue, length}
use Rattle.sqlite.specs.Closing.{HoldsAlone}
use Rattle.sqlite.specs.Effect.{Database, IsDatabase}
use Rattle.sqlite.specs.Files.{file_state, image_of}
use Rattle.sqlite.specs.Held.{Held}
use Rattle.sqlite.specs.Recovery.{Image}
use Rattle.sqlite.specs.WalFiles.{outcomes}
use Rattle.sqlite.specs.WalReads.{AreClean}
use Rattle.sqlite.specs.declared.FileStore.{FileStore}
use Rattle.sqlite_disk.specs.declared.Disk.{Ghosts}
use Rattle.sqlite_disk.specs.declared.Files.{Files}
use Rattle.index_rules.specs.Tables.{Tables}
use Rattle.index_tables.specs.Adopted.{IsCurrent}
use Rattle.index_tables.specs.BooksState.{IsWorking}
use Rattle.index_tables.specs.Reopened.{MayLeave}
use Rattle.index_volume_books.specs.Over.{Fits, over}
use Rattle.index.specs.Keeping.{Keeping}
use Rattle.index.specs.Openings.{HoldsOnly}
use Rattle.index.specs.Runs.{HoldsNone}

-- the two files of a database, and a volume
pub record Pair : Type 0 where
  pub image : Image
  pub volume : List ℕ

abbrev pub pair_of : Image → List ℕ → Pair
pair_of image volume = record { image = image; volume = volume }

-- these places lie within a volume, and with its bytes they are these tables
pub record AreWhole (volume : List ℕ) (places T : Tables) : Type 0 where
  pub fits : Fits (length volume) places
  pub whole : T ≡ over volume places

-- the files hold an index of version 3 and nothing else, and the volume has the bytes at its places
pub record HoldsPlaced (pair : Pair) (T : Tables) : Type 0 where
  pub db : Database
  pub places : Tables
  pub current : IsCurrent 3 db places
  pub only : HoldsOnly pair.image db
  pub within : AreWhole pair.volume places T

-- the same, and the database file alone holds the index too
pub record HoldsPlacedAlone (pair : Pair) (T : Tables) : Type 0 where
  pub db : Database
  pub places : Tables
  pub current : IsCurrent 3 db places
  pub held : HoldsAlone pair.image db.trees
  pub within : AreWhole pair.volume places T

-- An index is kept in two files and a volume. Files with no part of an index may lie beside any
-- volume: it is read at places alone.
abbrev pub in_volume : Keeping Pair
in_volume = record {
  Holds = HoldsPlaced;
  HoldsCurrent = HoldsPlacedAlone;
  HoldsNone = λ pair. HoldsNone pair.image;
}

-- ---- the next files and volume

-- none of the three files has lied
abbrev pub AllClean : {D E : Type 0} → Ghosts D → Ghosts E → Files D → E → Type 0
AllClean g e files disk = AreClean g files.log files.db × IsTrue (e.is_clean disk)

-- the next run finds the closed files as they are, or as a crash leaves them
abbrev pub IsNextOf : {D : Type 0} → Ghosts D → Files D → Image → Type 0
IsNextOf g files next = (next ≡ image_of g files) ⊎ outcomes g files.log files.db next

-- the next run finds a volume as it is, or as a crash leaves it
abbrev pub IsNextVolume : {E : Type 0} → Ghosts E → E → List ℕ → Type 0
IsNextVolume e disk next = (next ≡ e.seen disk) ⊎ e.may_leave disk next

-- and both
pub record IsNextPair {D E : Type 0} (g : Ghosts D) (e : Ghosts E) (files : Files D) (disk : E)
    (next : Pair) : Type 0 where
  pub image : IsNextOf g files next.image
  pub volume : IsNextVolume e disk next.volume

-- The files of the database were not closed. The next run finds what a crash leaves of them, and of
-- the volume.
pub record IsLeftPair {D E : Type 0} {g : Ghosts D} (e : Ghosts E) (last : Held (FileStore D g))
    (disk : E) (next : Pair) : Type 0 where
  pub image : MayLeave last next.image
  pub volume : e.may_leave disk next.volume

-- ---- a connection to the database of two files

-- the files hold the database on this connection, and no other
pub record IsDatabaseOf {D : Type 0} {g : Ghosts D} (image : Image) (conn : Held (FileStore D g))
    : Type 0 where
  pub sound : IsDatabase (file_state conn).now
  pub only : HoldsOnly image (file_state conn).now

-- the same, as long as the connection works
abbrev pub HasDatabaseOf : {D : Type 0} {g : Ghosts D} → Image → Held (FileStore D g) → Type 0
HasDatabaseOf image conn = IsWorking (file_state conn) → IsDatabaseOf image conn
