-- How an init with a volume ends, and what the next run finds.
use Rattle.std.specs.Prelude.{◌≡◌, ◌≢◌, ◌↔◌, Bool, List, ℕ, Option, Some, Result, Ok, Err, IfErr}
use Rattle.std.specs.Prelude.{IfOk, IfSome, IsErrAnd, IsOk, IsTrue, false}
use Rattle.sqlite.specs.Closing.{IsCopied}
use Rattle.sqlite.specs.declared.FileStore.{FileStore}
use Rattle.sqlite.specs.Files.{IsClosed, file_state, over_files}
use Rattle.sqlite.specs.Held.{Held}
use Rattle.sqlite.specs.Recovery.{Image}
use Rattle.sqlite.specs.State.{HasCleanDisk}
use Rattle.sqlite.specs.WalReads.{AreClean}
use Rattle.sqlite_trees.specs.View.{IsClean}
use Rattle.sqlite_disk.specs.declared.Disk.{Ghosts}
use Rattle.sqlite_disk.specs.declared.Files.{Files}
use Rattle.index_digest.specs.Digest.{read_digest}
use Rattle.index_rules.specs.declared.open.OpenFault.TheVariants as open_fault
use Rattle.index_rules.specs.FirstTables.{IsBadFirstUser, first_tables}
use Rattle.index_rules.specs.Maps.{Bytes}
use Rattle.index_sql_opening.specs.Names.{has_any_of}
use Rattle.index_sql_schema.specs.Schema.{index_schema, no_schema}
use Rattle.index_tables.specs.declared.opening.Unopened.{Unopened}
use Rattle.index_tables.specs.BooksState.{BooksState}
use Rattle.index_tables.specs.Opened.{AreNew}
use Rattle.index_tables.specs.Reopened.{MayLeave}
use Rattle.index.specs.declared.database.Left.TheVariants as unused
use Rattle.index.specs.declared.database.Unclosed.{Unclosed}
use Rattle.index.specs.declared.failed_opening.FailedOpening.{FailedOpening}
use Rattle.index.specs.declared.end.End.{End}
use Rattle.index.specs.declared.end.End.TheVariants as end
use Rattle.index.specs.Chains.{CrashLeavesFiles, CreatedRun, InitRun, LeadsOn, UnusedLeavesFiles}
use Rattle.index.specs.Ends.{closing_of, is_fault_end}
use Rattle.index.specs.InVolume.{HasDatabaseOf, IsNextOf, Pair, in_volume, pair_of}
use Rattle.index.specs.Openings.{HasSumsAs, IsBadFirstUserByHex, IsOpenedOn, IsToldOf, OpeningEnds}
use Rattle.index.specs.Runs.{DigestHas}

-- a new index of version 3 with this user and the digest of a token was made on a connection, and
-- its files were closed, or could not be
pub record MadePlaced {D : Type 0} {g : Ghosts D} (user token : Bytes) (conn : Held (FileStore D g))
    (closed : Result (Files D) (Unclosed D g)) : Type 0 where
  pub books : BooksState (FileStore D g)
  pub new : AreNew 3 over_files (first_tables user token) conn books
  pub free : has_any_of (file_state conn).now.schema index_schema.tables ≡ false
  pub copied : IfOk closed (λ it. AreClean g it.log it.db → IsCopied books.conn it)
  pub kept : IfErr closed (λ it. IsClosed books.conn it.store)
  pub fault : IfErr closed (λ it. IsTrue (is_fault_end it.fault))
  -- the next run finds the new index, whatever its volume holds
  pub leads : (start : Pair) → HasDatabaseOf start.image conn → IfOk closed (λ files.
      AreClean g files.log files.db → (next : Pair) → IsNextOf g files next.image
      → LeadsOn in_volume (CreatedRun user token) start next)
  -- if the files could not be closed: what was there, or the new index
  pub unclosed : (start : Pair) → IsOpenedOn start.image conn → IfErr closed (λ it.
      IsClean (over_files.view it.store) → (next : Pair) → MayLeave books.conn next.image
      → LeadsOn in_volume (InitRun user token) start next)

-- An init makes a volume only beside a blank database: else the volume is as it was.
abbrev pub VolumeStays : {D : Type 0} {g : Ghosts D} → Held (FileStore D g) → Pair → Pair → Type 0
VolumeStays conn start next =
    (file_state conn).now.schema ≢ no_schema → next.volume ≡ start.volume

-- No index was made on the first connection, which is left as the last. The next run finds what was
-- there, or the new index.
abbrev pub UnmadeLeadsOn : {D : Type 0} {g : Ghosts D} → Bytes → Bytes → Held (FileStore D g)
    → Held (FileStore D g) → Type 0
UnmadeLeadsOn user token first last =
    (start : Pair) → IsOpenedOn start.image first → CrashLeavesFiles last (λ image.
    (volume : List ℕ) → VolumeStays first start (pair_of image volume)
    → LeadsOn in_volume (InitRun user token) start (pair_of image volume))

-- no new index of version 3 was made on a connection
pub record IsUnmadePlaced {D : Type 0} {g : Ghosts D} (user token : Bytes)
    (conn : Held (FileStore D g)) (left : Unopened (FileStore D g)) : Type 0 where
  pub bad_first_user : left.why ≡ open_fault.BadFirstUser → IsBadFirstUser user token
  pub leads : UnmadeLeadsOn user token conn left.conn

-- how the making of an index of version 3 on a connection ends
abbrev pub MakesPlaced : {D : Type 0} {g : Ghosts D} → Bytes → Bytes → Held (FileStore D g)
    → Result (Result (Files D) (Unclosed D g)) (Unopened (FileStore D g)) → Type 0
MakesPlaced user token conn (Ok closed) = MadePlaced user token conn closed
MakesPlaced user token conn (Err left) = IsUnmadePlaced user token conn left

-- no volume could be made, for this reason, and this connection is left
pub record IsUnmadeVolume {D : Type 0} {g : Ghosts D} (user token : Bytes)
    (conn : Held (FileStore D g)) (left : End × Held (FileStore D g)) : Type 0 where
  pub fault : IsTrue (is_fault_end left.0)
  pub leads : UnmadeLeadsOn user token conn left.1

-- how it ends if its volume is made before
abbrev pub MakesBeside : {D : Type 0} {g : Ghosts D} → Bytes → Bytes → Held (FileStore D g)
    → Result (Result (Result (Files D) (Unclosed D g)) (Unopened (FileStore D g)))
    (End × Held (FileStore D g)) → Type 0
MakesBeside user token conn (Ok made) = MakesPlaced user token conn made
MakesBeside user token conn (Err left) = IsUnmadeVolume user token conn left

-- what is told of that
abbrev pub IsToldOfMade : {D : Type 0} {g : Ghosts D}
    → Result (Result (Result (Files D) (Unclosed D g)) (Unopened (FileStore D g)))
    (End × Held (FileStore D g)) → Result (Unit {0}) End → Type 0
IsToldOfMade (Ok (Ok closed)) result = result ≡ closing_of closed
IsToldOfMade (Ok (Err left)) result =
    IsErrAnd result (IsToldOf (end.Open left.why) (Some (unused.Refused left)))
IsToldOfMade (Err left) result = result ≡ Err left.0

-- an init with a volume, on a connection to the database, and what it told
pub record InitEndsOver {D : Type 0} {g : Ghosts D} (user token : Bytes)
    (conn : Held (FileStore D g)) (result : Result (Unit {0}) End) : Type 0 where
  pub made : Result (Result (Result (Files D) (Unclosed D g)) (Unopened (FileStore D g)))
      (End × Held (FileStore D g))
  pub ends : MakesBeside user token conn made
  pub told : IsToldOfMade made result

-- An init did not come so far as to open the database. The next run finds what was there, beside
-- any volume.
abbrev pub ShutInitLeadsOn : {D : Type 0} {g : Ghosts D} → Bytes → Bytes → Image
    → FailedOpening D g → Type 0
ShutInitLeadsOn user token start failed =
    (volume : List ℕ) → IfSome failed.left (λ left. UnusedLeavesFiles (unused.Shut left) (λ image.
    LeadsOn in_volume (InitRun user token) (pair_of start volume) (pair_of image volume)))

-- an init with a volume, with this user, these hex digits of the token's digest, and page sums or
-- none, on two files that held this
pub record ComesOfPlacedInit {D : Type 0} (g : Ghosts D) (user digits : Bytes) (page_sums : Bool)
    (start : Image) (result : Result (Unit {0}) End) : Type 0 where
  -- the first user is refused before a file is opened
  pub bad_first_user : result ≡ Err (end.Open open_fault.BadFirstUser)
      ↔ IsBadFirstUserByHex user digits
  -- the opening of the database, if it came so far
  pub opened : Option (Result (Held (FileStore D g)) (FailedOpening D g))
  pub ends : IfSome opened (OpeningEnds page_sums start)
  pub shut : IfSome opened (λ it. IfErr it (λ failed. (result ≡ Err failed.why)
      × DigestHas digits (λ digest. ShutInitLeadsOn user digest start failed)))
  pub ended : IfSome opened (λ it. IfOk it (λ conn.
      DigestHas digits (λ digest. InitEndsOver user digest conn result)))
  pub made : IsOk result → (digest : Bytes) × (read_digest digits ≡ Some digest)
      × (conn : Held (FileStore D g)) × IsOpenedOn start conn
      × HasDatabaseOf start conn
      × (HasCleanDisk (file_state conn) → HasSumsAs page_sums start conn)
      × ((closed : Result (Files D) (Unclosed D g)) × MadePlaced user digest conn closed
      × (result ≡ closing_of closed))
