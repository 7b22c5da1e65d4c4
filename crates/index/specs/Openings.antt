-- The opening of two files, and a run that does nothing on them.
use Rattle.std.specs.Prelude.{Bool, Err, IfErr, IfOk, IfSome, IsTrue, None, Ok, Option, Result}
use Rattle.std.specs.Prelude.{Some, false, length, true, ◌&&◌, ◌<◌, ◌≡◌, ◌⊎◌}
use Rattle.sqlite.specs.Effect.{Database, IsDatabase}
use Rattle.sqlite.specs.FileStore.{recovers}
use Rattle.sqlite.specs.declared.FileStore.{FileStore}
use Rattle.sqlite.specs.Files.{AreFoundIn, HoldsDatabase, IsBlankAs, IsCleanLeft, IsClosed, IsEmpty}
use Rattle.sqlite.specs.Files.{IsFullLeft, IsNothing, IsOpened, faults_left, faults_of, file_state}
use Rattle.sqlite.specs.Files.{image_of, over_files, tally_left}
use Rattle.sqlite.specs.Start.{FindsIn}
use Rattle.sqlite.specs.declared.file.Leftover.{Leftover}
use Rattle.sqlite.specs.declared.file.Leftover.TheVariants as leftover
use Rattle.sqlite.specs.Recovery.{Image}
use Rattle.sqlite.specs.State.{HasCleanDisk, State}
use Rattle.sqlite.specs.Tree.{Trees}
use Rattle.sqlite.specs.WalFiles.{outcomes}
use Rattle.sqlite.specs.WalReads.{AreClean, tally_of_files}
use Rattle.sqlite.specs.Held.{AreDatabases, Held, state}
use Rattle.sqlite_trees.specs.declared.store.Store.{Ghosts}
use Rattle.sqlite_trees.specs.View.{IsClean}
use Rattle.sqlite_disk.specs.declared.Disk as disk
use Rattle.sqlite_disk.specs.declared.Files.{Files}
use Rattle.sqlite_pool.specs.Stored.{StandsAs}
use Rattle.sqlite_store.specs.FileStore.{files, view}
use Rattle.sqlite_store.specs.Unopened.{state_of}
use Rattle.index_digest.specs.Digest.{read_digest}
use Rattle.index_rules.specs.declared.open.OpenFault.{OpenFault}
use Rattle.index_rules.specs.declared.open.OpenFault.TheVariants as open_fault
use Rattle.index_rules.specs.FirstTables.{IsBadFirstUser, first_record}
use Rattle.index_rules.specs.Maps.{Bytes}
use Rattle.index_sql_schema.specs.Schema.{index_schema}
use Rattle.index_sql_schema.specs.Unchanged.{IsUnchangedIfOpen}
use Rattle.index_sql_opening.specs.Names.{has_any_of}
use Rattle.index_sql_opening.specs.NewAsks.{asks_of_new}
use Rattle.index_tables.specs.Adopted.{IsOurs, IsRaised, IsReason}
use Rattle.index_tables.specs.Opened.{IsCreated, IsFault, RefusesFound, RefusesNew, StoreForOthers}
use Rattle.index_rules.specs.Tables.{Tables}
use Rattle.index.specs.declared.cause.Cause.{Cause}
use Rattle.index.specs.declared.cause.Cause.TheVariants as cause
use Rattle.index.specs.declared.database.Left.{Left}
use Rattle.index.specs.declared.database.Unclosed.{Unclosed}
use Rattle.index.specs.declared.database.Left.TheVariants as unused
use Rattle.index.specs.declared.end.End.{End}
use Rattle.index.specs.declared.end.End.TheVariants as end
use Rattle.index.specs.declared.failed_opening.FailedOpening.{FailedOpening}
use Rattle.index.specs.Causes.{SchemaHasCause, cause_of_calls, cause_of_lengths, is_at_path}
use Rattle.index.specs.Ends.{is_fault_end, is_store}

-- the files recover to this database, and to no other
pub record HoldsOnly (image : Image) (db : Database) : Type 0 where
  pub read : AreFoundIn image db.trees
  pub alone : (other : Trees) → HoldsDatabase image other → db.trees ≡ other

-- the files hold some database
abbrev pub HoldsSome : Image → Type 0
HoldsSome image = (db : Trees) × HoldsDatabase image db

-- ---- the opening

-- Why two files were not opened: memory ran out, another program has them open, or the system
-- refused. Then the path may show the cause.
abbrev pub IsWhyNoFiles : End → Type 0
IsWhyNoFiles told =
    (told ≡ end.OutOfMemory)
    ⊎ ((told ≡ end.Store (Some cause.InUse))
    ⊎ ((found : Option Cause)
    × (told ≡ end.Store found) × IfSome found (λ it. IsTrue (is_at_path it))))

-- the cause that forbids to open the two files, by their lengths
abbrev pub cause_of_files : Bool → Image → Option Cause
cause_of_files page_sums start =
    cause_of_lengths page_sums (length start.db) (length start.log)

-- why two files were not opened: their lengths forbid it
abbrev pub IsWhyForbidden : Bool → Image → End → Type 0
IsWhyForbidden page_sums start told =
    (found : Cause) × (told ≡ end.Store (Some found))
    × (cause_of_files page_sums start ≡ Some found)

-- two files hold what they held, and no call on them failed since
pub record AreAsFound {D : Type 0}
    (g : disk.Ghosts D) (start : Image) (files : Files D) : Type 0 where
  pub same : image_of g files ≡ start
  pub crash : (image : Image) → outcomes g files.log files.db image → image ≡ start
  pub faults : faults_of g files ≡ 0
  pub tally : tally_of_files g (files.log, files.db) ≡ record { caught = 0; refused = 0 }

module _ {D : Type 0} {g : disk.Ghosts D} where
  -- What a crash leaves of two files that can't be opened as a database. Before a write: what they
  -- held. If there was no database: none, or an empty one. If there was one: its pages. After its
  -- pages were read: an open finds what the files held.
  abbrev pub ShutLeaves : Image → Leftover D g → Type 0
  ShutLeaves start (leftover.Files now) =
      (image : Image) → outcomes g now.log now.db image → image ≡ start
  ShutLeaves start (leftover.Unopened now) =
      (image : Image) → (state_of now).may_leave image
      → (image ≡ start)
      ⊎ ((IsNothing start
      × (IsNothing image ⊎ ∥ ((db : Trees) × HoldsDatabase image db × IsEmpty db) ∥₁))
      ⊎ ((¬ IsNothing start) × (¬ IsNothing image)
      × StandsAs (state_of now).page_size start image))
  ShutLeaves start (leftover.Store now) =
      (found : Trees) → recovers now found
      → AreFoundIn start found × ((db : Trees) → HoldsDatabase start db → found ≡ db)

  -- `ShutLeaves`, if the files have returned what was written
  abbrev pub CleanShutLeaves : Image → Leftover D g → Type 0
  CleanShutLeaves start left = IsCleanLeft left → ShutLeaves start left

  -- a connection was opened on files that held this, if its disk is clean
  abbrev pub IsOpenedOn : Image → Held (FileStore D g) → Type 0
  IsOpenedOn start conn =
      HasCleanDisk (file_state conn) → IsOpened conn × FindsIn start (file_state conn)

  -- With page sums the database file was empty, and its pages end in sums. Without, the pages of a
  -- blank file have none.
  abbrev pub HasSumsAs : Bool → Image → Held (FileStore D g) → Type 0
  HasSumsAs true start conn = (length start.db ≡ 0) × ((view conn.store).has_sums ≡ true)
  HasSumsAs false start conn = IsBlankAs false start → (view conn.store).has_sums ≡ false

  -- why two files that held this can't be opened as a database: memory ran out, they are neither a
  -- database nor new, a call on them failed (with that call's cause), or they have the greatest
  -- size
  abbrev pub IsWhyNoDatabase : Image → Leftover D g → End → Type 0
  IsWhyNoDatabase start left told =
      (told ≡ end.OutOfMemory)
      ⊎ ((((told ≡ end.Store (Some cause.NoDatabase)) ⊎ (told ≡ end.Store (Some cause.Damaged)))
      × (¬ HoldsSome start) × (¬ IsNothing start))
      ⊎ (((told ≡ end.Store (cause_of_calls (tally_left left) false)) × (0 < faults_left left))
      ⊎ ((told ≡ end.Store (Some cause.Full)) × IsFullLeft left)))

  -- Why two files were not opened, with page sums or without. For files that were opened it is
  -- known only if they have returned what was written.
  abbrev pub IsWhyShut : Bool → Image → End → Option (Leftover D g) → Type 0
  IsWhyShut page_sums start told None = IsWhyNoFiles told
  IsWhyShut page_sums start told (Some left) =
      IsCleanLeft left → IsWhyNoDatabase start left told ⊎ IsWhyForbidden page_sums start told

  -- how the opening of files that held this ends, with page sums or without
  pub record OpeningEnds (page_sums : Bool) (start : Image)
      (result : Result (Held (FileStore D g)) (FailedOpening D g)) : Type 0 where
    pub outside : IfOk result (λ conn. conn.in_transaction ≡ false)
    pub opened : IfOk result (IsOpenedOn start)
    pub sums : IfOk result (λ conn. HasCleanDisk (file_state conn)
        → HasSumsAs page_sums start conn)
    pub allowed : IfOk result (λ conn. HasCleanDisk (file_state conn)
        → cause_of_files page_sums start ≡ None)
    pub shut : IfErr result (λ e. IfSome e.left (CleanShutLeaves start))
    pub fault : IfErr result (λ e. IsTrue (is_fault_end e.why))
    -- the error of SQLite, or what is found at the path
    pub why : IfErr result (λ e. IsWhyShut page_sums start e.why e.left)

-- ---- a database that is refused

-- The files held a database that was refused. A crash leaves it as it was, or, if a fault has shut
-- the connection, as `Made` says.
pub record Refused
    (Made : Database → Trees → Type 0) (start : Image) (now : State) : Type 0 where
  pub db : Database
  pub sound : IsDatabase db
  pub only : HoldsOnly start db
  pub left : (found : Trees) → now.may_leave found
      → (found ≡ db.trees) ⊎ ((now.is_open ≡ false) × Made db found)

-- no index was found in the files' database
abbrev pub IsUnfound : Image → State → Type 0
IsUnfound start now = HasCleanDisk now → Refused IsRaised start now

-- no index with these tables was made in the files' database
abbrev pub IsUnmade : Tables → Image → State → Type 0
IsUnmade T start now = HasCleanDisk now → Refused (IsCreated 2 T) start now

-- the hex digits are malformed, or this user and token can't be the first
abbrev pub IsBadFirstUserByHex : Bytes → Bytes → Type 0
IsBadFirstUserByHex user digits =
    (read_digest digits ≡ None)
    ⊎ ((digest : Bytes) × (read_digest digits ≡ Some digest) × IsBadFirstUser user digest)

-- why no new index with this first user was made in the database
pub record IsWhyUnmade {S : Type 0}
    (user token : Bytes) (g : Ghosts S) (first last : Held S) (why : OpenFault) : Type 0 where
  pub was_clean : HasCleanDisk (state g last) → HasCleanDisk (state g first)
  pub kind : RefusesNew why
  pub bad_first_user : why ≡ open_fault.BadFirstUser → IsBadFirstUser user token
  pub taken : why ≡ open_fault.NotEmpty
      → IsTrue (has_any_of (state g first).now.schema index_schema.tables)
  -- a failed store has a cause, if its disk is clean
  pub store : HasCleanDisk (state g last)
      → StoreForOthers g (asks_of_new 2 user (first_record token)) first last why

-- Why no index was found in the database, which is as it was. That, its objects and the cause are
-- known only of a clean disk.
pub record IsWhyUnfound {S : Type 0}
    (g : Ghosts S) (first last : Held S) (why : OpenFault) : Type 0 where
  pub was_clean : HasCleanDisk (state g last) → HasCleanDisk (state g first)
  pub stays : HasCleanDisk (state g last) → IsUnchangedIfOpen (state g first) (state g last)
  pub kind : RefusesFound why
  pub reason : HasCleanDisk (state g last) → IsReason g first last why
  -- an index is refused only because memory ran out or the store failed
  pub again : HasCleanDisk (state g last) → IsTrue (state g first).is_open
      → IsOurs (state g first).now → IsFault why

module _ {D : Type 0} {g : disk.Ghosts D} where
  -- a crash leaves only databases of this store, and it can be opened again
  abbrev pub OpensAgain : FileStore D g → Type 0
  OpensAgain store =
      IsTrue (over_files.view store).is_numbered × AreDatabases (over_files.recovers store)

  -- so far the files have returned what was written, whether or not they could be closed
  abbrev pub IsCleanClosed : Result (Files D) (Unclosed D g) → Type 0
  IsCleanClosed (Ok files) = AreClean g files.log files.db
  IsCleanClosed (Err unclosed) = IsClean (over_files.view unclosed.store)

  -- what a crash leaves of two files on which nothing was done
  abbrev pub UnusedLeaves : (Image → State → Type 0) → Image → Left D g → Type 0
  UnusedLeaves IsRefused start (unused.Shut left) = CleanShutLeaves start left
  UnusedLeaves IsRefused start (unused.Refused left) =
      IsRefused start (file_state left.conn)
      × (HasCleanDisk (file_state left.conn) → OpensAgain left.conn.store)

  -- why nothing was done on two files that held this, with page sums or without: they were not
  -- opened, memory ran out first, they are no database or not a new one, or it was refused for a
  -- reason of this kind
  abbrev pub IsWhyUnused : Bool
      → (Held (FileStore D g) → Held (FileStore D g) → OpenFault → Type 0)
      → Image → End → Option (Left D g) → Type 0
  IsWhyUnused page_sums IsFor start told None =
      (told ≡ end.Open open_fault.OutOfMemory) ⊎ IsWhyNoFiles told
  IsWhyUnused page_sums IsFor start told (Some (unused.Shut left)) =
      IsTrue (is_fault_end told) × IsWhyShut page_sums start told (Some left)
  IsWhyUnused page_sums IsFor start told (Some (unused.Refused left)) =
      (told ≡ end.Open left.why)
      × ((first : Held (FileStore D g))
      × IsOpenedOn start first × IsFor first left.conn left.why)

  -- the cause of a failed store, from the calls that failed on its files and from their syncs
  abbrev pub cause_of_store : FileStore D g → Option Cause
  cause_of_store store =
      let calls = files store in
      cause_of_calls (tally_of_files g calls) (g.is_usable calls.0 && g.is_usable calls.1)

  -- why a database was refused on this connection: its schema has the cause, or its closed files
  -- have
  abbrev pub IsWhyRefused : Held (FileStore D g) → Option Cause → Type 0
  IsWhyRefused conn found =
      SchemaHasCause (file_state conn).now.schema found
      ⊎ ((last : FileStore D g) × IsClosed conn last × (found ≡ cause_of_store last))

  -- The end that is reported of two files on which nothing was done. If the store failed, the cause
  -- is that of the refused connection.
  abbrev pub IsToldOf : End → Option (Left D g) → End → Type 0
  IsToldOf why None told = told ≡ why
  IsToldOf why (Some (unused.Shut left)) told = told ≡ why
  IsToldOf why (Some (unused.Refused left)) told =
      (is_store why ≡ false → told ≡ why)
      × (is_store why ≡ true → (found : Option Cause) × (told ≡ end.Store found)
      × IsWhyRefused left.conn found)
