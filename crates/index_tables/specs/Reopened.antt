-- What is opened of what an index left.
use Rattle.std.specs.Prelude.{◌≡◌, ◌⊎◌, Result, Ok, Err}
use Rattle.sqlite_disk.specs.declared.Disk as disk
use Rattle.sqlite_wal.specs.Recovery.{Image}
use Rattle.sqlite_trees.specs.declared.store.Store.{Ghosts}
use Rattle.sqlite_store.specs.declared.store.FileStore.{FileStore}
use Rattle.sqlite_store.specs.FileStore as store
use Rattle.sqlite.specs.Closing.{HoldsAlone}
use Rattle.sqlite.specs.Files.{file_state}
use Rattle.sqlite.specs.Held.{Held, state}
use Rattle.sqlite.specs.Start.{FindsIn}
use Rattle.sqlite.specs.State.{State, HasCleanDisk, IsLive, Opens}
use Rattle.index_sql_reads.specs.ConnectionTables.{tables_of}
use Rattle.index_rules.specs.Tables.{Tables}
use Rattle.index_tables.specs.declared.opening.Unopened.{Unopened}
use Rattle.index_tables.specs.BooksState.{BooksState, IsHonest, Leaves}
use Rattle.index_tables.specs.Opened.{IsFault}

-- a crash at this moment may leave these two files
abbrev pub MayLeave : {D : Type 0} {g : disk.Ghosts D} → Held (FileStore D g) → Image → Type 0
MayLeave held = (store.state held.store).may_leave

-- a crash or a close may leave these two files
abbrev pub IsLeft : {D : Type 0} {g : disk.Ghosts D} → Held (FileStore D g) → Image → Type 0
IsLeft held image = MayLeave held image ⊎ HoldsAlone image (file_state held).committed.trees

-- the connection was opened over these files: what `open_from` and `open_files` ensure
pub record IsOver (image : Image) (s : State) : Type 0 where
  pub found : FindsIn image s
  pub opened : Opens s × IsLive s

-- the connection was opened over these files, as far as its disk is clean
abbrev pub IsOpenedOver : {S : Type 0} → Ghosts S → Image → Held S → Type 0
IsOpenedOver g image conn = HasCleanDisk (state g conn) → IsOver image (state g conn)

-- a crash leaves one of these two tables
abbrev pub CrashLeavesEitherTables : Tables → Tables → State → Type 0
CrashLeavesEitherTables A B s = (T : Tables) → Leaves 2 s T → (T ≡ A) ⊎ (T ≡ B)

-- on a clean disk, an index with such tables is opened, or memory ran out or the store failed
abbrev pub OpensOnly : {S : Type 0} → Ghosts S → (Tables → Type 0)
    → Result (BooksState S) (Unopened S) → Type 0
OpensOnly g Are (Ok books) =
    HasCleanDisk (state g books.conn)
    → IsHonest 2 (state g books.conn) × Are (tables_of g books.conn)
OpensOnly g Are (Err refused) = HasCleanDisk (state g refused.conn) → IsFault refused.why
