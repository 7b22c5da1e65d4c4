-- A run of the program: what it finds in a database file and its log, and what it leaves in them at
-- its end or by a crash.
use Rattle.std.specs.Prelude.{Bool, IfErr, IfOk, IfSome, IsErrOf, IsTrue, None, Result, Some, false}
use Rattle.std.specs.Prelude.{ℕ, ◌↔◌, ◌≡◌, ◌⊎◌}
use Rattle.sqlite.specs.Closing.{HoldsAlone}
use Rattle.sqlite.specs.Effect.{Database, IsDatabase}
use Rattle.sqlite.specs.declared.FileStore.{FileStore}
use Rattle.sqlite.specs.Files.{IsClosed, file_state, image_of, over_files}
use Rattle.sqlite.specs.Held.{Held}
use Rattle.sqlite.specs.WalReads.{AreClean}
use Rattle.sqlite_trees.specs.View.{IsClean}
use Rattle.sqlite.specs.Recovery.{Image}
use Rattle.sqlite.specs.State.{HasCleanDisk, State}
use Rattle.sqlite.specs.Tree.{Trees}
use Rattle.sqlite.specs.WalFiles.{outcomes}
use Rattle.sqlite_disk.specs.declared.Disk.{Ghosts}
use Rattle.sqlite_disk.specs.declared.Files.{Files}
use Rattle.index_digest.specs.Digest.{read_digest}
use Rattle.index_sql_opening.specs.Names.{has_any_of}
use Rattle.index_rules.specs.declared.open.OpenFault.TheVariants as open_fault
use Rattle.index_rules.specs.FirstTables.{IsBadFirstUser, first_tables}
use Rattle.index_rules.specs.Maps.{Bytes}
use Rattle.index_rules.specs.Tables.{Tables}
use Rattle.index_sql_schema.specs.Records.{tables_in}
use Rattle.index_sql_schema.specs.Schema.{index_schema}
use Rattle.index_tables.specs.Adopted.{IsCommitted, IsCurrent, IsFound}
use Rattle.index_tables.specs.BooksState.{AreCurrent, IsWorking}
use Rattle.index_tables.specs.Reopened.{MayLeave}
use Rattle.index.specs.declared.database.Finished.{Finished}
use Rattle.index.specs.declared.database.Unclosed.{Unclosed}
use Rattle.index.specs.declared.database.Unused.{Unused}
use Rattle.index.specs.declared.end.End.{End}
use Rattle.index.specs.declared.end.End.TheVariants as end
use Rattle.index.specs.Ends.{is_fault_end}
use Rattle.index.specs.Keeping.{FindsOnly, Keeping}
use Rattle.index.specs.Openings.{HasSumsAs, HoldsOnly, IsBadFirstUserByHex, IsCleanClosed}
use Rattle.index.specs.Openings.{cause_of_files}
use Rattle.index.specs.Openings.{IsOpenedOn, IsUnfound, IsUnmade, IsWhyUnfound, IsWhyUnmade}
use Rattle.index.specs.Openings.{IsWhyUnused, UnusedLeaves}
use Rattle.index.specs.Tasks.{Does, DoesInPart, Task}

-- ---- two files

-- the files hold an index with these tables, of the current version or of version 1
pub record Holds (image : Image) (T : Tables) : Type 0 where
  pub db : Database
  pub found : IsFound db T
  pub only : HoldsOnly image db

-- the files hold a current index with these tables, the database file alone does too, and the next
-- run finds no others
pub record HoldsCurrent (image : Image) (T : Tables) : Type 0 where
  pub db : Database
  pub current : IsCurrent 2 db T
  pub held : HoldsAlone image db.trees
  pub next : (found : Tables) → Holds image found → found ≡ T

-- the files held a database, no table of which has the name of one of an index
pub record HoldsNone (image : Image) : Type 0 where
  pub db : Database
  -- the trees of the database list this schema
  pub sound : IsDatabase db
  pub only : HoldsOnly image db
  pub free : has_any_of db.schema index_schema.tables ≡ false

-- an index is kept in two files
abbrev pub in_files : Keeping Image
in_files = record { Holds = Holds; HoldsCurrent = HoldsCurrent; HoldsNone = HoldsNone }

-- the files hold these tables now, and so does whatever a crash leaves of them
pub record HoldsAfterCrash {D : Type 0}
    (g : Ghosts D) (files : Files D) (T : Tables) : Type 0 where
  pub seen : HoldsCurrent (image_of g files) T
  pub crash : (image : Image) → outcomes g files.log files.db image → HoldsCurrent image T

-- ---- a run

-- the files held an index, work was done on its tables, and the files hold the result
pub record Ran {D : Type 0} (g : Ghosts D) (Does : Tables → Tables → Type 0)
    (start : Image) (files : Files D) : Type 0 where
  pub before : Tables
  pub after : Tables
  pub held : Holds start before
  pub did : Does before after
  pub left : HoldsAfterCrash g files after

-- Every database that an open after a crash may find has tables of this kind. One that is not a
-- current index counts as any tables at all.
abbrev pub CrashLeavesOnlyTables : (Trees → Type 0) → (Tables → Type 0) → Type 0
CrashLeavesOnlyTables may_leave Are =
    (db : Trees) → may_leave db → (T : Tables) → (AreCurrent 2 db → T ≡ tables_in db) → Are T

-- the tables of a database that an open after a crash may find, or any if it is no current index
abbrev pub CrashMayLeave : (Trees → Type 0) → Tables → Type 0
CrashMayLeave may_leave T = (db : Trees) × may_leave db × (AreCurrent 2 db → T ≡ tables_in db)

-- the work on an index was cut short: what it did, and what a crash leaves of it
pub record Interrupted {D : Type 0} {g : Ghosts D}
    (Does : Tables → (Tables → Type 0) → Type 0) (start : Image) (store : FileStore D g)
    : Type 0 where
  pub before : Tables
  pub held : Holds start before
  -- a connection whose close left this store
  pub last : Held (FileStore D g)
  pub closed : IsClosed last store
  pub did : Does before (CrashMayLeave (file_state last).may_leave)
  -- what a crash leaves of the store
  pub left : CrashLeavesOnlyTables (over_files.recovers store)
      (CrashMayLeave (file_state last).may_leave)
  -- whatever index the next run finds is one that the work may leave
  pub next : (image : Image) → MayLeave last image
      → FindsOnly in_files image (CrashMayLeave (file_state last).may_leave)
  -- the next files hold some part of an index
  pub there : (image : Image) → MayLeave last image → ¬ HoldsNone image

-- the files held no part of an index, and hold a new one with these tables
pub record Created {D : Type 0}
    (g : Ghosts D) (T : Tables) (start : Image) (files : Files D) : Type 0 where
  pub held : HoldsNone start
  pub left : HoldsAfterCrash g files T

-- The files held no part of an index, and a crash leaves a new one with these tables, in the log.
-- Whatever index the next run finds has these tables, for some connection whose close left this
-- store.
pub record CreatedInLog {D : Type 0} {g : Ghosts D}
    (T : Tables) (start : Image) (store : FileStore D g) : Type 0 where
  pub held : HoldsNone start
  pub left : CrashLeavesOnlyTables (over_files.recovers store) (λ found. found ≡ T)
  pub last : Held (FileStore D g)
  pub closed : IsClosed last store
  pub next : (image : Image) → MayLeave last image → FindsOnly in_files image (λ found. found ≡ T)
  pub there : (image : Image) → MayLeave last image → ¬ HoldsNone image

-- ---- a run of work on the index in two files

-- how a run of work ends, by its task
pub record RunEndsOnFiles {D : Type 0} (g : Ghosts D) (task : Task) (start : Image)
    (result : Result (Finished D g) (Unused D g)) : Type 0 where
  -- the files held an index, and hold the result of the work
  pub ran : IfOk result (λ run. IfOk run.closed (λ files. AreClean g files.log files.db
      → Ran g (Does task run.end) start files))
  -- if the log was not copied, the answers are right up to a fault, after which no call was
  -- accepted, and a crash leaves what the work may leave
  pub interrupted : IfOk result (λ run. IfErr run.closed (λ it.
      IsClean (over_files.view it.store)
      → Interrupted (DoesInPart task run.end) start it.store))
  pub fault : IfOk result (λ run. IfErr run.closed (λ it. IsTrue (is_fault_end it.fault)))
  -- a refused database is as it was, or an index of version 1 became a current one
  pub refused : IfErr result (λ it. IfSome it.left (UnusedLeaves IsUnfound start))
  pub why : IfErr result (λ it. IsWhyUnused false (IsWhyUnfound over_files) start it.why it.left)

-- ---- an init on two files

-- the hex digits are of a digest for which this holds
abbrev pub DigestHas : Bytes → (Bytes → Type 0) → Type 0
DigestHas digits Has = (digest : Bytes) × (read_digest digits ≡ Some digest) × Has digest

-- how an init ends, by its user, the hex digits of the token's digest, and whether page sums were
-- asked for
pub record InitEndsOnFiles {D : Type 0}
    (g : Ghosts D) (user digits : Bytes) (page_sums : Bool) (start : Image)
    (result : Result (Result (Files D) (Unclosed D g)) (Unused D g)) : Type 0 where
  -- the first user is refused before a file is opened
  pub bad_first_user :
      IsErrOf result (record { why = end.Open open_fault.BadFirstUser; left = None })
      ↔ IsBadFirstUserByHex user digits
  -- the files held no part of an index, and hold the new one
  pub created : IfOk result (λ closed. IfOk closed (λ files. AreClean g files.log files.db
      → DigestHas digits (λ digest. Created g (first_tables user digest) start files)))
  -- if the log was not copied, a crash leaves the new index
  pub unclosed : IfOk result (λ closed. IfErr closed (λ it.
      IsClean (over_files.view it.store)
      → DigestHas digits (λ digest. CreatedInLog (first_tables user digest) start it.store)))
  pub fault : IfOk result (λ closed. IfErr closed (λ it. IsTrue (is_fault_end it.fault)))
  -- the index was made on a connection whose pages end in sums, if these were asked for
  pub sums : IfOk result (λ closed. IsCleanClosed closed
      → (first : Held (FileStore D g)) × IsOpenedOn start first × HasSumsAs page_sums start first)
  -- the lengths of the files allowed it
  pub allowed : IfOk result (λ closed. IsCleanClosed closed
      → cause_of_files page_sums start ≡ None)
  -- a refused database is as it was
  pub refused : IfErr result (λ it. IfSome it.left (λ left.
      DigestHas digits (λ digest. UnusedLeaves (IsUnmade (first_tables user digest)) start left)))
  pub why : (digest : Bytes) → read_digest digits ≡ Some digest → (¬ IsBadFirstUser user digest)
      → IfErr result (λ it.
      IsWhyUnused page_sums (IsWhyUnmade user digest over_files) start it.why it.left)

-- ---- a connection, before its files are known

-- an index was found in a database, work was done on its tables, and the result is committed
pub record Worked
    (Does : Tables → Tables → Type 0) (was : Database) (now : State) : Type 0 where
  pub before : Tables
  pub after : Tables
  pub found : IsFound was before
  pub did : Does before after
  pub committed : IsCommitted 2 now after

-- an index was found in a database, and work on it was begun, of which a crash may leave this
pub record Began (Does : Tables → (Tables → Type 0) → Type 0) (was : Database)
    (may_leave : Trees → Type 0) : Type 0 where
  pub before : Tables
  pub found : IsFound was before
  pub did : Does before (CrashMayLeave may_leave)

-- How a task on a connection ends. The connection works, or is clean, only if it was before.
pub record WorkEndsOnConnection (task : Task) (told : Result ℕ End) (was now : State)
    : Type 0 where
  pub was_working : IsWorking now → IsWorking was
  pub was_clean : HasCleanDisk now → HasCleanDisk was
  pub worked : IsWorking now → Worked (Does task told) was.now now
  pub began : HasCleanDisk now → IsTrue was.is_open
      → Began (DoesInPart task told) was.now now.may_leave

-- A new index with these tables was made in a database without one. The connection works, or is
-- clean, only if it was before. A crash leaves only that index.
pub record IsMadeNew (T : Tables) (was now : State) : Type 0 where
  pub free : has_any_of was.now.schema index_schema.tables ≡ false
  pub was_working : IsWorking now → IsWorking was
  pub was_clean : HasCleanDisk now → HasCleanDisk was
  pub committed : IsWorking now → IsCommitted 2 now T
  pub left : HasCleanDisk now → IsTrue was.is_open
      → CrashLeavesOnlyTables now.may_leave (λ found. found ≡ T)

-- The disk was clean before. If all was committed in an open database, a crash leaves what was
-- there, or, if a fault has shut it, what `Made` says.
pub record CrashLeavesDatabase (Made : Database → Trees → Type 0) (was now : State) : Type 0 where
  pub was_clean : HasCleanDisk was
  pub left : IsTrue was.is_open → was.now ≡ was.committed → (db : Trees) → now.may_leave db
      → (db ≡ was.now.trees) ⊎ ((now.is_open ≡ false) × Made was.now db)
