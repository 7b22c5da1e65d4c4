-- The cause of a failed database, or of an address that can't be listened on.
use Rattle.std.specs.Prelude.{Bool, List, None, Option, Some, codes, false, find, if◌then◌else◌}
use Rattle.std.specs.Prelude.{nat_le, not, option_map, string_bytes, true, ℕ, ◌+◌, ◌&&◌, ◌==◌}
use Rattle.std.specs.Prelude.{◌≡◌, ◌⊎◌}
use Rattle.std.specs.List.{list_any, starts_with}
use Rattle.std.specs.Net.Grammar.{IsSocketText}
use Rattle.std.specs.Str.Lossy.{utf8_lossy}
use Rattle.std.specs.declared.io.ErrorKind.{ErrorKind}
use Rattle.std.specs.declared.io.ErrorKind.TheVariants as kind
use Rattle.std.specs.declared.net.socket_addr.SocketAddr.{SocketAddr}
use Rattle.sqlite.specs.declared.error.Error.{Error}
use Rattle.sqlite.specs.declared.error.Error.TheVariants.{SqliteFailure}
use Rattle.sqlite.specs.declared.error.ErrorCode.TheVariants as code
use Rattle.sqlite_disk.specs.declared.tally.Tally.{Tally}
use Rattle.sqlite_schema.specs.Names.{same_name}
use Rattle.sqlite_schema.specs.declared.schema.Schema.{Schema}
use Rattle.sqlite_schema.specs.declared.schema.Table.{Table}
use Rattle.index_sql_schema.specs.FirstVersion.{first_version_schema}
use Rattle.index_sql_schema.specs.Schema.{index_schema, no_schema}
use Rattle.index.specs.declared.cause.Cause.{Cause}
use Rattle.index.specs.declared.cause.Cause.TheVariants as cause

-- the cause of an error of SQLite
abbrev pub cause_of_error : Error → Option Cause
cause_of_error (SqliteFailure code.DatabaseBusy) = Some cause.InUse
cause_of_error (SqliteFailure code.NotADatabase) = Some cause.NoDatabase
cause_of_error (SqliteFailure code.DatabaseCorrupt) = Some cause.Damaged
cause_of_error (SqliteFailure code.SystemIoFailure) = Some cause.DiskFailed
cause_of_error (SqliteFailure code.DiskFull) = Some cause.Full
cause_of_error (SqliteFailure code.Closed) = Some cause.Shut
cause_of_error _ = None

-- The cause of failed calls of the files. `may_be_used` says whether every sync succeeded.
abbrev pub cause_of_calls : Tally → Bool → Option Cause
cause_of_calls tally may_be_used =
    if not (tally.caught == 0) then Some cause.Damaged
    else if not (tally.refused == 0) then Some cause.Full
    else if may_be_used then None
    else Some cause.DiskFailed

-- A log of this length has room for its header and for a frame with the smallest page (SQLite's
-- file format, section 4.1).
abbrev pub log_with_a_page : ℕ
log_with_a_page = 32 + (24 + 512)

-- The cause that forbids to open a database file and its log of these lengths. With page sums the
-- file must be new. An empty file beside a log that may hold pages was emptied or is another's.
abbrev pub cause_of_lengths : Bool → ℕ → ℕ → Option Cause
cause_of_lengths page_sums db log =
    if page_sums && not (db == 0) then Some cause.NotNew
    else if (db == 0) && nat_le log_with_a_page log then Some cause.Emptied
    else None

-- the cause of an error of the system at a path
abbrev pub cause_of_kind : ErrorKind → Option Cause
cause_of_kind kind.NotFound = Some cause.NoFile
cause_of_kind kind.NotADirectory = Some cause.NoFolder
cause_of_kind kind.PermissionDenied = Some cause.NoRight
cause_of_kind kind.ReadOnlyFilesystem = Some cause.NoRight
cause_of_kind kind.IsADirectory = Some cause.Folder
cause_of_kind _ = None

-- the cause at a path: whether it is a folder, whether it is a file, and how many names it has
abbrev pub cause_of_node : Bool → Bool → ℕ → Option Cause
cause_of_node is_folder is_file names =
    if is_folder then Some cause.Folder
    else if not is_file then Some cause.NoRegularFile
    else if names == 1 then None
    else Some cause.SecondName

-- the cause is found at the path of a database, without opening its files
abbrev pub is_at_path : Cause → Bool
is_at_path cause.NoFile = true
is_at_path cause.NoFolder = true
is_at_path cause.NotMade = true
is_at_path cause.NoRight = true
is_at_path cause.Folder = true
is_at_path cause.NoRegularFile = true
is_at_path cause.SecondName = true
is_at_path cause.Beside = true
is_at_path _ = false

-- ---- an address

-- the cause of an error of the system at an address that can't be listened on
abbrev pub cause_of_bind : ErrorKind → Cause
cause_of_bind kind.AddrInUse = cause.AddressInUse
cause_of_bind kind.AddrNotAvailable = cause.OtherMachine
cause_of_bind kind.PermissionDenied = cause.NoRightToPort
cause_of_bind _ = cause.NotListened

-- the text is not an address with a port
abbrev pub IsNoAddress : List ℕ → Type 0
IsNoAddress text = (address : SocketAddr) → ¬ IsSocketText text address

-- the cause is about the address of a server
abbrev pub is_of_address : Cause → Bool
is_of_address cause.NoAddress = true
is_of_address cause.AddressInUse = true
is_of_address cause.OtherMachine = true
is_of_address cause.NoRightToPort = true
is_of_address cause.NotListened = true
is_of_address _ = false

-- ---- the objects of a schema

-- a table of an index has this name, in either case of ASCII letters
abbrev pub is_table : List ℕ → Bool
is_table name =
    list_any (λ (table : Table). same_name table.name name) index_schema.tables

-- SQLite gives such names to the indexes of keys, and reserves them
abbrev pub is_of_key : List ℕ → Bool
is_of_key name = starts_with (λ a b. a == b) name (codes "sqlite_autoindex_")

-- no index has an object of this name
abbrev pub is_other : List ℕ → Bool
is_other name = not (is_table name) && not (is_of_key name)

-- the first value, or else the second
abbrev pub or_else : {T : Type 0} → Option T → Option T → Option T
or_else (Some first) second = Some first
or_else None second = second

-- the name of the first object that an index does not have: of the tables, then of the indexes,
-- then of the views and whatever else is kept as it is
abbrev pub other_object : Schema → Option (List ℕ)
other_object schema =
    or_else (option_map (λ table. table.name) (find (λ table. is_other table.name) schema.tables))
    (or_else
    (option_map (λ index. index.name) (find (λ index. is_other index.name) schema.indexes))
    (option_map (λ view. view.name) (find (λ view. is_other view.name) schema.views)))

-- the schema of an empty database, of an index, or of an index of version 1
abbrev pub IsKnown : Schema → Type 0
IsKnown schema =
    (schema ≡ no_schema) ⊎ ((schema ≡ index_schema) ⊎ (schema ≡ first_version_schema))

-- the cause names this object, as text
abbrev pub IsObject : List ℕ → Option Cause → Type 0
IsObject name told =
    (text : _) × (told ≡ Some (cause.Object text)) × (string_bytes text ≡ utf8_lossy name)

-- the cause in a schema: the first object that no index has, or tables that differ from those of an
-- index
abbrev pub SchemaHasCause : Schema → Option Cause → Type 0
SchemaHasCause schema told =
    ((name : List ℕ) × (other_object schema ≡ Some name) × IsObject name told)
    ⊎ ((other_object schema ≡ None) × (told ≡ Some cause.OtherTables))
