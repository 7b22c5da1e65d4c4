-- Which index an existing database is opened as.
use Rattle.std.specs.Prelude.{Bool, IfErr, IfOk, IsTrue, List, None, Option, Result, Some, codes}
use Rattle.std.specs.Prelude.{false, if◌then◌else◌, ℕ, ◌&&◌, ◌==◌, ◌≡◌, ◌≢◌, ◌⊎◌}
use Rattle.sqlite_value.specs.Order.{Row}
use Rattle.sqlite_trees.specs.Tree.{Trees}
use Rattle.sqlite_trees.specs.declared.store.Store.{Ghosts}
use Rattle.sqlite_schema.specs.declared.schema.Schema.{Schema}
use Rattle.sqlite.specs.Effect.{Database}
use Rattle.sqlite.specs.Held.{Held, state}
use Rattle.sqlite.specs.State.{State}
use Rattle.index_sql_opening.specs.Migrated.{asks_of_migration}
use Rattle.index_sql_opening.specs.Names.{has_all_of, has_meta, has_table}
use Rattle.index_sql_opening.specs.Versions.{VersionQueryFails, VersionQueryShows, begun}
use Rattle.index_sql_opening.specs.Versions.{VersionQueryFailsInside}
use Rattle.index_sql_writes.specs.StepAsks.{AreRefused}
use Rattle.index_sql_schema.specs.Reasons.{HasReason}
use Rattle.index_rules.specs.declared.answer.Fault.TheVariants as fault
use Rattle.index_rules.specs.declared.open.OpenFault.{OpenFault}
use Rattle.index_rules.specs.declared.open.OpenFault.TheVariants.{NotAnIndex, OtherVersion}
use Rattle.index_rules.specs.declared.open.OpenFault.TheVariants.{OutOfMemory, Store}
use Rattle.index_rules.specs.Facts.{HasOneBearer}
use Rattle.index_rules.specs.History.{History}
use Rattle.index_rules.specs.StandsFor.{StandsFor}
use Rattle.index_rules.specs.Tables.{Tables}
use Rattle.index_sql_schema.specs.FirstVersion.{IsAnyVersion, IsFirstVersion, first_version_schema}
use Rattle.index_sql_schema.specs.FirstVersion.{without_bans}
use Rattle.index_sql_schema.specs.Index.{IsIndex, meta_in, raised, version_in}
use Rattle.index_sql_schema.specs.Records.{tables_in}
use Rattle.index_sql_schema.specs.Schema.{index_schema}
use Rattle.index_tables.specs.declared.adopt.Kind.{Kind}
use Rattle.index_tables.specs.declared.adopt.Kind.TheVariants as kind
use Rattle.index_tables.specs.declared.opening.Unopened.{Unopened}
use Rattle.index_tables.specs.BooksState.{AreCurrent, BooksState}
use Rattle.index_tables.specs.Opened.{AreOpened, HaveMeta, HaveTables, IsUnopened, RefusesFound}

-- an index with this version in meta and these tables
pub record IsCurrent (number : ℕ) (db : Database) (T : Tables) : Type 0 where
  pub index : IsIndex db
  pub version : version_in db.trees ≡ Some number
  pub tables : T ≡ tables_in db.trees

-- the connection is to an index of this version with these tables, all of it committed
pub record IsCommitted (number : ℕ) (s : State) (T : Tables) : Type 0 where
  pub current : IsCurrent number s.now T
  pub committed : s.now ≡ s.committed

-- a database of version 1, with that version in meta; these are its tables, with no file banned
pub record IsFirst (db : Database) (T : Tables) : Type 0 where
  pub first : IsFirstVersion db
  pub version : version_in db.trees ≡ Some 1
  pub tables : T ≡ without_bans (tables_in db.trees)

-- a database of version 1, with that version in meta
abbrev pub HasVersionOne : Database → Type 0
HasVersionOne db = IsFirstVersion db × (version_in db.trees ≡ Some 1)

-- an index with its version in meta, 2 or 1
abbrev pub IsOurs : Database → Type 0
IsOurs db = (IsIndex db × (version_in db.trees ≡ Some 2)) ⊎ HasVersionOne db

-- an index with these tables is found in the database
abbrev pub IsFound : Database → Tables → Type 0
IsFound db T = IsCurrent 2 db T ⊎ IsFirst db T

-- the tables stand for each history that the tables found in the database stand for
abbrev pub StandAsFound : Database → Tables → Type 0
StandAsFound db T = (was : Tables) (h : History) → IsFound db was → StandsFor was h → StandsFor T h

-- an index of version 2 made of a database of version 1; the rows of meta stay, except for the
-- version
abbrev pub IsRaised : Database → Trees → Type 0
IsRaised was db =
    HasVersionOne was × AreCurrent 2 db × (tables_in db ≡ without_bans (tables_in was.trees))
    × (meta_in db ≡ raised (meta_in was.trees))

-- the rows of meta of an index as they were, or those of a database of version 1 with the version
-- changed
abbrev pub AreHandedOn : Database → List Row → Type 0
AreHandedOn was rows =
    (IsIndex was × (rows ≡ meta_in was.trees))
    ⊎ (HasVersionOne was × (rows ≡ raised (meta_in was.trees)))

-- the schema is that of this kind
abbrev pub HasSchema : Schema → Kind → Type 0
HasSchema schema kind.Index = schema ≡ index_schema
HasSchema schema kind.FirstVersion = schema ≡ first_version_schema

-- the database is an index, or is of version 1
abbrev pub IsOfKind : Database → Kind → Type 0
IsOfKind db kind.Index = IsIndex db
IsOfKind db kind.FirstVersion = IsFirstVersion db

-- the version of a database: that in its row of meta if its tables are those of an index, else what
-- the query of it shows
abbrev pub DatabaseHasVersion : {S : Type 0} → Ghosts S → Held S → Option ℕ → Type 0
DatabaseHasVersion g held version =
    ((IsTrue (state g held).is_open → IsAnyVersion (state g held).now)
    × (version ≡ version_in (state g held).now.trees)) ⊎ VersionQueryShows g (begun held) version

-- why a database is refused whose tables exist by name, but are not as an index has them
abbrev pub foreign_tables_fault : Bool → OpenFault
foreign_tables_fault has_all = if has_all then Store else NotAnIndex

-- why a database with this version is refused, by whether it has all tables of version 1 by name,
-- and that of the bans
abbrev pub refusal_by : Option ℕ → Bool → Bool → OpenFault
refusal_by None has_first has_bans = NotAnIndex
refusal_by (Some version) has_first has_bans =
    if version == 1 then foreign_tables_fault has_first
    else if version == 2 then foreign_tables_fault (has_first && has_bans)
    else OtherVersion

-- why a database with this schema and this version is refused
abbrev pub refusal_in : Schema → Option ℕ → OpenFault
refusal_in schema version =
    refusal_by version (has_all_of schema first_version_schema.tables)
    (has_table schema (codes "bans"))

-- a database is refused for this by its version
abbrev pub IsRefusedByVersion : {S : Type 0} → Ghosts S → Held S → OpenFault → Type 0
IsRefusedByVersion g held why =
    (version : Option ℕ) × DatabaseHasVersion g held version
    × (why ≡ refusal_in (state g held).now.schema version)

-- a database of version 1, with that version in meta, of which SQL refuses to make an index
abbrev pub IsNotRaised : Database → Type 0
IsNotRaised db = HasVersionOne db × AreRefused asks_of_migration db

-- a database is not opened: the store fails, the query of the version is refused, or no index can
-- be made of version 1
abbrev pub DatabaseFailsToOpen : {S : Type 0} → Ghosts S → Held S → Held S → Type 0
DatabaseFailsToOpen g old new =
    HasReason (state g old) (state g new)
    ⊎ (VersionQueryFailsInside g (begun old) fault.Store ⊎ IsNotRaised (state g old).now)

-- a database says that it is of version 1, and is, as long as the connection is open
abbrev pub SaysVersionOne : {S : Type 0} → Ghosts S → Held S → Type 0
SaysVersionOne g held =
    (version_in (state g held).now.trees ≡ Some 1)
    × (IsTrue (state g held).is_open → IsFirstVersion (state g held).now)

-- memory runs out for the opening of a database of a kind: the query of the version says so, or an
-- index was to be made of version 1
abbrev pub KindLacksMemory : {S : Type 0} → Ghosts S → Held S → Held S → Type 0
KindLacksMemory g old new = VersionQueryFails g old new fault.OutOfMemory ⊎ SaysVersionOne g old

-- memory runs out for the opening of a database: with the connection as it was, or in the query of
-- the version, or on the way from version 1
abbrev pub DatabaseLacksMemory : {S : Type 0} → Ghosts S → Held S → Held S → Type 0
DatabaseLacksMemory g old new =
    (new ≡ old)
    ⊎ (VersionQueryFailsInside g (begun old) fault.OutOfMemory ⊎ KindLacksMemory g old new)

-- the version in meta of an index of this kind
abbrev pub version_of : Kind → ℕ
version_of kind.Index = 2
version_of kind.FirstVersion = 1

-- an index of this kind is refused because it has another version in meta
abbrev pub IsRefusedByOther : {S : Type 0} → Ghosts S → Kind → Held S → OpenFault → Type 0
IsRefusedByOther g kind held why =
    (version : Option ℕ) × DatabaseHasVersion g held version × (version ≢ Some (version_of kind))
    × (why ≡ refusal_in (state g held).now.schema version)

-- Why a database whose schema is of this kind is not opened; one with the version of its kind is
-- opened, unless that fails.
abbrev pub IsReasonOfKind : {S : Type 0} → Ghosts S → Kind → Held S → Held S → OpenFault → Type 0
IsReasonOfKind g kind old new OutOfMemory = KindLacksMemory g old new
IsReasonOfKind g kind old new Store =
    IsRefusedByOther g kind old Store ⊎ DatabaseFailsToOpen g old new
IsReasonOfKind g kind old new why = IsRefusedByOther g kind old why

-- Why an index is not opened on a connection, which is left as `new`. Without a table of the
-- version the database is not an index, whatever the store does.
abbrev pub IsReason : {S : Type 0} → Ghosts S → Held S → Held S → OpenFault → Type 0
IsReason g old new NotAnIndex =
    (has_meta (state g old).now.schema ≡ false) ⊎ IsRefusedByVersion g old NotAnIndex
IsReason g old new OutOfMemory =
    IsTrue (has_meta (state g old).now.schema) × DatabaseLacksMemory g old new
IsReason g old new Store =
    IsTrue (has_meta (state g old).now.schema)
    × (IsRefusedByVersion g old Store ⊎ DatabaseFailsToOpen g old new)
IsReason g old new why = IsRefusedByVersion g old why

-- The adoption of a database: the books are the index that is found in it, or it is not opened, for
-- a reason of this kind.
pub record Adopts {S : Type 0} (g : Ghosts S) (Reason : Held S → Held S → OpenFault → Type 0)
    (old : Held S) (result : Result (BooksState S) (Unopened S)) : Type 0 where
  -- the tables are those found in the database
  pub found : IfOk result (HaveTables g (IsFound (state g old).now))
  -- they stand for each history for which those found stand
  pub history : IfOk result (HaveTables g (StandAsFound (state g old).now))
  -- at most one user has a token's digest
  pub one_bearer : IfOk result (HaveTables g HasOneBearer)
  -- the rows of meta are those found, or those of version 1 with the version raised
  pub meta : IfOk result (HaveMeta g (AreHandedOn (state g old).now))
  -- no call has failed yet; a crash leaves what it could leave before, or version 2 made of version
  -- 1; if the connection worked, the tables of the books alone
  pub opened : IfOk result (AreOpened 2 g IsRaised old)
  -- the reason is `NotAnIndex`, `OtherVersion`, `OutOfMemory` or `Store`
  pub why : IfErr result (λ refused. RefusesFound refused.why)
  -- on a clean disk the reason is one of this kind, and the database is as it was if the connection
  -- is still open; a crash leaves what it could leave before, or version 2 made of version 1
  pub refused : IfErr result (IsUnopened g IsRaised Reason old)
