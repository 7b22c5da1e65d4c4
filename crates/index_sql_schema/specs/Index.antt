-- When a database is an index, and what a statement does to it.
use Rattle.std.specs.Prelude.{◌≡◌, ℕ, ℤ, pos, Bool, false, ◌&&◌, List, [], ◌∷◌, IsTrue, Option}
use Rattle.std.specs.Prelude.{option_map, map, filter, find, codes, bytes_eq, refl}
use Rattle.std.specs.List.{AllByRecursion}
use Rattle.std.specs.Ordering.{int_eq}
use Rattle.sqlite_value.specs.declared.value.Value.TheVariants.{Null, Int, Text}
use Rattle.sqlite_value.specs.Order.{Row, column, bytes}
use Rattle.sqlite_trees.specs.Tree.{Trees, rowid, IsAscending}
use Rattle.sqlite_trees.specs.View.{is_int}
use Rattle.sqlite_schema.specs.declared.schema.Table.{Table}
use Rattle.sqlite_rules.specs.Edit.{id_in, put_all}
use Rattle.sqlite_keyed.specs.Lists.{delete_where}
use Rattle.sqlite.specs.Effect.{Database, IsDatabase}
use Rattle.index_rules.specs.Tables.{Tables}
use Rattle.index_sql_schema.specs.Schema.{index_schema}
use Rattle.index_sql_schema.specs.Records.{number_in, tables_in}
use Rattle.index_sql_schema.specs.RecordRows.{AreRecords}

-- the number of a row
abbrev pub rowid_in : Row → ℤ
rowid_in r = id_in (rowid r)

-- the row is numbered
abbrev pub HasRowid : Row → Type 0
HasRowid r = IsTrue (is_int (rowid r))

-- the rows are numbered, each with another number, in any order
abbrev pub AreRows : List Row → Type 0
AreRows rows =
    IsAscending (λ a b. int_eq (rowid_in a) (rowid_in b) ≡ false) rows
    × AllByRecursion HasRowid rows

-- the rows of each table are numbered
abbrev pub IsNumbered : Trees → Type 0
IsNumbered db = AllByRecursion (λ (t : Table). AreRows (db t.tree)) index_schema.tables

-- a database that has the schema of an index and keeps its rules
pub record IsIndex (db : Database) : Type 0 where
  pub schema : db.schema ≡ index_schema
  pub sound : IsDatabase db
  pub numbered : IsNumbered db.trees

-- whether a row has id 1
abbrev pub is_first : Row → Bool
is_first r = int_eq (rowid_in r) (pos 1)

-- whether a row of meta is the one with the version
abbrev pub is_version : Row → Bool
is_version r = is_first r && bytes_eq (bytes (column r 2)) (codes "python-index")

-- the rows of meta
abbrev pub meta_in : Trees → List Row
meta_in db = db 0

-- the version in these rows of meta, if there is one
abbrev pub version_among : List Row → Option ℕ
version_among rows = option_map (λ r. number_in (column r 3)) (find is_version rows)

-- the version in meta, if there is one
abbrev pub version_in : Trees → Option ℕ
version_in db = version_among (meta_in db)

-- the row of meta with this version; the row's number is the id, and its own column of the id is
-- NULL
abbrev pub version_row : ℕ → Row
version_row version = Int (pos 1) ∷ Null ∷ Text (codes "python-index") ∷ Int (pos version) ∷ []

-- rows of meta, with that of this version put among them
abbrev pub with_version : ℕ → List Row → List Row
with_version version rows = put_all rows (version_row version ∷ [])

-- a row of meta, with version 2 in it
abbrev pub as_version_2 : Row → Row
as_version_2 r = Int (rowid_in r) ∷ Null ∷ Text (bytes (column r 2)) ∷ Int (pos 2) ∷ []

-- rows of meta, with the row of id 1 put back with version 2
abbrev pub raised : List Row → List Row
raised rows = put_all (delete_where is_first rows) (map as_version_2 (filter is_first rows))

-- the one row of version 1 becomes the one row of version 2
pub raised_row : raised (version_row 1 ∷ []) ≡ version_row 2 ∷ []
raised_row = refl

-- an index after a statement, which changed the tables and the rows of meta in this way
pub record Rewrites
    (change : Tables → Tables)
    (rows : List Row → List Row)
    (old new : Database) : Type 0 where
  pub tables : tables_in new.trees ≡ change (tables_in old.trees)
  pub index : IsIndex new
  pub meta : meta_in new.trees ≡ rows (meta_in old.trees)
  -- the rows of the tables are records if they were
  pub records : AreRecords old → AreRecords new

-- the rows of meta unchanged
abbrev pub same_meta : List Row → List Row
same_meta rows = rows

-- an index after a statement that changed the tables in this way, and left the rows of meta
abbrev pub Changes : (Tables → Tables) → Database → Database → Type 0
Changes change = Rewrites change same_meta
