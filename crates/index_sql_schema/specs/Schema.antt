-- The schema: the tables as their statements define them.
use Rattle.std.specs.Prelude.{true, false, [], ◌∷◌, Some, None, codes, List, ℕ, pos}
use Rattle.sqlite_value.specs.declared.keys.Collation.TheVariants.{Binary}
use Rattle.sqlite_value.specs.Keys.{plain}
use Rattle.sqlite.specs.declared.types.Value.TheVariants.{Null, Int}
use Rattle.sqlite_schema.specs.declared.schema.Table.{Table}
use Rattle.sqlite_schema.specs.declared.schema.Column.{Column}
use Rattle.sqlite_schema.specs.declared.schema.Index.{Index}
use Rattle.sqlite_schema.specs.declared.schema.Stamps.{Stamps}
use Rattle.sqlite_schema.specs.declared.schema.Reference.{Reference}
use Rattle.sqlite_schema.specs.declared.schema.Action.TheVariants.{Cascade, NoAction}
use Rattle.sqlite_schema.specs.declared.schema.Schema.{Schema}
use Rattle.sqlite_schema.specs.declared.schema.Kind.{Kind}
use Rattle.sqlite_schema.specs.declared.schema.Kind.TheVariants.{Integer, Text, Blob}
use Rattle.sqlite_sql.specs.Term.{Term, lit, col, op2}
use Rattle.sqlite_sql.specs.declared.ops.BinaryOp.TheVariants.{Compare, And}
use Rattle.sqlite_sql.specs.declared.ops.CompareOp.TheVariants.{Ge, Le}

-- a column that takes values of its type alone and no NULL
abbrev pub needed : List ℕ → Kind → Column
needed name kind = record {
  name = name;
  kind = kind;
  is_strict = true;
  not_null = true;
  default = Null;
  collation = Binary;
}

-- a column of one type that also takes NULL
abbrev pub optional : List ℕ → Kind → Column
optional name kind = record {
  name = name;
  kind = kind;
  is_strict = true;
  not_null = false;
  default = Null;
  collation = Binary;
}

-- no value is computed from the time
abbrev pub no_stamps : Stamps
no_stamps = record { places = []; terms = []; formats = [] }

-- the column at a place refers to a table; its row is deleted with the row that it refers to
abbrev pub cascades_to : ℕ → List ℕ → List ℕ → Reference
cascades_to place parent column = record {
  columns = place ∷ [];
  parent = parent;
  parent_columns = column ∷ [];
  on_delete = Cascade;
  on_update = NoAction;
  is_deferred = false;
}

-- the column at a place refers to a table, whose row can't be deleted as long as this row exists
abbrev pub refers_to : ℕ → List ℕ → List ℕ → Reference
refers_to place parent column = record {
  columns = place ∷ [];
  parent = parent;
  parent_columns = column ∷ [];
  on_delete = NoAction;
  on_update = NoAction;
  is_deferred = false;
}

-- a table whose primary key has these places and an index of its own
abbrev pub keyed : List ℕ → ℕ → List Column → List ℕ → List Reference → Table
keyed name tree columns places references = record {
  name = name;
  tree = tree;
  columns = columns;
  key = None;
  primary = places;
  uniques = places ∷ [];
  orders = plain ∷ [];
  checks = [];
  references = references;
  computed = [];
  stamps = no_stamps;
  is_counted = false;
}

-- the table meta; its key is the rowid
abbrev pub meta_at : ℕ → Table
meta_at tree = record {
  name = codes "meta";
  tree = tree;
  columns =
      optional (codes "id") Integer
      ∷ needed (codes "kind") Text
      ∷ needed (codes "version") Integer
      ∷ [];
  key = Some 0;
  primary = 0 ∷ [];
  uniques = [];
  orders = [];
  checks = [];
  references = [];
  computed = [];
  stamps = no_stamps;
  is_counted = false;
}

-- the table of users, with a key on the user and one on the token
abbrev pub users_at : ℕ → Table
users_at tree = record {
  name = codes "users";
  tree = tree;
  columns =
      needed (codes "user") Text
      ∷ needed (codes "office") Integer
      ∷ needed (codes "token") Blob
      ∷ [];
  key = None;
  primary = 1 ∷ [];
  uniques = (1 ∷ []) ∷ (3 ∷ []) ∷ [];
  orders = plain ∷ plain ∷ [];
  checks = [];
  references = [];
  computed = [];
  stamps = no_stamps;
  is_counted = false;
}

-- the charge is from 0 to the quota
abbrev pub charge_check : Term
charge_check =
    op2 And
    (op2 (Compare Ge Binary) (col 1 5) (lit (Int (pos 0))))
    (op2 (Compare Le Binary) (col 1 5) (col 1 4))

-- the table of names, with a key on the name
abbrev pub names_at : ℕ → Table
names_at tree =
    record (keyed (codes "names") tree
    (needed (codes "name") Text
    ∷ needed (codes "state") Integer
    ∷ needed (codes "shown") Text
    ∷ needed (codes "quota") Integer
    ∷ needed (codes "charged") Integer
    ∷ needed (codes "live") Integer
    ∷ optional (codes "last_upload") Integer
    ∷ [])
    (1 ∷ []) []) { checks = charge_check ∷ [] }

-- the table of owners, with a key on the name and the user
abbrev pub owners_at : ℕ → Table
owners_at tree =
    keyed (codes "owners") tree
    (needed (codes "name") Text ∷ needed (codes "user") Text ∷ [])
    (1 ∷ 2 ∷ [])
    (cascades_to 1 (codes "names") (codes "name") ∷ refers_to 2 (codes "users") (codes "user") ∷ [])

-- the table of files, with a key on the file, and one on the name and the file
abbrev pub files_at : ℕ → Table
files_at tree =
    record (keyed (codes "files") tree
    (needed (codes "file") Text
    ∷ needed (codes "name") Text
    ∷ needed (codes "rel") Text
    ∷ needed (codes "digest") Blob
    ∷ needed (codes "size") Integer
    ∷ needed (codes "requires") Text
    ∷ needed (codes "live") Integer
    ∷ [])
    (1 ∷ []) []) { uniques = (1 ∷ []) ∷ (2 ∷ 1 ∷ []) ∷ []; orders = plain ∷ plain ∷ [] }

-- the table of blobs, with a key on the file
abbrev pub blobs_at : ℕ → Table
blobs_at tree =
    keyed (codes "blobs") tree
    (needed (codes "file") Text ∷ needed (codes "body") Blob ∷ [])
    (1 ∷ [])
    (refers_to 1 (codes "files") (codes "file") ∷ [])

-- the table of yanks, with a key on the name and the release
abbrev pub yanks_at : ℕ → Table
yanks_at tree =
    keyed (codes "yanks") tree
    (needed (codes "name") Text ∷ needed (codes "rel") Text ∷ needed (codes "reason") Text ∷ [])
    (1 ∷ 2 ∷ [])
    (cascades_to 1 (codes "names") (codes "name") ∷ [])

-- the table of cases, with a key on the name
abbrev pub cases_at : ℕ → Table
cases_at tree =
    keyed (codes "cases") tree
    (needed (codes "name") Text
    ∷ needed (codes "kind") Integer
    ∷ needed (codes "candidate") Text
    ∷ needed (codes "contact") Text
    ∷ needed (codes "work") Text
    ∷ needed (codes "why") Text
    ∷ needed (codes "opened") Integer
    ∷ needed (codes "attempts") Integer
    ∷ needed (codes "sent") Integer
    ∷ needed (codes "profile") Integer
    ∷ needed (codes "author") Integer
    ∷ needed (codes "pages") Integer
    ∷ optional (codes "first_sent") Integer
    ∷ [])
    (1 ∷ [])
    (cascades_to 1 (codes "names") (codes "name")
    ∷ refers_to 3 (codes "users") (codes "user")
    ∷ [])

-- the table of bans, with a key on the file
abbrev pub bans_at : ℕ → Table
bans_at tree =
    keyed (codes "bans") tree
    (needed (codes "file") Text ∷ [])
    (1 ∷ [])
    (refers_to 1 (codes "files") (codes "file") ∷ [])

-- the schema of a new database
abbrev pub no_schema : Schema
no_schema = record { tables = []; indexes = []; views = [] }

-- the index of a key; `table` is the tree of the table
abbrev pub index_for : List ℕ → ℕ → ℕ → List ℕ → Index
index_for name tree table columns = record {
  name = name;
  tree = tree;
  table = table;
  columns = columns;
  order = plain;
  is_unique = true;
}

-- each table, and each key of a table, has a tree of its own
abbrev pub index_schema : Schema
index_schema = record {
  tables =
      meta_at 0 ∷ users_at 1 ∷ names_at 4 ∷ owners_at 6 ∷ files_at 8
      ∷ blobs_at 11 ∷ yanks_at 13 ∷ cases_at 15 ∷ bans_at 17 ∷ [];
  indexes =
      index_for (codes "sqlite_autoindex_users_1") 2 1 (1 ∷ [])
      ∷ index_for (codes "sqlite_autoindex_users_2") 3 1 (3 ∷ [])
      ∷ index_for (codes "sqlite_autoindex_names_1") 5 4 (1 ∷ [])
      ∷ index_for (codes "sqlite_autoindex_owners_1") 7 6 (1 ∷ 2 ∷ [])
      ∷ index_for (codes "sqlite_autoindex_files_1") 9 8 (1 ∷ [])
      ∷ index_for (codes "sqlite_autoindex_files_2") 10 8 (2 ∷ 1 ∷ [])
      ∷ index_for (codes "sqlite_autoindex_blobs_1") 12 11 (1 ∷ [])
      ∷ index_for (codes "sqlite_autoindex_yanks_1") 14 13 (1 ∷ 2 ∷ [])
      ∷ index_for (codes "sqlite_autoindex_cases_1") 16 15 (1 ∷ [])
      ∷ index_for (codes "sqlite_autoindex_bans_1") 18 17 (1 ∷ [])
      ∷ [];
  views = [];
}
