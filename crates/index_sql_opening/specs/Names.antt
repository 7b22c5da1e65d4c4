-- Whether a schema has tables with the names of those of an index.
use Rattle.std.specs.Prelude.{ℕ, Bool, false, ◌&&◌, ◌||◌, List, codes, is_some, option_map}
use Rattle.std.specs.Prelude.{unwrap_or}
use Rattle.std.specs.List.{list_all, list_any}
use Rattle.sqlite_schema.specs.Names.{column_named, same_name, table_named}
use Rattle.sqlite_schema.specs.declared.schema.Schema.{Schema}
use Rattle.sqlite_schema.specs.declared.schema.Table.{Table}
use Rattle.sqlite_schema.specs.declared.schema.View.{View}

-- whether a view is a table of that name that the database keeps as it is, or belongs to one
abbrev pub is_of : View → List ℕ → Bool
is_of view name = unwrap_or (option_map (λ table. same_name table name) view.foreign) false

-- whether a schema has a table of that name; the case of ASCII letters does not count
abbrev pub has_table : Schema → List ℕ → Bool
has_table schema name =
    is_some (table_named schema name) || list_any (λ view. is_of view name) schema.views

-- whether a schema has a table with the name of any of these
abbrev pub has_any_of : Schema → List Table → Bool
has_any_of schema = list_any (λ (t : Table). has_table schema t.name)

-- whether a schema has a table with the name of each of these
abbrev pub has_all_of : Schema → List Table → Bool
has_all_of schema = list_all (λ (t : Table). has_table schema t.name)

-- whether a table is a readable `meta` with the columns of the version
abbrev pub is_meta : Table → Bool
is_meta table =
    same_name table.name (codes "meta")
    && is_some (column_named table (codes "id"))
    && is_some (column_named table (codes "kind"))
    && is_some (column_named table (codes "version"))

-- whether a schema has a readable table `meta` with the columns of the version
abbrev pub has_meta : Schema → Bool
has_meta schema = list_any is_meta schema.tables
