-- Databases of version 1: the tables of an index without that of the bans.
use Rattle.std.specs.Prelude.{◌≡◌, ◌⊎◌, take}
use Rattle.std.specs.FinMap.{empty}
use Rattle.std.specs.List.{AllByRecursion}
use Rattle.sqlite_schema.specs.declared.schema.Table.{Table}
use Rattle.sqlite_schema.specs.declared.schema.Schema.{Schema}
use Rattle.sqlite.specs.Effect.{Database, IsDatabase}
use Rattle.index_rules.specs.Tables.{Tables}
use Rattle.index_sql_schema.specs.Schema.{index_schema}
use Rattle.index_sql_schema.specs.Index.{AreRows, IsIndex}

-- the schema of version 1: that of an index without its last table and the key of that table
abbrev pub first_version_schema : Schema
first_version_schema = record {
  tables = take 8 index_schema.tables;
  indexes = take 9 index_schema.indexes;
  views = index_schema.views;
}

-- a database that keeps the rules of the schema of version 1
pub record IsFirstVersion (db : Database) : Type 0 where
  pub schema : db.schema ≡ first_version_schema
  pub sound : IsDatabase db
  pub numbered :
      AllByRecursion (λ (t : Table). AreRows (db.trees t.tree)) first_version_schema.tables

-- an index of either version
abbrev pub IsAnyVersion : Database → Type 0
IsAnyVersion db = IsIndex db ⊎ IsFirstVersion db

-- the tables with no file banned
abbrev pub without_bans : Tables → Tables
without_bans T = record T { bans = empty }
