-- The tables that a connection holds.
use Rattle.sqlite_trees.specs.declared.store.Store.{Ghosts}
use Rattle.sqlite.specs.Held.{Held, state}
use Rattle.index_rules.specs.Tables.{Tables}
use Rattle.index_sql_schema.specs.Records.{tables_in}

-- the tables as a connection's transaction sees them, or as they were last committed if there is
-- none
abbrev pub tables_of : {S : Type 0} → Ghosts S → Held S → Tables
tables_of g held = tables_in (state g held).now.trees
