-- Queries that the database refuses for no reason of their own.
use Rattle.std.specs.Prelude.{◌≡◌, ◌≤◌, ℕ, false, List, [], length, Option, None, Result, Ok, Err}
use Rattle.std.specs.Prelude.{IsSome}
use Rattle.sqlite_value.specs.Order.{Row}
use Rattle.sqlite_resolve.specs.declared.compiled.Compiled.{Compiled}
use Rattle.sqlite_resolve.specs.declared.error.CompileError.{CompileError}
use Rattle.sqlite_schema.specs.declared.command.Command.{Command}
use Rattle.sqlite.specs.declared.error.Error.{Error}
use Rattle.sqlite.specs.Effect.{Database, RefusesToRead}
use Rattle.sqlite.specs.Listing.{understood, reads_listing}
use Rattle.index_sql_schema.specs.Schema.{index_schema}

-- over the tables of an index, whatever their rows are, the query is refused only if its steps are
-- limited
abbrev pub IsReadable : Command → Row → Type 0
IsReadable command params =
    (db : Database)
    → db.schema ≡ index_schema
    → (limit : Option ℕ) (e : Error)
    → RefusesToRead limit command db params e
    → IsSome limit

-- a compiled text is one query, with as many parameters as are given, that is refused only if its
-- steps are limited
abbrev pub IsSureAs : List ℕ → Row → Result Compiled CompileError → Type 0
IsSureAs sql params (Ok c) =
    (length sql ≤ c.tail)
    × (length params ≡ length c.names)
    × (c.formats ≡ [])
    × (c.returning ≡ None)
    × IsReadable c.command params
IsSureAs sql params (Err e) = ⊥

-- a text is one query that is refused only if its steps are limited, and reads no list of the
-- tables
unfoldable pub IsSure : List ℕ → Row → Type 0
IsSure sql params =
    IsSureAs sql params (understood index_schema sql)
    × (reads_listing index_schema sql ≡ false)
