-- The rows of the tables, in byte order of their keys, which is the order of a map's entries.
use Rattle.std.specs.Prelude.{Bool, List, Some, map, filter}
use Rattle.std.specs.FinMap.{entries}
use Rattle.index_rules.specs.declared.records.NameRecord.{NameRecord}
use Rattle.index_rules.specs.declared.records.FileRecord.{FileRecord}
use Rattle.index_rules.specs.declared.rows.NameRow.{NameRow}
use Rattle.index_rules.specs.declared.rows.FileRow.{FileRow}
use Rattle.index_rules.specs.Maps.{Bytes}
use Rattle.index_rules.specs.Tables.{Tables}
use Rattle.index_rules.specs.Facts.{yank_in}
use Rattle.index_rules.specs.Verdict.{is_held}
use Rattle.index_rules.specs.Sound.{is_undeleted_of}

-- a name with its record
abbrev pub name_row : Bytes × NameRecord → NameRow
name_row entry = record { name = entry.0; «record» = entry.1 }

-- the held names and the prohibited ones
abbrev pub name_rows_in : Tables → List NameRow
name_rows_in T = map name_row (entries T.names)

-- whether the name of a row is held
abbrev pub is_held_row : NameRow → Bool
is_held_row row = is_held (Some row.record)

-- the held names
abbrev pub held_rows_in : Tables → List NameRow
held_rows_in T = filter is_held_row (name_rows_in T)

-- a file with its record, yanked if its release of this name is (PEP 592)
abbrev pub file_row_in : Tables → Bytes → Bytes × FileRecord → FileRow
file_row_in T name entry = record {
  file = entry.0;
  release = entry.1.release;
  digest = entry.1.digest;
  size = entry.1.size;
  requires_python = entry.1.requires_python;
  yanked = yank_in T name entry.1.release;
}

-- the undeleted files of a name
abbrev pub file_rows_in : Tables → Bytes → List FileRow
file_rows_in T name =
    map (file_row_in T name) (filter (λ entry. is_undeleted_of name entry.1) (entries T.files))
