-- The rows of one file and of one name.
use Rattle.std.specs.Prelude.{if◌then◌else◌, List, [], ◌∷◌, filter}
use Rattle.index_rules.specs.declared.records.FileRecord.{FileRecord}
use Rattle.index_rules.specs.declared.records.NameRecord.{NameRecord}
use Rattle.index_rules.specs.declared.rows.FileRow.{FileRow}
use Rattle.index_rules.specs.declared.rows.NameRow.{NameRow}
use Rattle.index_rules.specs.Maps.{Bytes}
use Rattle.index_rules.specs.Sound.{is_undeleted_of}
use Rattle.index_rules.specs.TableRows.{file_row_in, is_held_row, name_row}
use Rattle.index_rules.specs.Tables.{Tables}

-- the row of a file, if it is an undeleted one of the name
abbrev pub rows_of_file : Tables → Bytes → Bytes × FileRecord → List FileRow
rows_of_file T name entry =
    if is_undeleted_of name entry.1 then file_row_in T name entry ∷ [] else []

-- the row of a name, if it is held
abbrev pub rows_of_name : Bytes → NameRecord → List NameRow
rows_of_name name known = filter is_held_row (name_row (name, known) ∷ [])
