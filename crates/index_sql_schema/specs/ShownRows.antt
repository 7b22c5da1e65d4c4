-- What the rows of an answer stand for, if they show more than a record.
use Rattle.sqlite_value.specs.Order.{Row, column, bytes}
use Rattle.index_rules.specs.declared.records.UserRecord.{UserRecord}
use Rattle.index_rules.specs.declared.rows.NameRow.{NameRow}
use Rattle.index_rules.specs.declared.rows.FileRow.{FileRow}
use Rattle.index_rules.specs.Maps.{Bytes}
use Rattle.index_rules.specs.TableRows.{name_row}
use Rattle.index_sql_schema.specs.Records.{text_key, user_in, name_in, body_in}
use Rattle.index_sql_schema.specs.Records.{number_in, text_if_any}

-- the user and the record in a row of users
abbrev pub account_in : Row → Bytes × UserRecord
account_in r = (text_key r, user_in r)

-- the name and the record in a row of names
abbrev pub name_row_in : Row → NameRow
name_row_in r = name_row (text_key r, name_in r)

-- the row of a file, by a row of files with its key, and behind it the reason of its yank, or NULL
abbrev pub file_row_shown : Row → FileRow
file_row_shown r = record {
  file = bytes (column r 1);
  release = bytes (column r 3);
  digest = bytes (column r 4);
  size = number_in (column r 5);
  requires_python = bytes (column r 6);
  yanked = text_if_any (column r 8);
}

-- the file in a row of blobs, with what is stored for it
abbrev pub stored_in : Row → Bytes × Bytes
stored_in r = (text_key r, body_in r)

-- the user in a row that shows a user alone
abbrev pub user_shown : Row → Bytes
user_shown r = bytes (column r 0)

-- the file in a row that shows a file alone
abbrev pub file_shown : Row → Bytes
file_shown r = bytes (column r 0)
