-- What the rows of the tables stand for, column by column. An invalid row stands for a record too.
use Rattle.std.specs.Prelude.{ℕ, pos, ◌==◌, if◌then◌else◌, Option, Some, None}
use Rattle.sqlite_value.specs.declared.value.Value.{Value}
use Rattle.sqlite_value.specs.declared.value.Value.TheVariants.{Null, Int}
use Rattle.sqlite_value.specs.Order.{Row, column, bytes}
use Rattle.sqlite_trees.specs.Tree.{Trees}
use Rattle.index_retention.specs.Attempts.{Tally}
use Rattle.index_retention.specs.declared.attempts.CaseKind.{CaseKind}
use Rattle.index_retention.specs.declared.attempts.CaseKind.TheVariants.{Continue, Reuse}
use Rattle.index_rules.specs.declared.records.UserRecord.{UserRecord}
use Rattle.index_rules.specs.declared.records.NameRecord.{NameRecord}
use Rattle.index_rules.specs.declared.records.NameRecord.TheVariants.{Held, Prohibited}
use Rattle.index_rules.specs.declared.records.FileRecord.{FileRecord}
use Rattle.index_rules.specs.declared.records.CaseRecord.{CaseRecord}
use Rattle.index_rules.specs.Maps.{Bytes, bytes_cmp, pair_cmp}
use Rattle.index_rules.specs.Projects.{Project}
use Rattle.index_rules.specs.Tables.{Tables}
use Rattle.index_sql_schema.specs.RowMaps.{map_from}

-- ---- values

-- the whole number in a value, which isn't negative
abbrev pub number_in : Value → ℕ
number_in (Int (pos n)) = n
number_in _ = 0

-- the whole number in a value, or none for NULL
abbrev pub number_if_any : Value → Option ℕ
number_if_any (Int (pos n)) = Some n
number_if_any _ = None

-- the text in a value, or none for NULL
abbrev pub text_if_any : Value → Option Bytes
text_if_any Null = None
text_if_any v = Some (bytes v)

-- ---- keys

-- the key of a row that has a text in its first column
abbrev pub text_key : Row → Bytes
text_key r = bytes (column r 1)

-- the key of a row that has two texts in its first two columns
abbrev pub pair_key : Row → Bytes × Bytes
pair_key r = (bytes (column r 1), bytes (column r 2))

-- ---- records

-- the value of a table that has keys alone
abbrev pub nothing_in : Row → Unit {0}
nothing_in r = tt

-- the record in a row of users
abbrev pub user_in : Row → UserRecord
user_in r = record { office = number_in (column r 2) == 1; token = bytes (column r 3) }

-- the record of a held name in a row of names
abbrev pub project_in : Row → Project
project_in r = record {
  shown = bytes (column r 3);
  quota = number_in (column r 4);
  charge = number_in (column r 5);
  undeleted = number_in (column r 6);
  last_upload = number_if_any (column r 7);
}

-- the record of a name by its state; 2 is prohibited
abbrev pub name_by : ℕ → Project → NameRecord
name_by state project = if state == 2 then Prohibited else Held project

-- the record in a row of names
abbrev pub name_in : Row → NameRecord
name_in r = name_by (number_in (column r 2)) (project_in r)

-- the record in a row of files
abbrev pub file_in : Row → FileRecord
file_in r = record {
  project = bytes (column r 2);
  release = bytes (column r 3);
  digest = bytes (column r 4);
  size = number_in (column r 5);
  requires_python = bytes (column r 6);
  is_undeleted = number_in (column r 7) == 1;
}

-- the bytes in a row of blobs
abbrev pub body_in : Row → Bytes
body_in r = bytes (column r 2)

-- the reason in a row of yanks
abbrev pub reason_in : Row → Bytes
reason_in r = bytes (column r 3)

-- the kind of a case by its number; 2 is reuse
abbrev pub kind_by : ℕ → CaseKind
kind_by number = if number == 2 then Reuse else Continue

-- the attempts in a row of cases
abbrev pub tally_in : Row → Tally
tally_in r = record {
  attempts = number_in (column r 8);
  sent = number_in (column r 9);
  profile = number_in (column r 10) == 1;
  author = number_in (column r 11) == 1;
  pages = number_in (column r 12) == 1;
  first = number_if_any (column r 13);
}

-- the record in a row of cases
abbrev pub case_in : Row → CaseRecord
case_in r = record {
  kind = kind_by (number_in (column r 2));
  candidate = bytes (column r 3);
  contact = bytes (column r 4);
  work = bytes (column r 5);
  why = bytes (column r 6);
  opened = number_in (column r 7);
  state = tally_in r;
}

-- ---- tables

-- the tables that the rows of the trees stand for
abbrev pub tables_in : Trees → Tables
tables_in db = record {
  users = map_from {R = bytes_cmp} text_key user_in (db 1);
  names = map_from {R = bytes_cmp} text_key name_in (db 4);
  owners = map_from {R = pair_cmp} pair_key nothing_in (db 6);
  files = map_from {R = bytes_cmp} text_key file_in (db 8);
  bodies = map_from {R = bytes_cmp} text_key body_in (db 11);
  yanks = map_from {R = pair_cmp} pair_key reason_in (db 13);
  cases = map_from {R = bytes_cmp} text_key case_in (db 15);
  bans = map_from {R = bytes_cmp} text_key nothing_in (db 17);
}
