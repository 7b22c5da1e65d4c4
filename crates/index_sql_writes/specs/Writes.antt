-- The effect of each statement on the tables.
use Rattle.std.specs.Prelude.{◌≡◌, ℤ, pos, List, [], ◌∷◌, Bool, if◌then◌else◌, not, None}
use Rattle.std.specs.Prelude.{option_map}
use Rattle.std.specs.List.{list_any}
use Rattle.std.specs.FinMap.{insert, remove, retain_keys}
use Rattle.index_retention.specs.declared.attempts.CaseKind.{CaseKind}
use Rattle.index_retention.specs.declared.attempts.CaseKind.TheVariants.{Continue, Reuse}
use Rattle.sqlite_value.specs.declared.value.Value.TheVariants.{Int, Text}
use Rattle.sqlite_value.specs.Order.{Row}
use Rattle.sqlite.specs.Values.{or_null}
use Rattle.index_rules.specs.declared.records.UserRecord.{UserRecord}
use Rattle.index_rules.specs.declared.records.NameRecord.{NameRecord}
use Rattle.index_rules.specs.declared.records.FileRecord.{FileRecord}
use Rattle.index_rules.specs.declared.records.CaseRecord.{CaseRecord}
use Rattle.index_rules.specs.Maps.{Bytes, Map, same, change_values}
use Rattle.index_rules.specs.Projects.{Project}
use Rattle.index_rules.specs.Tables.{Tables}
use Rattle.index_rules.specs.Effect.{without_name, as_deleted_of, is_file_of}
use Rattle.index_sql_schema.specs.Records.{number_in, number_if_any, name_by}
use Rattle.index_sql_schema.specs.ShownRows.{file_shown}
use Rattle.index_sql_writes.specs.declared.statements.NameNumbers.{NameNumbers}

-- ---- a record at its key, in place of an earlier one

abbrev pub puts_user : Bytes → UserRecord → Tables → Tables
puts_user user account T = record T { users = insert T.users user account }

abbrev pub puts_name : Bytes → NameRecord → Tables → Tables
puts_name name known T = record T { names = insert T.names name known }

abbrev pub puts_owner : Bytes → Bytes → Tables → Tables
puts_owner name user T = record T { owners = insert T.owners (name, user) tt }

abbrev pub puts_file : Bytes → FileRecord → Tables → Tables
puts_file file known T = record T { files = insert T.files file known }

abbrev pub puts_body : Bytes → Bytes → Tables → Tables
puts_body file body T = record T { bodies = insert T.bodies file body }

abbrev pub puts_yank : Bytes → Bytes → Bytes → Tables → Tables
puts_yank name release reason T = record T { yanks = insert T.yanks (name, release) reason }

abbrev pub puts_case : Bytes → CaseRecord → Tables → Tables
puts_case name case T = record T { cases = insert T.cases name case }

abbrev pub puts_ban : Bytes → Tables → Tables
puts_ban file T = record T { bans = insert T.bans file tt }

-- ---- the record at a key is deleted; for a name that is `without_record`

-- all owners of a name
abbrev pub deletes_owners : Bytes → Tables → Tables
deletes_owners name T = record T { owners = without_name name T.owners }

abbrev pub deletes_owner : Bytes → Bytes → Tables → Tables
deletes_owner name user T = record T { owners = remove T.owners (name, user) }

-- all yanks of a name
abbrev pub deletes_yanks : Bytes → Tables → Tables
deletes_yanks name T = record T { yanks = without_name name T.yanks }

abbrev pub deletes_yank : Bytes → Bytes → Tables → Tables
deletes_yank name release T = record T { yanks = remove T.yanks (name, release) }

abbrev pub deletes_case : Bytes → Tables → Tables
deletes_case name T = record T { cases = remove T.cases name }

abbrev pub deletes_body : Bytes → Tables → Tables
deletes_body file T = record T { bodies = remove T.bodies file }

-- the bytes of all files of a name
abbrev pub deletes_bodies : Bytes → Tables → Tables
deletes_bodies name T =
    record T { bodies = retain_keys T.bodies (λ file. not (is_file_of T.files name file)) }

-- the rows show the files of a name, in any order
abbrev pub AreFilesOf : Bytes → Tables → List Row → Type 0
AreFilesOf name T rows =
    (file : Bytes)
    → list_any (λ r. same file (file_shown r)) rows ≡ is_file_of T.files name file

-- the bodies without those of the files that these rows show
abbrev pub removes : List Row → Map Bytes → Map Bytes
removes [] bodies = bodies
removes (r ∷ rows) bodies = removes rows (remove bodies (file_shown r))

abbrev pub deletes_shown : List Row → Tables → Tables
deletes_shown rows T = record T { bodies = removes rows T.bodies }

-- ---- records that stay, and are changed

-- all files of a name are deleted
abbrev pub marks_files : Bytes → Tables → Tables
marks_files name T = record T { files = change_values (as_deleted_of name) T.files }

-- ---- records by the numbers of their columns

-- the columns of a held name, as SQL holds them
abbrev pub held_numbers : Project → NameNumbers
held_numbers project = record {
  state = pos 1;
  quota = pos project.quota;
  charge = pos project.charge;
  undeleted = pos project.undeleted;
  last_upload = option_map pos project.last_upload;
}

-- the columns of a prohibited name, as SQL holds them
abbrev pub prohibited_numbers : NameNumbers
prohibited_numbers = record {
  state = pos 2;
  quota = pos 0;
  charge = pos 0;
  undeleted = pos 0;
  last_upload = None;
}

-- the record of a name with this shown name, by the numbers in its row
abbrev pub name_of : Bytes → NameNumbers → NameRecord
name_of shown it =
    name_by (number_in (Int it.state)) (record {
      shown = shown;
      quota = number_in (Int it.quota);
      charge = number_in (Int it.charge);
      undeleted = number_in (Int it.undeleted);
      last_upload = number_if_any (or_null Int it.last_upload);
    })

-- the columns of the row of a name
abbrev pub name_cells : Bytes → Bytes → NameNumbers → Row
name_cells name shown it =
    Text name
    ∷ Int it.state
    ∷ Text shown
    ∷ Int it.quota
    ∷ Int it.charge
    ∷ Int it.undeleted
    ∷ or_null Int it.last_upload
    ∷ []

-- the number of a flag: 1 for true and 0 for false
abbrev pub flag_number : Bool → ℤ
flag_number b = if b then pos 1 else pos 0

-- the number of a kind: 1 for continued maintenance and 2 for reuse
abbrev pub kind_number : CaseKind → ℤ
kind_number Continue = pos 1
kind_number Reuse = pos 2
