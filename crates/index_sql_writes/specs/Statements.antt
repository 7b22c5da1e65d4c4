-- What each step asks.
use Rattle.std.specs.Prelude.{pos, ℕ, List, [], ◌∷◌, option_map}
use Rattle.std.specs.Option.{option_to_list}
use Rattle.sqlite_value.specs.Order.{Row}
use Rattle.sqlite_value.specs.declared.value.Value.TheVariants.{Int, Text, Blob}
use Rattle.sqlite.specs.Values.{or_null}
use Rattle.index_rules.specs.declared.records.UserRecord.{UserRecord}
use Rattle.index_rules.specs.declared.records.FileRecord.{FileRecord}
use Rattle.index_rules.specs.declared.records.CaseRecord.{CaseRecord}
use Rattle.index_rules.specs.Maps.{Bytes}
use Rattle.index_rules.specs.Projects.{Project}
use Rattle.index_sql_schema.specs.StatementTexts.{put_user_text, put_name_text, put_owner_text}
use Rattle.index_sql_schema.specs.StatementTexts.{put_file_text, put_body_text, put_yank_text}
use Rattle.index_sql_schema.specs.StatementTexts.{put_case_text, put_ban_text, delete_name_text}
use Rattle.index_sql_schema.specs.StatementTexts.{delete_owners_text, delete_owner_text}
use Rattle.index_sql_schema.specs.StatementTexts.{delete_yanks_text, delete_yank_text}
use Rattle.index_sql_schema.specs.StatementTexts.{delete_case_text, delete_body_text}
use Rattle.index_sql_schema.specs.StatementTexts.{update_files_text}
use Rattle.index_sql_writes.specs.declared.put_case.CaseNumbers.{CaseNumbers}
use Rattle.index_sql_writes.specs.Asks.{Ask, Statement, WithNumbers, BodiesOf}
use Rattle.index_sql_writes.specs.Writes.{flag_number, kind_number, held_numbers}
use Rattle.index_sql_writes.specs.Writes.{prohibited_numbers, name_cells}

-- a statement that finds rows by one text
abbrev by_text : List ℕ → Bytes → Ask
by_text sql key = Statement sql (Text key ∷ [])

-- a statement that finds rows by two texts
abbrev by_texts : List ℕ → Bytes → Bytes → Ask
by_texts sql first second = Statement sql (Text first ∷ Text second ∷ [])

-- the numbers of a held name
abbrev pub project_numbers : Project → List ℕ
project_numbers project =
    project.quota ∷ project.charge ∷ project.undeleted ∷ option_to_list project.last_upload

-- ---- a row in place of the one with its key

abbrev pub put_user_ask : Bytes → UserRecord → Ask
put_user_ask user account =
    Statement put_user_text (Text user ∷ Int (flag_number account.office) ∷ Blob account.token ∷ [])

abbrev pub hold_name_ask : Bytes → Project → Ask
hold_name_ask name project =
    WithNumbers (project_numbers project)
    (Statement put_name_text (name_cells name project.shown (held_numbers project)))

abbrev pub prohibit_name_ask : Bytes → Ask
prohibit_name_ask name = Statement put_name_text (name_cells name [] prohibited_numbers)

abbrev pub put_owner_ask : Bytes → Bytes → Ask
put_owner_ask = by_texts put_owner_text

-- the row of a file
abbrev pub file_cells : Bytes → FileRecord → Row
file_cells file known =
    Text file
    ∷ Text known.project
    ∷ Text known.release
    ∷ Blob known.digest
    ∷ Int (pos known.size)
    ∷ Text known.requires_python
    ∷ Int (flag_number known.is_undeleted)
    ∷ []

abbrev pub put_file_ask : Bytes → FileRecord → Ask
put_file_ask file known =
    WithNumbers (known.size ∷ []) (Statement put_file_text (file_cells file known))

abbrev pub put_body_ask : Bytes → Bytes → Ask
put_body_ask file body = Statement put_body_text (Text file ∷ Blob body ∷ [])

abbrev pub put_yank_ask : Bytes → Bytes → Bytes → Ask
put_yank_ask name release reason =
    Statement put_yank_text (Text name ∷ Text release ∷ Text reason ∷ [])

-- the numbers of a case
abbrev pub case_numbers : CaseRecord → List ℕ
case_numbers case =
    case.opened ∷ case.state.attempts ∷ case.state.sent ∷ option_to_list case.state.first

-- the columns of a case besides its texts, as SQL holds them
abbrev pub integers_of : CaseRecord → CaseNumbers
integers_of case = record {
  kind = kind_number case.kind;
  opened = pos case.opened;
  attempts = pos case.state.attempts;
  sent = pos case.state.sent;
  profile = case.state.profile;
  author = case.state.author;
  pages = case.state.pages;
  first = option_map pos case.state.first;
}

-- the row of a case
abbrev pub case_cells : Bytes → CaseRecord → Row
case_cells name case =
    Text name
    ∷ Int (kind_number case.kind)
    ∷ Text case.candidate
    ∷ Text case.contact
    ∷ Text case.work
    ∷ Text case.why
    ∷ Int (pos case.opened)
    ∷ Int (pos case.state.attempts)
    ∷ Int (pos case.state.sent)
    ∷ Int (flag_number case.state.profile)
    ∷ Int (flag_number case.state.author)
    ∷ Int (flag_number case.state.pages)
    ∷ or_null Int (option_map pos case.state.first)
    ∷ []

abbrev pub put_case_ask : Bytes → CaseRecord → Ask
put_case_ask name case =
    WithNumbers (case_numbers case) (Statement put_case_text (case_cells name case))

abbrev pub put_ban_ask : Bytes → Ask
put_ban_ask = by_text put_ban_text

-- ---- rows that are deleted, or marked

abbrev pub delete_name_ask : Bytes → Ask
delete_name_ask = by_text delete_name_text

abbrev pub delete_owners_ask : Bytes → Ask
delete_owners_ask = by_text delete_owners_text

abbrev pub delete_owner_ask : Bytes → Bytes → Ask
delete_owner_ask = by_texts delete_owner_text

abbrev pub delete_yanks_ask : Bytes → Ask
delete_yanks_ask = by_text delete_yanks_text

abbrev pub delete_yank_ask : Bytes → Bytes → Ask
delete_yank_ask = by_texts delete_yank_text

abbrev pub delete_case_ask : Bytes → Ask
delete_case_ask = by_text delete_case_text

abbrev pub delete_body_ask : Bytes → Ask
delete_body_ask = by_text delete_body_text

abbrev pub delete_bodies_ask : Bytes → Ask
delete_bodies_ask = BodiesOf

abbrev pub mark_files_ask : Bytes → Ask
mark_files_ask = by_text update_files_text
