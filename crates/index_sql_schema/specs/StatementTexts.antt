-- The statements on the tables.
use Rattle.std.specs.Prelude.{ℕ, List}
use Rattle.index_sql_schema.specs.declared.statement_texts.TheConstants.{PUT_USER, PUT_NAME}
use Rattle.index_sql_schema.specs.declared.statement_texts.TheConstants.{PUT_OWNER, PUT_FILE}
use Rattle.index_sql_schema.specs.declared.statement_texts.TheConstants.{PUT_BODY, PUT_YANK}
use Rattle.index_sql_schema.specs.declared.statement_texts.TheConstants.{PUT_CASE, PUT_BAN}
use Rattle.index_sql_schema.specs.declared.statement_texts.TheConstants.{PUT_VERSION, DELETE_NAME}
use Rattle.index_sql_schema.specs.declared.statement_texts.TheConstants.{DELETE_OWNERS}
use Rattle.index_sql_schema.specs.declared.statement_texts.TheConstants.{DELETE_OWNER, DELETE_YANKS}
use Rattle.index_sql_schema.specs.declared.statement_texts.TheConstants.{DELETE_YANK, DELETE_CASE}
use Rattle.index_sql_schema.specs.declared.statement_texts.TheConstants.{DELETE_BODY, UPDATE_FILES}
use Rattle.index_sql_schema.specs.declared.statement_texts.TheConstants.{UPDATE_VERSION}
use Rattle.index_sql_schema.specs.declared.statement_texts.TheConstants.{SELECT_VERSION}
use Rattle.index_sql_schema.specs.declared.statement_texts.TheConstants.{SELECT_USER, SELECT_BEARER}
use Rattle.index_sql_schema.specs.declared.statement_texts.TheConstants.{SELECT_NAME, SELECT_FILE}
use Rattle.index_sql_schema.specs.declared.statement_texts.TheConstants.{SELECT_NAMED}
use Rattle.index_sql_schema.specs.declared.statement_texts.TheConstants.{SELECT_RELEASE}
use Rattle.index_sql_schema.specs.declared.statement_texts.TheConstants.{SELECT_BODY, SELECT_YANK}
use Rattle.index_sql_schema.specs.declared.statement_texts.TheConstants.{SELECT_CASE, SELECT_BAN}
use Rattle.index_sql_schema.specs.declared.statement_texts.TheConstants.{SELECT_OWNERS}
use Rattle.index_sql_schema.specs.declared.statement_texts.TheConstants.{SELECT_NAMES, SELECT_HELD}
use Rattle.index_sql_schema.specs.declared.statement_texts.TheConstants.{SELECT_BODIES}
use Rattle.index_sql_schema.specs.declared.statement_texts.TheConstants.{SELECT_FILES}

-- ---- a row in place of the one with its key, if there is one

-- puts a user with its record
abbrev pub put_user_text : List ℕ
put_user_text = PUT_USER.now

-- puts a name with its record
abbrev pub put_name_text : List ℕ
put_name_text = PUT_NAME.now

-- puts a name with one more owner
abbrev pub put_owner_text : List ℕ
put_owner_text = PUT_OWNER.now

-- puts a file with its record
abbrev pub put_file_text : List ℕ
put_file_text = PUT_FILE.now

-- puts the bytes of a file that has none
abbrev pub put_body_text : List ℕ
put_body_text = PUT_BODY.now

-- puts a release of a name with the reason of its yank
abbrev pub put_yank_text : List ℕ
put_yank_text = PUT_YANK.now

-- puts a name with its open case
abbrev pub put_case_text : List ℕ
put_case_text = PUT_CASE.now

-- puts a banned file
abbrev pub put_ban_text : List ℕ
put_ban_text = PUT_BAN.now

-- puts the version of a new index
abbrev pub put_version_text : List ℕ
put_version_text = PUT_VERSION.now

-- ---- rows that are deleted

-- deletes a name, and by the schema its owners, yanks and case
abbrev pub delete_name_text : List ℕ
delete_name_text = DELETE_NAME.now

-- deletes all owners of a name
abbrev pub delete_owners_text : List ℕ
delete_owners_text = DELETE_OWNERS.now

-- deletes one owner of a name
abbrev pub delete_owner_text : List ℕ
delete_owner_text = DELETE_OWNER.now

-- deletes all yanks of a name
abbrev pub delete_yanks_text : List ℕ
delete_yanks_text = DELETE_YANKS.now

-- deletes the yank of a release of a name
abbrev pub delete_yank_text : List ℕ
delete_yank_text = DELETE_YANK.now

-- deletes the open case of a name
abbrev pub delete_case_text : List ℕ
delete_case_text = DELETE_CASE.now

-- deletes the bytes of a file
abbrev pub delete_body_text : List ℕ
delete_body_text = DELETE_BODY.now

-- ---- rows that change

-- marks all files of a name as deleted
abbrev pub update_files_text : List ℕ
update_files_text = UPDATE_FILES.now

-- sets the version to 2
abbrev pub update_version_text : List ℕ
update_version_text = UPDATE_VERSION.now

-- ---- rows that are looked up; if a row is shown whole, each column is in the place that it has in
-- the table

-- finds the version of the tables
abbrev pub select_version_text : List ℕ
select_version_text = SELECT_VERSION.now

-- finds a user
abbrev pub select_user_text : List ℕ
select_user_text = SELECT_USER.now

-- finds the user who has the token with this digest
abbrev pub select_bearer_text : List ℕ
select_bearer_text = SELECT_BEARER.now

-- finds a name
abbrev pub select_name_text : List ℕ
select_name_text = SELECT_NAME.now

-- finds a file
abbrev pub select_file_text : List ℕ
select_file_text = SELECT_FILE.now

-- finds the files of a name, the deleted ones too
abbrev pub select_named_text : List ℕ
select_named_text = SELECT_NAMED.now

-- finds an undeleted file of a release, if there is one
abbrev pub select_release_text : List ℕ
select_release_text = SELECT_RELEASE.now

-- finds the bytes of a file
abbrev pub select_body_text : List ℕ
select_body_text = SELECT_BODY.now

-- finds the yank of a release of a name
abbrev pub select_yank_text : List ℕ
select_yank_text = SELECT_YANK.now

-- finds the open case of a name
abbrev pub select_case_text : List ℕ
select_case_text = SELECT_CASE.now

-- finds a banned file
abbrev pub select_ban_text : List ℕ
select_ban_text = SELECT_BAN.now

-- finds the owners of a name, in byte order
abbrev pub select_owners_text : List ℕ
select_owners_text = SELECT_OWNERS.now

-- finds the held names and the prohibited ones, in byte order
abbrev pub select_names_text : List ℕ
select_names_text = SELECT_NAMES.now

-- finds what is stored for each file, in byte order
abbrev pub select_bodies_text : List ℕ
select_bodies_text = SELECT_BODIES.now

-- finds the held names, in byte order
abbrev pub select_held_text : List ℕ
select_held_text = SELECT_HELD.now

-- finds the undeleted files of a name with the reasons of their yanks, in byte order
abbrev pub select_files_text : List ℕ
select_files_text = SELECT_FILES.now
