-- The statements that make the tables, version 2.
use Rattle.std.specs.Prelude.{ℕ, List}
use Rattle.index_sql_schema.specs.declared.table_texts.TheConstants.{META, USERS, NAMES, OWNERS}
use Rattle.index_sql_schema.specs.declared.table_texts.TheConstants.{FILES, BLOBS, YANKS, CASES}
use Rattle.index_sql_schema.specs.declared.table_texts.TheConstants.{BANS}

-- the kind of the file and the version of its tables
abbrev pub meta_text : List ℕ
meta_text = META.now

-- each user; `office` is 0 or 1, and `token` the digest of a token
abbrev pub users_text : List ℕ
users_text = USERS.now

-- each name that is not free; `state` is 1 for a held name and 2 for a prohibited one
abbrev pub names_text : List ℕ
names_text = NAMES.now

-- each name with each of its owners
abbrev pub owners_text : List ℕ
owners_text = OWNERS.now

-- each file that was ever accepted; `live` is 1 if it is undeleted, else 0; by the second key the
-- files of a name are found in order without reading those of other names
abbrev pub files_text : List ℕ
files_text = FILES.now

-- the bytes of each undeleted file
abbrev pub blobs_text : List ℕ
blobs_text = BLOBS.now

-- each name with each of its yanked releases
abbrev pub yanks_text : List ℕ
yanks_text = YANKS.now

-- each open case; `kind` is 1 for continued maintenance and 2 for reuse, the three means are 0 or 1
abbrev pub cases_text : List ℕ
cases_text = CASES.now

-- each banned file
abbrev pub bans_text : List ℕ
bans_text = BANS.now
