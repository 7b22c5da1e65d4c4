-- The rows that are records: what each column may hold, and databases with no other rows.
use Rattle.std.specs.Prelude.{◌≡◌, ◌<◌, ◌⊎◌, ⊤, ℕ, ◌==◌, pos, length, List, [], IsSome, IsUtf8}
use Rattle.std.specs.Prelude.{MatchBool}
use Rattle.std.specs.List.{AllByRecursion}
use Rattle.sqlite_value.specs.declared.value.Value.{Value}
use Rattle.sqlite_value.specs.declared.value.Value.TheVariants.{Null, Int, Text, Blob}
use Rattle.sqlite_value.specs.Order.{Row, column}
use Rattle.sqlite_trees.specs.Tree.{Trees}
use Rattle.sqlite_schema.specs.declared.schema.Table.{Table}
use Rattle.sqlite.specs.Effect.{Database}
use Rattle.index_digest.specs.Digest.{digest_length}
use Rattle.index_names.specs.FileName.{read_file_name}
use Rattle.index_names.specs.Project.{IsNormalName}
use Rattle.index_names.specs.Release.{IsRelease}
use Rattle.index_retention.specs.Attempts.{IsTally}
use Rattle.index_rules.specs.Projects.{FitsProject}
use Rattle.index_rules.specs.Users.{IsUserId}
use Rattle.index_rules.specs.Maps.{Bytes}
use Rattle.index_sql_schema.specs.Records.{number_in, number_if_any}

-- ---- values

-- a whole number that isn't negative
abbrev pub IsNumber : Value → Type 0
IsNumber (Int (pos n)) = ⊤
IsNumber _ = ⊥

-- 0 or 1
abbrev pub IsFlag : Value → Type 0
IsFlag v = (v ≡ Int (pos 0)) ⊎ (v ≡ Int (pos 1))

-- a text of which P holds
abbrev pub IsTextOf : (Bytes → Type 0) → Value → Type 0
IsTextOf P (Text bytes) = P bytes
IsTextOf P _ = ⊥

-- bytes of which P holds
abbrev pub IsBlobOf : (Bytes → Type 0) → Value → Type 0
IsBlobOf P (Blob bytes) = P bytes
IsBlobOf P _ = ⊥

-- a SHA-256 digest
abbrev pub IsDigestBlob : Value → Type 0
IsDigestBlob = IsBlobOf (λ bytes. length bytes ≡ digest_length)

-- a text, in valid UTF-8
abbrev pub IsText : Value → Type 0
IsText = IsTextOf IsUtf8

-- the name of a wheel or a source archive
abbrev pub IsFileText : Value → Type 0
IsFileText = IsTextOf (λ bytes. IsSome (read_file_name bytes))

-- ---- columns that may hold NULL

-- NULL
abbrev pub IsNull : Row → ℕ → Type 0
IsNull r at = (at < length r) × (column r at ≡ Null)

-- NULL, or a whole number that isn't negative
abbrev pub IsNumberIfAny : Row → ℕ → Type 0
IsNumberIfAny r at = IsNull r at ⊎ IsNumber (column r at)

-- NULL, or a text
abbrev pub IsTextIfAny : Row → ℕ → Type 0
IsTextIfAny r at = IsNull r at ⊎ IsText (column r at)

-- ---- records

-- a row of users
pub record IsUserRow (r : Row) : Type 0 where
  pub office : IsFlag (column r 2)
  pub token : IsDigestBlob (column r 3)

-- the numbers and the text of a held name
pub record IsProjectRow (r : Row) : Type 0 where
  pub shown : IsText (column r 3)
  pub quota : IsNumber (column r 4)
  pub charge : IsNumber (column r 5)
  pub undeleted : IsNumber (column r 6)
  pub last_upload : IsNumberIfAny r 7
  pub fits : FitsProject (number_in (column r 4)) (number_in (column r 5)) (number_in (column r 6))

-- the columns of a held name in the row of a prohibited one
pub record IsBareRow (r : Row) : Type 0 where
  pub shown : column r 3 ≡ Text []
  pub quota : column r 4 ≡ Int (pos 0)
  pub charge : column r 5 ≡ Int (pos 0)
  pub undeleted : column r 6 ≡ Int (pos 0)
  pub last_upload : IsNull r 7

-- a row of names: 1 is held, and 2 is prohibited
abbrev pub IsNameRow : Row → Type 0
IsNameRow r =
    ((column r 2 ≡ Int (pos 1)) × IsProjectRow r) ⊎ ((column r 2 ≡ Int (pos 2)) × IsBareRow r)

-- a row of files
pub record IsFileRow (r : Row) : Type 0 where
  pub project : IsTextOf IsNormalName (column r 2)
  pub release : IsTextOf IsRelease (column r 3)
  pub digest : IsDigestBlob (column r 4)
  pub size : IsNumber (column r 5)
  pub requires_python : IsText (column r 6)
  pub is_undeleted : IsFlag (column r 7)

-- the attempts in a row of cases
pub record IsTallyRow (r : Row) : Type 0 where
  pub attempts : IsNumber (column r 8)
  pub sent : IsNumber (column r 9)
  pub profile : IsFlag (column r 10)
  pub author : IsFlag (column r 11)
  pub pages : IsFlag (column r 12)
  pub first : IsNumberIfAny r 13
  pub fit : IsTally (number_in (column r 8)) (number_in (column r 9)) (number_if_any (column r 13))

-- the kind of a case: 1 is continue, and 2 is reuse
abbrev pub IsKind : Value → Type 0
IsKind v = (v ≡ Int (pos 1)) ⊎ (v ≡ Int (pos 2))

-- a row of cases
pub record IsCaseRow (r : Row) : Type 0 where
  pub kind : IsKind (column r 2)
  pub candidate : IsTextOf IsUserId (column r 3)
  pub contact : IsText (column r 4)
  pub work : IsText (column r 5)
  pub why : IsText (column r 6)
  pub opened : IsNumber (column r 7)
  pub state : IsTallyRow r

-- a row of blobs
abbrev pub IsBodyRow : Row → Type 0
IsBodyRow r = IsBlobOf (λ _. ⊤) (column r 2)

-- a row of yanks
abbrev pub IsYankRow : Row → Type 0
IsYankRow r = IsText (column r 3)

-- ---- rows with their keys

-- a row of users, with its user
pub record IsAccountRow (r : Row) : Type 0 where
  pub user : IsTextOf IsUserId (column r 1)
  pub account : IsUserRow r

-- a row of names, with its name
pub record IsNamedRow (r : Row) : Type 0 where
  pub name : IsTextOf IsNormalName (column r 1)
  pub found : IsNameRow r

-- a row of files with its name, and behind it the reason of its yank, or NULL
pub record IsListedRow (r : Row) : Type 0 where
  pub file : IsFileText (column r 1)
  pub release : IsTextOf IsRelease (column r 3)
  pub digest : IsDigestBlob (column r 4)
  pub size : IsNumber (column r 5)
  pub requires_python : IsText (column r 6)
  pub yanked : IsTextIfAny r 8

-- the one column of a row of owners
abbrev pub IsOwnerRow : Row → Type 0
IsOwnerRow r = IsTextOf IsUserId (column r 0)

-- ---- tables

-- a row of owners: a name and a user
pub record IsOwnedRow (r : Row) : Type 0 where
  pub name : IsTextOf IsNormalName (column r 1)
  pub user : IsTextOf IsUserId (column r 2)

-- a row of files, with its file
pub record IsFiledRow (r : Row) : Type 0 where
  pub file : IsFileText (column r 1)
  pub known : IsFileRow r

-- a row of blobs, with its file
pub record IsStoredRow (r : Row) : Type 0 where
  pub file : IsFileText (column r 1)
  pub body : IsBodyRow r

-- a row of yanks, with its name and its release
pub record IsYankedRow (r : Row) : Type 0 where
  pub name : IsTextOf IsNormalName (column r 1)
  pub release : IsTextOf IsRelease (column r 2)
  pub reason : IsYankRow r

-- a row of cases, with its name
pub record IsOpenedRow (r : Row) : Type 0 where
  pub name : IsTextOf IsNormalName (column r 1)
  pub case : IsCaseRow r

-- a row of bans: a file
abbrev pub IsBannedRow : Row → Type 0
IsBannedRow r = IsFileText (column r 1)

-- the row of the table with this tree is a record with its key; any row of meta is one
abbrev pub IsRecordIn : ℕ → Row → Type 0
IsRecordIn tree r =
    MatchBool (tree == 1) (IsAccountRow r)
    (MatchBool (tree == 4) (IsNamedRow r)
    (MatchBool (tree == 6) (IsOwnedRow r)
    (MatchBool (tree == 8) (IsFiledRow r)
    (MatchBool (tree == 11) (IsStoredRow r)
    (MatchBool (tree == 13) (IsYankedRow r)
    (MatchBool (tree == 15) (IsOpenedRow r)
    (MatchBool (tree == 17) (IsBannedRow r) ⊤)))))))

-- all rows of the table are records with their keys
abbrev pub AreRecordsIn : Trees → ℕ → Type 0
AreRecordsIn db tree = AllByRecursion (IsRecordIn tree) (db tree)

-- all rows of each of these tables are records
abbrev pub AreRecordsOf : List Table → Trees → Type 0
AreRecordsOf tables db = AllByRecursion (λ (t : Table). AreRecordsIn db t.tree) tables

-- all rows of each table that the database has are records
abbrev pub AreRecords : Database → Type 0
AreRecords db = AreRecordsOf db.schema.tables db.trees
