-- Tables whose records agree with one another.
use Rattle.std.specs.Prelude.{◌≡◌, ℕ, ◌≤◌, Bool, true, false, ◌&&◌, if◌then◌else◌, Some, is_some}
use Rattle.std.specs.Prelude.{length, sum_by, count_by}
use Rattle.std.specs.FinMap.{get, entries}
use Rattle.index_names.specs.FileName.{read_file_name, project_of, release_of}
use Rattle.index_digest.specs.Digest.{sha256}
use Rattle.index_rules.specs.Projects.{Project}
use Rattle.index_rules.specs.declared.records.FileRecord.{FileRecord}
use Rattle.index_rules.specs.Maps.{Bytes, same}
use Rattle.index_rules.specs.Tables.{Tables}
use Rattle.index_rules.specs.Facts.{HasOneBearer, owns_in, yank_in, is_banned_in}
use Rattle.index_rules.specs.Verdict.{held_project, is_held, is_undeleted}

-- whether a file is an undeleted one of this name
abbrev pub is_undeleted_of : Bytes → FileRecord → Bool
is_undeleted_of name known = known.is_undeleted && same name known.project

-- the size of a file if it is an undeleted one of this name, else 0
abbrev pub charged_size : Bytes → FileRecord → ℕ
charged_size name known = if is_undeleted_of name known then known.size else 0

-- the sum of the sizes of a name's undeleted files
abbrev pub charge_in : Tables → Bytes → ℕ
charge_in T name = sum_by (λ file. charged_size name file.1) (entries T.files)

-- the number of a name's undeleted files
abbrev pub undeleted_count_in : Tables → Bytes → ℕ
undeleted_count_in T name = count_by (λ file. is_undeleted_of name file.1) (entries T.files)

-- the record has the project and the release that this file name spells
pub record IsRecordOf (file : Bytes) (known : FileRecord) : Type 0 where
  pub is_file_name : is_some (read_file_name file) ≡ true
  pub project : known.project ≡ project_of file
  pub release : known.release ≡ release_of file

-- the body has the size and the digest of this record
pub record IsBodyOf (known : FileRecord) (body : Bytes) : Type 0 where
  pub size : length body ≡ known.size
  pub digest : sha256 body ≡ known.digest

-- tables whose records agree; each key stands once, since the tables are maps, and a prohibited
-- name has neither charge nor quota
pub record IsSound (T : Tables) : Type 0 where
  -- no two users have tokens with one digest
  pub one_bearer : HasOneBearer T
  -- a name that has an owner is held
  pub owners : (name user : Bytes) → owns_in T name user ≡ true → is_held (get T.names name) ≡ true
  -- a held name has an owner
  pub owned : (name : Bytes) → is_held (get T.names name) ≡ true
      → (user : Bytes) × (owns_in T name user ≡ true)
  -- a name that has a yanked release is held
  pub yanks : (name release : Bytes) → is_some (yank_in T name release) ≡ true
      → is_held (get T.names name) ≡ true
  -- a name that has an open case is held
  pub cases : (name : Bytes) → is_some (get T.cases name) ≡ true → is_held (get T.names name) ≡ true
  -- each file has the project and the release that its name spells
  pub spelled : (file : Bytes) (known : FileRecord) → get T.files file ≡ Some known
      → IsRecordOf file known
  -- an undeleted file's project is held
  pub undeleted_held : (file : Bytes) (known : FileRecord) → get T.files file ≡ Some known
      → known.is_undeleted ≡ true → is_held (get T.names known.project) ≡ true
  -- a held name's charge is the sum of the sizes of its undeleted files
  pub charge : (name : Bytes) (project : Project) → held_project (get T.names name) ≡ Some project
      → project.charge ≡ charge_in T name
  -- a held name's count is the number of its undeleted files
  pub undeleted : (name : Bytes) (project : Project)
      → held_project (get T.names name) ≡ Some project
      → project.undeleted ≡ undeleted_count_in T name
  -- a held name's charge is not above its quota
  pub quota : (name : Bytes) (project : Project) → held_project (get T.names name) ≡ Some project
      → project.charge ≤ project.quota
  -- the undeleted files, and no others, have a body
  pub bodies : (file : Bytes) → is_some (get T.bodies file) ≡ is_undeleted (get T.files file)
  -- each body has the size and the digest of its file's record
  pub bytes : (file body : Bytes) (known : FileRecord) → get T.bodies file ≡ Some body
      → get T.files file ≡ Some known → IsBodyOf known body
  -- a banned file is known, and not undeleted
  pub bans : (file : Bytes) → is_banned_in T file ≡ true
      → (known : FileRecord) × (get T.files file ≡ Some known) × (known.is_undeleted ≡ false)
