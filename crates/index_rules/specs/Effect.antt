-- What an accepted call writes, and what a change means for the tables.
use Rattle.std.specs.Prelude.{ℕ, ◌+◌, ◌-◌, max, Bool, true, false, not, if◌then◌else◌, [], Option}
use Rattle.std.specs.Prelude.{Some, None, is_some, unwrap_or, option_map, length}
use Rattle.std.specs.Option.{option_map_or}
use Rattle.std.specs.FinMap.{get, insert, remove, retain_keys}
use Rattle.index_digest.specs.Digest.{read_digest, sha256}
use Rattle.index_names.specs.FileName.{project_of, release_of}
use Rattle.index_names.specs.Project.{read_name}
use Rattle.index_names.specs.Release.{read_release}
use Rattle.index_rules.specs.declared.call.Call.{Call}
use Rattle.index_rules.specs.declared.call.Request.{Request}
use Rattle.index_rules.specs.declared.call.Request.TheVariants.{AddUser, SetToken, SetQuota, Claim}
use Rattle.index_rules.specs.declared.call.Request.TheVariants.{AddOwner, RemoveOwner, Upload}
use Rattle.index_rules.specs.declared.call.Request.TheVariants.{Delete, BanFile, Yank, Unyank}
use Rattle.index_rules.specs.declared.call.Request.TheVariants.{Relinquish, Prohibit, Allow}
use Rattle.index_rules.specs.declared.call.Request.TheVariants.{OpenCase, RecordAttempt, Transfer}
use Rattle.index_rules.specs.declared.call.Request.TheVariants.{CloseCase, AnswerCase}
use Rattle.index_rules.specs.declared.change.Change.{Change}
use Rattle.index_rules.specs.declared.change.Change.TheVariants as change
use Rattle.index_rules.specs.declared.records.NameRecord.{NameRecord}
use Rattle.index_rules.specs.declared.records.NameRecord.TheVariants.{Held, Prohibited}
use Rattle.index_retention.specs.declared.attempts.CaseKind.{CaseKind}
use Rattle.index_retention.specs.declared.attempts.CaseKind.TheVariants.{Continue}
use Rattle.index_retention.specs.Attempts.{Attempt, attempt_of, tally_with, tally_of}
use Rattle.index_rules.specs.declared.records.CaseRecord.{CaseRecord}
use Rattle.index_rules.specs.declared.records.FileRecord.{FileRecord}
use Rattle.index_rules.specs.Projects.{Project, new_project}
use Rattle.index_rules.specs.declared.records.UserRecord.{UserRecord}
use Rattle.index_rules.specs.Maps.{Bytes, Map, PairMap, same, change_values}
use Rattle.index_rules.specs.Tables.{Tables}
use Rattle.index_rules.specs.Texts.{read_token}
use Rattle.index_rules.specs.Users.{read_user}
use Rattle.index_rules.specs.Facts.{Facts, facts_in}
use Rattle.index_rules.specs.Verdict.{held_project, is_undeleted}

-- ---- the records that an accepted request finds

-- what was parsed, or the empty text if nothing was; an accepted request does not meet the latter
abbrev pub or_empty : Option Bytes → Bytes
or_empty read = unwrap_or read []

-- the user id of the caller
abbrev pub the_caller : Facts → Bytes
the_caller facts = or_empty (option_map (λ caller. caller.user) facts.caller)

-- stands for the held name if there is none, which an accepted request does not meet; the three
-- below likewise
abbrev pub no_project : Project
no_project = record { shown = []; quota = 0; charge = 0; undeleted = 0; last_upload = None }

-- the held name
abbrev pub the_project : Facts → Project
the_project facts = unwrap_or (held_project facts.name) no_project

abbrev pub no_user : UserRecord
no_user = record { office = false; token = [] }

-- the record of the named user
abbrev pub the_user : Facts → UserRecord
the_user facts = unwrap_or facts.user no_user

abbrev pub no_file : FileRecord
no_file = record {
  project = [];
  release = [];
  digest = [];
  size = 0;
  requires_python = [];
  is_undeleted = false;
}

-- the record of the file
abbrev pub the_file : Facts → FileRecord
the_file facts = unwrap_or facts.file no_file

abbrev pub no_case : CaseRecord
no_case = record {
  kind = Continue;
  candidate = [];
  contact = [];
  work = [];
  why = [];
  opened = 0;
  state = tally_of [];
}

-- the record of the open case
abbrev pub the_case : Facts → CaseRecord
the_case facts = unwrap_or facts.case no_case

-- ---- what a request writes

-- the greater of two moments
abbrev pub later : Option ℕ → ℕ → ℕ
later None at = at
later (Some before) at = max at before

-- the project with one more undeleted file of this size, uploaded at this moment
abbrev pub with_file : ℕ → ℕ → Project → Project
with_file at size project =
    record project {
      charge = project.charge + size;
      undeleted = project.undeleted + 1;
      last_upload = Some (later project.last_upload at);
    }

-- the project with one undeleted file of this size less; nothing falls below 0
abbrev pub without_file : ℕ → Project → Project
without_file size project =
    record project { charge = project.charge - size; undeleted = project.undeleted - 1 }

-- the record of a file after its delete: only the flag changes
abbrev pub as_deleted : FileRecord → FileRecord
as_deleted known = record known { is_undeleted = false }

-- a file's record after the prohibition of a name: deleted if the file is of that name
abbrev pub as_deleted_of : Bytes → FileRecord → FileRecord
as_deleted_of name known = if same name known.project then as_deleted known else known

-- whether a file has a record of this name
abbrev pub is_file_of : Map FileRecord → Bytes → Bytes → Bool
is_file_of files name file = option_map_or (λ known. same name known.project) (get files file) false

-- the map without the entries of this name
abbrev pub without_name : {X : Type 0} → Bytes → PairMap X → PairMap X
without_name name m = retain_keys m (λ pair. not (same name pair.0))

-- the case with one attempt more
abbrev pub with_attempt_noted : Attempt → CaseRecord → CaseRecord
with_attempt_noted attempt case = record case { state = tally_with case.state attempt }

-- the record of a file after its upload with this digest
abbrev pub new_file : Bytes → Bytes → Bytes → Bytes → FileRecord
new_file digest file body requires = record {
  project = project_of file;
  release = release_of file;
  digest = digest;
  size = length body;
  requires_python = requires;
  is_undeleted = true;
}

-- the change by the upload of a file to a project that is charged for it, and whether the name has
-- a case that ends
abbrev pub upload_of : Project → Bytes → Bytes → Bytes → Bool → Change
upload_of project file body requires ends_case =
    change.Upload (project_of file) project file (new_file (sha256 body) file body requires) body
    ends_case

-- the held name without the file that a ban deletes, if the file is undeleted; in sound tables the
-- name of such a file is held
abbrev pub project_left : Facts → Option Project
project_left facts =
    if is_undeleted facts.file
    then option_map (without_file (the_file facts).size) (held_project facts.name)
    else None

-- a case that this candidate opened at this moment
abbrev pub new_case : ℕ → Bytes → CaseKind → Bytes → Bytes → Bytes → CaseRecord
new_case at candidate kind contact work why = record {
  kind = kind;
  candidate = candidate;
  contact = contact;
  work = work;
  why = why;
  opened = at;
  state = tally_of [];
}

-- what an accepted request at a moment writes
abbrev pub effect : ℕ → Request → Facts → Change
effect at (AddUser user office token) facts =
    change.AddUser (or_empty (read_user user))
    (record { office = office; token = or_empty (read_token token) })
effect at (SetToken user token) facts =
    change.SetToken (or_empty (read_user user))
    (record { office = (the_user facts).office; token = or_empty (read_token token) })
effect at (SetQuota name quota) facts =
    change.SetQuota (or_empty (read_name name)) (record (the_project facts) { quota = quota })
effect at (Claim name) facts =
    change.Claim (or_empty (read_name name)) (new_project name) (the_caller facts)
effect at (AddOwner name user) facts =
    change.AddOwner (or_empty (read_name name)) (or_empty (read_user user))
effect at (RemoveOwner name user) facts =
    change.RemoveOwner (or_empty (read_name name)) (or_empty (read_user user))
effect at (Upload file declared body requires) facts =
    change.Upload (project_of file) (with_file at (length body) (the_project facts)) file
    (new_file (or_empty (read_digest declared)) file body requires) body (is_some facts.case)
effect at (Delete file) facts =
    change.Delete (project_of file) (without_file (the_file facts).size (the_project facts)) file
    (as_deleted (the_file facts))
effect at (BanFile file) facts =
    change.BanFile (project_of file) (project_left facts) file (as_deleted (the_file facts))
effect at (Yank name release reason) facts =
    change.Yank (or_empty (read_name name)) (or_empty (read_release release)) reason
effect at (Unyank name release) facts =
    change.Unyank (or_empty (read_name name)) (or_empty (read_release release))
effect at (Relinquish name) facts = change.Relinquish (or_empty (read_name name))
effect at (Prohibit name) facts = change.Prohibit (or_empty (read_name name))
effect at (Allow name) facts = change.Allow (or_empty (read_name name))
effect at (OpenCase name kind contact work why) facts =
    change.OpenCase (or_empty (read_name name))
    (new_case at (the_caller facts) kind contact work why)
effect at (RecordAttempt name means sent) facts =
    change.RecordAttempt (or_empty (read_name name))
    (with_attempt_noted (attempt_of means sent at) (the_case facts))
effect at (Transfer name quiet) facts =
    change.Transfer (or_empty (read_name name)) (the_case facts).candidate
effect at (CloseCase name) facts = change.CloseCase (or_empty (read_name name))
effect at (AnswerCase name) facts = change.AnswerCase (or_empty (read_name name))

-- the tables with the name free: without its record, its owners, its yanks and its case
abbrev pub without_record : Bytes → Tables → Tables
without_record name T = record T {
  names = remove T.names name;
  owners = without_name name T.owners;
  yanks = without_name name T.yanks;
  cases = remove T.cases name;
}

-- the names, with this project at this name if there is a project
abbrev pub with_project : Bytes → Option Project → Map NameRecord → Map NameRecord
with_project name None names = names
with_project name (Some project) names = insert names name (Held project)

-- the tables after a change
abbrev pub means : Change → Tables → Tables
means (change.AddUser user account) T = record T { users = insert T.users user account }
means (change.SetToken user account) T = record T { users = insert T.users user account }
means (change.SetQuota name project) T = record T { names = insert T.names name (Held project) }
means (change.Claim name project owner) T = record T {
  names = insert T.names name (Held project);
  owners = insert (without_name name T.owners) (name, owner) tt;
  yanks = without_name name T.yanks;
  cases = remove T.cases name;
}
means (change.AddOwner name user) T =
    record T { owners = insert T.owners (name, user) tt; cases = remove T.cases name }
means (change.RemoveOwner name user) T =
    record T { owners = remove T.owners (name, user); cases = remove T.cases name }
means (change.Upload name project file known body ends_case) T = record T {
  names = insert T.names name (Held project);
  files = insert T.files file known;
  bodies = insert T.bodies file body;
  cases = if ends_case then remove T.cases name else T.cases;
}
means (change.Delete name project file known) T = record T {
  names = insert T.names name (Held project);
  files = insert T.files file known;
  bodies = remove T.bodies file;
  cases = remove T.cases name;
}
means (change.BanFile name project file known) T = record T {
  names = with_project name project T.names;
  files = insert T.files file known;
  bodies = remove T.bodies file;
  bans = insert T.bans file tt;
}
means (change.Yank name release reason) T =
    record T { yanks = insert T.yanks (name, release) reason; cases = remove T.cases name }
means (change.Unyank name release) T =
    record T { yanks = remove T.yanks (name, release); cases = remove T.cases name }
means (change.Relinquish name) T = without_record name T
means (change.Prohibit name) T = record T {
  names = insert T.names name Prohibited;
  owners = without_name name T.owners;
  files = change_values (as_deleted_of name) T.files;
  bodies = retain_keys T.bodies (λ file. not (is_file_of T.files name file));
  yanks = without_name name T.yanks;
  cases = remove T.cases name;
}
means (change.Allow name) T = without_record name T
means (change.OpenCase name case) T = record T { cases = insert T.cases name case }
means (change.RecordAttempt name case) T = record T { cases = insert T.cases name case }
means (change.Transfer name candidate) T = record T {
  owners = insert (without_name name T.owners) (name, candidate) tt;
  cases = remove T.cases name;
}
means (change.CloseCase name) T = record T { cases = remove T.cases name }
means (change.AnswerCase name) T = record T { cases = remove T.cases name }

-- the tables after an accepted call
abbrev pub tables_with_call : Tables → Call → Tables
tables_with_call T call = means (effect call.at call.request (facts_in T call)) T
