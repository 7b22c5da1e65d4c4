-- Tables that stand for a history: they hold exactly the records that it makes.
use Rattle.std.specs.Prelude.{◌≡◌, ℕ, if◌then◌else◌, Bool, Option, Some, None, option_map}
use Rattle.std.specs.FinMap.{get}
use Rattle.index_names.specs.FileName.{project_of, release_of}
use Rattle.index_rules.specs.declared.records.NameRecord.{NameRecord}
use Rattle.index_rules.specs.declared.records.NameRecord.TheVariants as name_record
use Rattle.index_rules.specs.Projects.{Project}
use Rattle.index_retention.specs.Attempts.{tally_of}
use Rattle.index_rules.specs.declared.records.CaseRecord.{CaseRecord}
use Rattle.index_rules.specs.declared.records.FileRecord.{FileRecord}
use Rattle.index_rules.specs.Maps.{Bytes}
use Rattle.index_rules.specs.Tables.{Tables}
use Rattle.index_rules.specs.Facts.{owns_in, yank_in, is_banned_in}
use Rattle.index_rules.specs.History.{History}
use Rattle.index_rules.specs.PastUsers.{user_after}
use Rattle.index_rules.specs.PastNames.{State, Free, Held, Prohibited, state_after, shown_after}
use Rattle.index_rules.specs.PastNames.{quota_after, last_upload_after, owns_after, yank_after}
use Rattle.index_rules.specs.PastCases.{Case, case_after}
use Rattle.index_rules.specs.PastFiles.{first_upload_after, is_undeleted_after, is_banned_after}
use Rattle.index_rules.specs.PastFiles.{requires_after, last_body_after, charge_after}
use Rattle.index_rules.specs.PastFiles.{undeleted_count_after}

-- the record of a name by its state and its values: a free name has none, and a prohibited one has
-- no values
abbrev pub record_of_state : State → Project → Option NameRecord
record_of_state Free project = None
record_of_state Held project = Some (name_record.Held project)
record_of_state Prohibited project = Some name_record.Prohibited

-- the record of a held name: its shown name, quota, charge, count and latest upload
abbrev pub project_after : History → Bytes → Project
project_after h n = record {
  shown = shown_after h n;
  quota = quota_after h n;
  charge = charge_after h n;
  undeleted = undeleted_count_after h n;
  last_upload = last_upload_after h n;
}

-- the record of a name
abbrev pub name_after : History → Bytes → Option NameRecord
name_after h n = record_of_state (state_after h n) (project_after h n)

-- the record of a known file, with the digest and the size of its first upload
abbrev pub file_of_upload : Bytes → Bytes → Bool → Bytes × ℕ → FileRecord
file_of_upload f requires is_undeleted first = record {
  project = project_of f;
  release = release_of f;
  digest = first.0;
  size = first.1;
  requires_python = requires;
  is_undeleted = is_undeleted;
}

-- the record of a file, if the file is known
abbrev pub file_after : History → Bytes → Option FileRecord
file_after h f =
    option_map (file_of_upload f (requires_after h f) (is_undeleted_after h f))
    (first_upload_after h f)

-- the bytes of a file, if the file is undeleted
abbrev pub body_after : History → Bytes → Option Bytes
body_after h f = if is_undeleted_after h f then Some (last_body_after h f) else None

-- the record of an open case, which has the tally of its attempts instead of them
abbrev pub record_of_case : Case → CaseRecord
record_of_case case = record {
  kind = case.kind;
  candidate = case.candidate;
  contact = case.contact;
  work = case.work;
  why = case.why;
  opened = case.opened;
  state = tally_of case.attempts;
}

-- the record of the open case of a name, if there is one
abbrev pub case_record_after : History → Bytes → Option CaseRecord
case_record_after h n = option_map record_of_case (case_after h n)

-- the tables hold exactly the records of the history; each key stands once, since the tables are
-- maps, so tables that stand for one history are equal
pub record StandsFor (T : Tables) (h : History) : Type 0 where
  pub users : (user : Bytes) → get T.users user ≡ user_after h user
  pub names : (name : Bytes) → get T.names name ≡ name_after h name
  pub owners : (name user : Bytes) → owns_in T name user ≡ owns_after h name user
  pub files : (file : Bytes) → get T.files file ≡ file_after h file
  pub bodies : (file : Bytes) → get T.bodies file ≡ body_after h file
  pub cases : (name : Bytes) → get T.cases name ≡ case_record_after h name
  pub yanks : (name release : Bytes) → yank_in T name release ≡ yank_after h name release
  pub bans : (file : Bytes) → is_banned_in T file ≡ is_banned_after h file
