-- A row put with the columns of a record has the record.
use Rattle.index_sql_writes.proofs.Words.{◌≡◌, inl, inr, ℕ, Bool, true, false, [], ◌∷◌, length, Option, Some, None, IsSome, IsUtf8, Ok}
use Rattle.index_sql_writes.proofs.Words.{refl, sym, subst, arith, Row, State, Executes, FileRecord, Bytes, Project, IsFiledRow, IsIndex}
use Rattle.index_sql_writes.proofs.Words.{Changes, put_user_text, put_file_text, put_case_text, puts_file, name_of, name_cells}
use Rattle.index_sql_writes.proofs.Words.{held_numbers, flag_number}
use Rattle.std.proofs.Common.{ℤ, pos, ◌==◌, option_map}
use Rattle.index_digest.specs.Digest.{digest_length}
use Rattle.index_names.specs.FileName.{read_file_name}
use Rattle.index_names.specs.Project.{IsNormalName}
use Rattle.index_names.specs.Release.{IsRelease}
use Rattle.index_retention.specs.Attempts.{IsTally}
use Rattle.index_rules.specs.Users.{IsUserId}
use Rattle.sqlite_value.specs.declared.value.Value.TheVariants.{Int}
use Rattle.sqlite.specs.Values.{or_null}
use Rattle.index_retention.specs.declared.attempts.CaseKind.{CaseKind}
use Rattle.index_retention.specs.declared.attempts.CaseKind.TheVariants.{Continue, Reuse}
use Rattle.index_rules.specs.declared.records.UserRecord.{UserRecord}
use Rattle.index_rules.specs.declared.records.NameRecord.TheVariants.{Held}
use Rattle.index_rules.specs.declared.records.CaseRecord.{CaseRecord}
use Rattle.index_rules.specs.Projects.{FitsProject}
use Rattle.index_sql_schema.specs.Records.{number_in, number_if_any, kind_by}
use Rattle.index_sql_schema.specs.RecordRows.{IsFlag, IsKind, IsNumberIfAny, IsAccountRow, IsNameRow, IsOpenedRow}
use Rattle.index_sql_schema.proofs.PutUser as user_row
use Rattle.index_sql_schema.proofs.PutFile as file_row
use Rattle.index_sql_schema.proofs.PutCase as case_row
use Rattle.index_sql_writes.specs.Writes.{puts_user, puts_case, prohibited_numbers}
use Rattle.index_sql_writes.specs.Writes.{kind_number}

flag_again : (b : Bool) → (number_in (Int (flag_number b)) == 1) ≡ b
flag_again true = refl
flag_again false = refl

kind_again : (kind : CaseKind) → kind_by (number_in (Int (kind_number kind))) ≡ kind
kind_again Continue = refl
kind_again Reuse = refl

pub number_again : (number : Option ℕ) → number_if_any (or_null Int (option_map pos number)) ≡ number
number_again None = refl
number_again (Some n) = refl

-- ---- the rows of records

pub flag_is : (b : Bool) → IsFlag (Int (flag_number b))
flag_is true = inr refl
flag_is false = inl refl

kind_is : (kind : CaseKind) → IsKind (Int (kind_number kind))
kind_is Continue = inl refl
kind_is Reuse = inr refl

pub user_fits : (user : Bytes) (account : UserRecord) → IsUserId user → length account.token ≡ digest_length → (id : ℤ)
    → IsAccountRow (Int id ∷ user_row.cells user (flag_number account.office) account.token)
user_fits user account is token id = record { user = is; account = record { office = flag_is account.office; token = token } }

pub file_fits : (file : Bytes) (known : FileRecord) → IsSome (read_file_name file) → IsNormalName known.project → IsRelease known.release
    → length known.digest ≡ digest_length → IsUtf8 known.requires_python
    → (id : ℤ) → IsFiledRow (Int id ∷ file_row.cells file known.project known.release known.digest (pos known.size) known.requires_python
    (flag_number known.is_undeleted))
file_fits file known is project release digest requires id =
    record {
      file = is;
      known = record {
        project = project;
        release = release;
        digest = digest;
        size = tt;
        requires_python = requires;
        is_undeleted = flag_is known.is_undeleted;
      };
    }

pub user_put : (user : Bytes) (account : UserRecord)
    → ((id : ℤ) → IsAccountRow (Int id ∷ user_row.cells user (flag_number account.office) account.token)) → (old new : State) (count : ℕ)
    → IsIndex old.now
    → Executes put_user_text (user_row.cells user (flag_number account.office) account.token) old new (Ok count)
    → Changes (puts_user user account) old.now new.now
user_put user account fits old new count h ran =
    let it = user_row.puts user (flag_number account.office) account.token fits old new count h ran in
    subst (λ office. Changes (puts_user user (record { office = office; token = account.token })) old.now new.now)
    (flag_again account.office) it

pub file_put : (file : Bytes) (known : FileRecord)
    → ((id : ℤ) → IsFiledRow (Int id ∷ file_row.cells file known.project known.release known.digest (pos known.size) known.requires_python
    (flag_number known.is_undeleted))) → (old new : State) (count : ℕ) → IsIndex old.now
    → Executes put_file_text (file_row.cells file known.project known.release known.digest (pos known.size) known.requires_python
    (flag_number known.is_undeleted)) old new (Ok count)
    → Changes (puts_file file known) old.now new.now
file_put file known fits old new count h ran =
    let it = file_row.puts file known.project known.release known.digest (pos known.size) known.requires_python
    (flag_number known.is_undeleted) fits old new count h ran in
    subst (λ live. Changes (puts_file file (record known { is_undeleted = live })) old.now new.now) (flag_again known.is_undeleted) it

abbrev cells_of : Bytes → CaseRecord → Row
cells_of name case =
    case_row.cells name (kind_number case.kind) case.candidate case.contact case.work case.why (pos case.opened) (pos case.state.attempts)
    (pos case.state.sent)
    (flag_number case.state.profile) (flag_number case.state.author) (flag_number case.state.pages) (option_map pos case.state.first)

pub case_fits : (name : Bytes) (case : CaseRecord) → IsNormalName name → IsUserId case.candidate → IsUtf8 case.contact → IsUtf8 case.work
    → IsUtf8 case.why
    → IsTally case.state.attempts case.state.sent case.state.first → (id : ℤ) → IsOpenedRow (Int id ∷ cells_of name case)
case_fits name case is candidate contact work why fit id = record {
  name = is;
  case = record {
    kind = kind_is case.kind;
    candidate = candidate;
    contact = contact;
    work = work;
    why = why;
    opened = tt;
    state = record {
      attempts = tt;
      sent = tt;
      profile = flag_is case.state.profile;
      author = flag_is case.state.author;
      pages = flag_is case.state.pages;
      first = if_any case.state.first;
      fit = subst (IsTally case.state.attempts case.state.sent) (sym (number_again case.state.first)) fit;
    };
  };
}
  where
    if_any : (first : Option ℕ) → IsNumberIfAny (Int id ∷ cells_of name (record case { state = record case.state { first = first } })) 13
    if_any None = inl (omega arith, refl)
    if_any (Some n) = inr tt

pub case_put : (name : Bytes) (case : CaseRecord) → ((id : ℤ) → IsOpenedRow (Int id ∷ cells_of name case)) → (old new : State) (count : ℕ)
    → IsIndex old.now
    → Executes put_case_text
    (case_row.cells name (kind_number case.kind) case.candidate case.contact case.work case.why (pos case.opened) (pos case.state.attempts)
    (pos case.state.sent)
    (flag_number case.state.profile) (flag_number case.state.author) (flag_number case.state.pages) (option_map pos case.state.first))
    old new (Ok count)
    → Changes (puts_case name case) old.now new.now
case_put name case fits old new count h ran =
    let it = case_row.puts name (kind_number case.kind) case.candidate case.contact case.work case.why (pos case.opened)
    (pos case.state.attempts) (pos case.state.sent)
    (flag_number case.state.profile) (flag_number case.state.author) (flag_number case.state.pages) (option_map pos case.state.first)
    fits old new count h ran in
    let s1 = subst (λ kind. Changes (puts_case name (record case {
      kind = kind;
      state = record case.state {
        profile = number_in (Int (flag_number case.state.profile)) == 1;
        author = number_in (Int (flag_number case.state.author)) == 1;
        pages = number_in (Int (flag_number case.state.pages)) == 1;
        first = number_if_any (or_null Int (option_map pos case.state.first));
      };
    })) old.now new.now) (kind_again case.kind) it in
    let s2 = subst (λ profile. Changes (puts_case name (record case {
      state = record case.state {
        profile = profile;
        author = number_in (Int (flag_number case.state.author)) == 1;
        pages = number_in (Int (flag_number case.state.pages)) == 1;
        first = number_if_any (or_null Int (option_map pos case.state.first));
      };
    })) old.now new.now) (flag_again case.state.profile) s1 in
    let s3 = subst (λ author. Changes (puts_case name (record case {
      state = record case.state {
        author = author;
        pages = number_in (Int (flag_number case.state.pages)) == 1;
        first = number_if_any (or_null Int (option_map pos case.state.first));
      };
    })) old.now new.now) (flag_again case.state.author) s2 in
    let s4 = subst (λ pages. Changes (puts_case name
    (record case {
      state = record case.state {
        pages = pages;
        first = number_if_any (or_null Int (option_map pos case.state.first));
      };
    })) old.now new.now) (flag_again case.state.pages) s3 in
    subst (λ first. Changes (puts_case name (record case { state = record case.state { first = first } })) old.now new.now)
    (number_again case.state.first) s4

pub held_fits : (name : Bytes) (project : Project) → IsUtf8 project.shown → FitsProject project.quota project.charge project.undeleted
    → (id : ℤ) → IsNameRow (Int id ∷ name_cells name project.shown (held_numbers project))
held_fits name project shown fits id = inl (
  refl,
  record { shown = shown; quota = tt; charge = tt; undeleted = tt; last_upload = if_any project.last_upload; fits = fits },
)
  where
    if_any : (last : Option ℕ) → IsNumberIfAny
        (Int id ∷ name_cells name project.shown (held_numbers (record project { last_upload = last }))) 7
    if_any None = inl (omega arith, refl)
    if_any (Some n) = inr tt

pub prohibited_fits : (name : Bytes) (id : ℤ) → IsNameRow (Int id ∷ name_cells name [] prohibited_numbers)
prohibited_fits name id = inr (
  refl,
  record {
    shown = refl;
    quota = refl;
    charge = refl;
    undeleted = refl;
    last_upload = (omega arith, refl);
  },
)

-- a held name's row has its project
pub held_again : (project : Project) → name_of project.shown (held_numbers project) ≡ Held project
held_again project = rw (number_again project.last_upload) refl
