-- Sound tables stay sound: after an accepted call, after any answer, after calls in a row.
use Rattle.index_rules.proofs.Words.{◌≡◌, ℕ, ◌+◌, ◌≤◌, true, false, cond, not, ◌&&◌, refl, sym, ap, ◌∙◌, subst, List, [], ◌∷◌, Option, Some}
use Rattle.index_rules.proofs.Words.{None, is_some, is_none, option_map, option_and_then, unwrap_or, length, arith, option_map_or, get}
use Rattle.index_rules.proofs.Words.{remove, true≢false, false≢true, not-false, ltb-false, read_name, read_release, Spelled, read_file_name}
use Rattle.index_rules.proofs.Words.{project_of, release_of, sha256, read_digest, BadDigest, BadFileName, BadName, BadUser, DigestMismatch}
use Rattle.index_rules.proofs.Words.{FileBanned, FilesRemain, LastOwner, NameHeld, NoFile, NoProject, OverQuota, QuotaBelowCharge}
use Rattle.index_rules.proofs.Words.{TokenTaken, Answer, Accepted, Already, Refused, Fault, Call, Request, AddUser, SetToken, SetQuota}
use Rattle.index_rules.proofs.Words.{Claim, AddOwner, RemoveOwner, Upload, Delete, BanFile, Yank, Unyank, Relinquish, Prohibit, Allow}
use Rattle.index_rules.proofs.Words.{OpenCase, RecordAttempt, Transfer, CloseCase, AnswerCase, FileRecord, NameRecord, Project, first_quota}
use Rattle.index_rules.proofs.Words.{Bytes, same, read_user, read_token, Tables, read_file, Facts, facts_in, of_both, owns_in}
use Rattle.index_rules.proofs.Words.{owns_alone_in, is_banned_in, Accept, verdict_now, exceeds_quota, is_prohibited, held_project, is_held}
use Rattle.index_rules.proofs.Words.{is_undeleted, or_empty, no_file, no_project, the_file, the_user, without_file, tables_with_call}
use Rattle.index_rules.proofs.Words.{Answers, Runs, tables_after, IsSound, undeleted_count_in}
use Rattle.std.proofs.Common.{nat_lt}
use Rattle.index_rules.specs.declared.records.NameRecord.TheVariants.{Held, Prohibited}
use Rattle.index_rules.specs.Verdict.{has_files}
use Rattle.index_rules.specs.Effect.{the_project, the_caller}
use Rattle.index_rules.proofs.OwnerLists.{same-is}
use Rattle.index_rules.proofs.PastReading.{read_itself}
use Rattle.index_rules.proofs.PutLemmas.{without_found}
use Rattle.index_rules.proofs.Accepted.{accepted, some_there, and_not}
use Rattle.index_rules.proofs.SoundUsers.{IsSound-user, not_taken}
use Rattle.index_rules.proofs.SoundNames.{IsSound-project, IsSound-claim, undeleted_in-free}
use Rattle.index_rules.proofs.SoundOwners.{IsSound-owner, IsSound-no_owner}
use Rattle.index_rules.proofs.SoundUploads.{IsSound-upload}
use Rattle.index_rules.proofs.SoundDeletes.{IsSound-delete}
use Rattle.index_rules.proofs.SoundBans.{with_ban, IsSound-ban_deleted, IsSound-ban_undeleted}
use Rattle.index_rules.proofs.SoundYanks.{IsSound-yank, IsSound-no_yank}
use Rattle.index_rules.proofs.SoundCases.{closed, IsSound-closed, IsSound-case, IsSound-transfer}
use Rattle.index_rules.proofs.PutLemmas.{get-without_here}
use Rattle.index_rules.proofs.SoundEnds.{IsSound-relinquish, IsSound-prohibit}

-- ---- what the parts of an accepted request are

-- a record that holds the name has a project
project_there : (found : Option Project) → not (is_some found) ≡ false → found ≡ Some (unwrap_or found no_project)
project_there found missing = some_there found no_project (not-false _ missing)

project_at : (T : Tables) (name : Option Bytes) → not (is_held (option_and_then (get T.names) name)) ≡ false
    → held_project (get T.names (or_empty name)) ≡ Some (unwrap_or (held_project (option_and_then (get T.names) name)) no_project)
project_at T None missing = absurd (true≢false missing)
project_at T (Some name) missing = project_there (held_project (get T.names name)) missing

free_at : (T : Tables) (name : Option Bytes) → is_none name ≡ false → is_held (option_and_then (get T.names) name) ≡ false
    → is_held (get T.names (or_empty name)) ≡ false
free_at T None unread free = absurd (true≢false unread)
free_at T (Some name) unread free = free

-- a prohibited name is not held
pub no_project_at : (T : Tables) (name : Option Bytes) → is_prohibited (option_and_then (get T.names) name) ≡ true
    → held_project (get T.names (or_empty name)) ≡ None
no_project_at T None prohibited = absurd (false≢true prohibited)
no_project_at T (Some name) prohibited = by (get T.names name) prohibited
  where
    by : (found : Option NameRecord) → is_prohibited found ≡ true → held_project found ≡ None
    by None prohibited = refl
    by (Some Prohibited) prohibited = refl
    by (Some (Held project)) prohibited = absurd (false≢true prohibited)

-- a name without files that a record holds counts none
no_files : (T : Tables) → IsSound T → (name : Option Bytes) → not (is_held (option_and_then (get T.names) name)) ≡ false
    → has_files (option_and_then (get T.names) name) ≡ false
    → undeleted_count_in T (or_empty name) ≡ 0
no_files T sound None missing empty = absurd (true≢false missing)
no_files T sound (Some name) missing empty =
    let project : Project = unwrap_or (held_project (get T.names name)) no_project in
    let held : held_project (get T.names name) ≡ Some project = project_there (held_project (get T.names name)) missing in
    let most : project.undeleted ≤ 0 = ltb-false 0 project.undeleted
    (sym (ap (λ o. option_map_or (λ p. nat_lt 0 p.undeleted) o false) held) ∙ empty) in
    omega (arith, sound.undeleted name project held, most)

no_owner : (T : Tables) → IsSound T → (name user : Option Bytes) → of_both (owns_in T) name user ≡ true
    → of_both (owns_alone_in T) name user ≡ false
    → IsSound (record T { owners = remove T.owners (or_empty name, or_empty user) })
no_owner T sound None user owns sole = absurd (false≢true owns)
no_owner T sound (Some name) None owns sole = absurd (false≢true owns)
no_owner T sound (Some name) (Some user) owns sole = IsSound-no_owner T sound name user owns sole

file_spelled : (file : Bytes) → is_none (read_file file) ≡ false → is_some (read_file_name file) ≡ true
unfolding read_file
file_spelled file unread = by (read_file_name file) unread
  where
    by : (spelled : Option Spelled) → is_none (option_map (λ _. file) spelled) ≡ false → is_some spelled ≡ true
    by None unread = absurd (true≢false unread)
    by (Some spelled) unread = refl

pub file_there : (found : Option FileRecord) → is_none found ≡ false → found ≡ Some (unwrap_or found no_file)
file_there None missing = absurd (true≢false missing)
file_there (Some known) missing = refl

pub undeleted_there : (found : Option FileRecord) → is_undeleted found ≡ true
    → (found ≡ Some (unwrap_or found no_file)) × ((unwrap_or found no_file).is_undeleted ≡ true)
undeleted_there None undeleted = absurd (false≢true undeleted)
undeleted_there (Some known) undeleted = (refl, undeleted)

pub digest_is : (declared : Option Bytes) (body : Bytes) → is_none declared ≡ false
    → option_map_or (λ digest. not (same digest (sha256 body))) declared false ≡ false → sha256 body ≡ or_empty declared
digest_is None body unread mismatched = absurd (true≢false unread)
digest_is (Some digest) body unread mismatched = sym (same-is digest (sha256 body) (not-false _ mismatched))

-- ---- each request

module _ (T : Tables) (sound : IsSound T) (at : ℕ) (token : Bytes) where
  abbrev of : Request → Call
  of request = record { at = at; token = token; request = request }

  abbrev facts : Request → Facts
  facts request = facts_in T (of request)

  quota_set : (name : Bytes) (quota : ℕ) → verdict_now T (of (SetQuota name quota)) ≡ Accept
      → IsSound (tables_with_call T (of (SetQuota name quota)))
  quota_set name quota accepts =
      let all = accepted (of (SetQuota name quota)) (facts (SetQuota name quota)) accepts in
      let project : Project = the_project (facts (SetQuota name quota)) in
      let held : held_project (facts (SetQuota name quota)).name ≡ Some project = project_there _ (all.not_refused NoProject refl) in
      let fits : project.charge ≤ quota = ltb-false quota project.charge
      (sym (λ i. option_map_or (λ p. nat_lt quota p.charge) (held i) false) ∙ (all.not_refused QuotaBelowCharge refl)) in
      IsSound-project T sound (or_empty (read_name name)) project (record project { quota = quota })
      (project_at T (read_name name) (all.not_refused NoProject refl)) refl refl fits

  claimed : (name : Bytes) → verdict_now T (of (Claim name)) ≡ Accept → IsSound (tables_with_call T (of (Claim name)))
  claimed name accepts =
      let all = accepted (of (Claim name)) (facts (Claim name)) accepts in
      let free : is_held (get T.names (or_empty (read_name name))) ≡ false =
      free_at T (read_name name) (all.not_refused BadName refl) (and_not _ _ (all.not_refused NameHeld refl) all.not_already) in
      let n : Bytes = or_empty (read_name name) in
      IsSound-claim (closed n T) (IsSound-closed T sound n) n free
      (record { shown = name; quota = first_quota; charge = 0; undeleted = 0; last_upload = None }) (the_caller (facts (Claim name)))
      refl refl

  uploaded : (file digest body requires : Bytes) → verdict_now T (of (Upload file digest body requires)) ≡ Accept
      → IsSound (tables_with_call T (of (Upload file digest body requires)))
  uploaded file digest body requires accepts =
      let all = accepted (of (Upload file digest body requires)) (facts (Upload file digest body requires)) accepts in
      let f : Facts = facts (Upload file digest body requires) in
      let reads = read_itself file (all.not_refused BadFileName refl) in
      let name_is : f.name ≡ get T.names (project_of file) = ap (λ o. option_and_then (get T.names) (option_map project_of o)) reads in
      let file_is : f.file ≡ get T.files file = ap (option_and_then (get T.files)) reads in
      let held : held_project f.name ≡ Some (the_project f) = project_there _ (all.not_refused NoProject refl) in
      let within : exceeds_quota (length body) f.name ≡ false =
      sym (λ i. not (all.not_already i) && exceeds_quota (length body) f.name) ∙ (all.not_refused OverQuota refl) in
      let fits : (the_project f).charge + length body ≤ (the_project f).quota =
      ltb-false _ _ (sym (ap (λ o. option_map_or (λ project. nat_lt project.quota (project.charge + length body)) o false) held)
      ∙ within) in
      let ended = without_found T.cases (option_map project_of (read_file file)) (project_of file) (ap (option_map project_of) reads) in
      subst IsSound (λ i. record (tables_with_call T (of (Upload file digest body requires))) { cases = sym ended i })
      (IsSound-upload at (closed (project_of file) T) (IsSound-closed T sound (project_of file)) file
      (record {
        project = project_of file;
        release = release_of file;
        digest = or_empty (read_digest digest);
        size = length body;
        requires_python = requires;
        is_undeleted = true;
      })
      body (the_project f) refl (sym (ap is_undeleted file_is) ∙ all.not_already) (sym (ap held_project name_is) ∙ held)
      (record { is_file_name = file_spelled file (all.not_refused BadFileName refl); project = refl; release = refl })
      (record {
        size = refl;
        digest = digest_is (read_digest digest) body (all.not_refused BadDigest refl)
            (all.not_refused DigestMismatch refl);
      })
      fits
      (sym (ap (λ o. option_map_or (is_banned_in T) o false) reads) ∙ all.not_refused FileBanned refl))

  deleted_one : (file : Bytes) → verdict_now T (of (Delete file)) ≡ Accept → IsSound (tables_with_call T (of (Delete file)))
  deleted_one file accepts =
      let all = accepted (of (Delete file)) (facts (Delete file)) accepts in
      let f : Facts = facts (Delete file) in
      let reads = read_itself file (all.not_refused BadFileName refl) in
      let name_is : f.name ≡ get T.names (project_of file) = ap (λ o. option_and_then (get T.names) (option_map project_of o)) reads in
      let file_is : f.file ≡ get T.files file = ap (option_and_then (get T.files)) reads in
      let known = undeleted_there f.file (not-false _ all.not_already) in
      IsSound-delete (closed (project_of file) T) (IsSound-closed T sound (project_of file)) file (the_file f) (the_project f) known.1
      (sym file_is ∙ known.0) (sym (ap held_project name_is) ∙ project_there _ (all.not_refused NoProject refl))

  banned : (file : Bytes) → verdict_now T (of (BanFile file)) ≡ Accept → IsSound (tables_with_call T (of (BanFile file)))
  banned file accepts =
      let all = accepted (of (BanFile file)) (facts (BanFile file)) accepts in
      let f : Facts = facts (BanFile file) in
      let known : FileRecord = the_file f in
      let reads = read_itself file (all.not_refused BadFileName refl) in
      let name_is : f.name ≡ get T.names (project_of file) = ap (λ o. option_and_then (get T.names) (option_map project_of o)) reads in
      let found : f.file ≡ Some known = file_there f.file (all.not_refused NoFile refl) in
      let there : get T.files file ≡ Some known = sym (ap (option_and_then (get T.files)) reads) ∙ found in
      let is : is_undeleted f.file ≡ known.is_undeleted = ap is_undeleted found in
      elim (is_undeleted f.file) as (λ b. is_undeleted f.file ≡ b
      → IsSound (with_ban T file known (cond b (option_map (without_file known.size) (held_project f.name)) None))) [
        | true ↦ λ undeleted.
            let held : is_held (get T.names (project_of file)) ≡ true =
            ap (λ n. is_held (get T.names n)) (sym (sound.spelled file known there).project)
            ∙ sound.undeleted_held file known there (sym is ∙ undeleted) in
            let project : held_project f.name ≡ Some (the_project f) =
            some_there (held_project f.name) no_project (ap is_held name_is ∙ held) in
            subst (λ left. IsSound (with_ban T file known (option_map (without_file known.size) left))) (sym project)
            (IsSound-ban_undeleted T file known there sound (the_project f) (sym is ∙ undeleted) (sym (ap held_project name_is) ∙ project))
        | false ↦ λ gone. IsSound-ban_deleted T file known there sound (sym is ∙ gone)
      ] refl

  each_request : (request : Request) → verdict_now T (of request) ≡ Accept → IsSound (tables_with_call T (of request))
  each_request (AddUser user office digest) accepts =
      let all = accepted (of (AddUser user office digest)) (facts (AddUser user office digest)) accepts in
      IsSound-user T sound (or_empty (read_user user)) (record { office = office; token = or_empty (read_token digest) })
      (not_taken T sound.one_bearer (read_token digest) (read_user user) (all.not_refused BadDigest refl) (all.not_refused BadUser refl)
      (all.not_refused TokenTaken refl))
  each_request (SetToken user digest) accepts =
      let all = accepted (of (SetToken user digest)) (facts (SetToken user digest)) accepts in
      IsSound-user T sound (or_empty (read_user user))
      (record { office = (the_user (facts (SetToken user digest))).office; token = or_empty (read_token digest) })
      (not_taken T sound.one_bearer (read_token digest) (read_user user) (all.not_refused BadDigest refl) (all.not_refused BadUser refl)
      (all.not_refused TokenTaken refl))
  each_request (SetQuota name quota) accepts = quota_set name quota accepts
  each_request (Claim name) accepts = claimed name accepts
  each_request (AddOwner name user) accepts =
      let all = accepted (of (AddOwner name user)) (facts (AddOwner name user)) accepts in
      IsSound-owner (closed (or_empty (read_name name)) T) (IsSound-closed T sound (or_empty (read_name name))) (or_empty (read_name name))
      (or_empty (read_user user)) (ap is_some (project_at T (read_name name) (all.not_refused NoProject refl)))
  each_request (RemoveOwner name user) accepts =
      let all = accepted (of (RemoveOwner name user)) (facts (RemoveOwner name user)) accepts in
      no_owner (closed (or_empty (read_name name)) T) (IsSound-closed T sound (or_empty (read_name name))) (read_name name) (read_user user)
      (not-false _ all.not_already) (all.not_refused LastOwner refl)
  each_request (Upload file digest body requires) accepts = uploaded file digest body requires accepts
  each_request (Delete file) accepts = deleted_one file accepts
  each_request (BanFile file) accepts = banned file accepts
  each_request (Yank name release reason) accepts =
      let all = accepted (of (Yank name release reason)) (facts (Yank name release reason)) accepts in
      IsSound-yank (closed (or_empty (read_name name)) T) (IsSound-closed T sound (or_empty (read_name name))) (or_empty (read_name name))
      (or_empty (read_release release)) reason (ap is_some (project_at T (read_name name) (all.not_refused NoProject refl)))
  each_request (Unyank name release) accepts =
      IsSound-no_yank (closed (or_empty (read_name name)) T) (IsSound-closed T sound (or_empty (read_name name)))
      (or_empty (read_name name)) (or_empty (read_release release))
  each_request (Relinquish name) accepts =
      let all = accepted (of (Relinquish name)) (facts (Relinquish name)) accepts in
      let n : Bytes = or_empty (read_name name) in
      IsSound-relinquish (closed n T) (IsSound-closed T sound n) n (get-without_here T.cases n)
      (no_files T sound (read_name name) (all.not_refused NoProject refl) (all.not_refused FilesRemain refl))
  each_request (Prohibit name) accepts =
      let n : Bytes = or_empty (read_name name) in
      IsSound-prohibit (closed n T) (IsSound-closed T sound n) n (get-without_here T.cases n)
  each_request (Allow name) accepts =
      let all = accepted (of (Allow name)) (facts (Allow name)) accepts in
      let n : Bytes = or_empty (read_name name) in
      let free : is_held (get T.names n) ≡ false = ap is_some (no_project_at T (read_name name) (not-false _ all.not_already)) in
      IsSound-relinquish (closed n T) (IsSound-closed T sound n) n (get-without_here T.cases n) (undeleted_in-free T sound n free)
  each_request (OpenCase name kind contact work why) accepts =
      let all = accepted (of (OpenCase name kind contact work why)) (facts (OpenCase name kind contact work why)) accepts in
      IsSound-case T sound (or_empty (read_name name)) _ (ap is_some (project_at T (read_name name) (all.not_refused NoProject refl)))
  each_request (RecordAttempt name means sent) accepts =
      let all = accepted (of (RecordAttempt name means sent)) (facts (RecordAttempt name means sent)) accepts in
      IsSound-case T sound (or_empty (read_name name)) _ (ap is_some (project_at T (read_name name) (all.not_refused NoProject refl)))
  each_request (Transfer name quiet) accepts =
      let all = accepted (of (Transfer name quiet)) (facts (Transfer name quiet)) accepts in
      IsSound-transfer (closed (or_empty (read_name name)) T) (IsSound-closed T sound (or_empty (read_name name)))
      (or_empty (read_name name)) _ (ap is_some (project_at T (read_name name) (all.not_refused NoProject refl)))
  each_request (CloseCase name) accepts = IsSound-closed T sound (or_empty (read_name name))
  each_request (AnswerCase name) accepts = IsSound-closed T sound (or_empty (read_name name))

-- ---- the theorems

-- an accepted call leaves sound tables
pub IsSound-after : (T : Tables) → IsSound T → (c : Call) → verdict_now T c ≡ Accept → IsSound (tables_with_call T c)
IsSound-after T sound c accepts = each_request T sound c.at c.token c.request accepts

-- so does each call, however it is answered
pub IsSound-tables_after : (T : Tables) → IsSound T → (c : Call) (answer : Answer) → Answers (verdict_now T c) answer
    → IsSound (tables_after T c answer)
IsSound-tables_after T sound c Accepted answers = IsSound-after T sound c answers
IsSound-tables_after T sound c Already answers = sound
IsSound-tables_after T sound c (Refused refusal) answers = sound
IsSound-tables_after T sound c (Fault fault) answers = sound

-- and so do calls in a row
pub IsSound-Runs : (T : Tables) → IsSound T → (calls : List Call) (answers : List Answer) (T' : Tables) → Runs T calls answers T'
    → IsSound T'
IsSound-Runs T sound [] [] T' run = subst IsSound (sym run) sound
IsSound-Runs T sound [] (answer ∷ answers) T' run = absurd run
IsSound-Runs T sound (call ∷ calls) [] T' run = absurd run
IsSound-Runs T sound (call ∷ calls) (answer ∷ answers) T' run =
    IsSound-Runs (tables_after T call answer) (IsSound-tables_after T sound call answer run.0) calls answers T' run.1
