-- The verdict on a call: the least refusal that applies; else already, if the tables are as the
-- request asks; else accepted.
use Rattle.std.specs.Prelude.{ℕ, ◌+◌, Bool, true, false, not, ◌&&◌, ◌==◌, nat_lt, List, [], ◌∷◌}
use Rattle.std.specs.Prelude.{length, Option, Some, None, is_some, is_none, find}
use Rattle.std.specs.Option.{option_map_or}
use Rattle.index_digest.specs.Digest.{read_digest, sha256}
use Rattle.index_rules.specs.declared.call.Call.{Call}
use Rattle.index_rules.specs.declared.call.Request.{Request}
use Rattle.index_rules.specs.declared.call.Request.TheVariants.{AddUser, SetToken, SetQuota, Claim}
use Rattle.index_rules.specs.declared.call.Request.TheVariants.{AddOwner, RemoveOwner, Upload}
use Rattle.index_rules.specs.declared.call.Request.TheVariants.{Delete, BanFile, Yank, Unyank}
use Rattle.index_rules.specs.declared.call.Request.TheVariants.{Relinquish, Prohibit, Allow}
use Rattle.index_rules.specs.declared.call.Request.TheVariants.{OpenCase, RecordAttempt, Transfer}
use Rattle.index_rules.specs.declared.call.Request.TheVariants.{CloseCase, AnswerCase}
use Rattle.index_rules.specs.declared.answer.Refusal.{Refusal}
use Rattle.index_rules.specs.declared.answer.Refusal.TheVariants.{BadMoment, BadToken, NotOffice}
use Rattle.index_rules.specs.declared.answer.Refusal.TheVariants.{BadUser, BadName, BadFileName}
use Rattle.index_rules.specs.declared.answer.Refusal.TheVariants.{BadRelease, BadText, BadDigest}
use Rattle.index_rules.specs.declared.answer.Refusal.TheVariants.{TooLarge, DigestMismatch}
use Rattle.index_rules.specs.declared.answer.Refusal.TheVariants.{QuotaTooLarge, NoUser, UserExists}
use Rattle.index_rules.specs.declared.answer.Refusal.TheVariants.{TokenTaken, NameProhibited}
use Rattle.index_rules.specs.declared.answer.Refusal.TheVariants.{NoProject, NotOwner, NameHeld}
use Rattle.index_rules.specs.declared.answer.Refusal.TheVariants.{LastOwner, FilesRemain, NoFile}
use Rattle.index_rules.specs.declared.answer.Refusal.TheVariants.{NoRelease, FileNameTaken}
use Rattle.index_rules.specs.declared.answer.Refusal.TheVariants.{FileBanned, OverQuota}
use Rattle.index_rules.specs.declared.answer.Refusal.TheVariants.{QuotaBelowCharge, CaseOpen}
use Rattle.index_rules.specs.declared.answer.Refusal.TheVariants.{OwnerCandidate, NoCase}
use Rattle.index_rules.specs.declared.answer.Refusal.TheVariants.{AttemptsFull, TooFewAttempts}
use Rattle.index_rules.specs.declared.answer.Refusal.TheVariants.{TooEarly, RecentRelease}
use Rattle.index_rules.specs.declared.answer.Refusal.TheVariants.{HomePageActive}
use Rattle.index_rules.specs.declared.records.UserRecord.{UserRecord}
use Rattle.index_rules.specs.declared.records.NameRecord.{NameRecord}
use Rattle.index_rules.specs.declared.records.NameRecord.TheVariants.{Held, Prohibited}
use Rattle.index_rules.specs.Projects.{Project, largest_quota}
use Rattle.index_rules.specs.declared.records.FileRecord.{FileRecord}
use Rattle.index_retention.specs.declared.fault.CaseFault.{CaseFault}
use Rattle.index_retention.specs.declared.fault.CaseFault.TheVariants as case_fault
use Rattle.index_retention.specs.Attempts.{is_full}
use Rattle.index_retention.specs.Transfer.{stands_against}
use Rattle.index_rules.specs.Maps.{Bytes, same}
use Rattle.index_rules.specs.Texts.{is_evidence, is_text, read_token}
use Rattle.index_rules.specs.Tables.{Tables}
use Rattle.index_rules.specs.Requests.{user_key, name_key, file_key, release_key, declared_digest}
use Rattle.index_rules.specs.Facts.{Facts, facts_in}

-- what the rules say of a call: it is accepted, it changes nothing, or it is refused
pub data Verdict : Type 0 where
  Accept : Verdict
  AlreadySo : Verdict
  Refuse : Refusal → Verdict

-- ---- limits

-- the last second of the year 9999
abbrev pub last_moment : ℕ
last_moment = 253402300799

-- the most bytes of a body
abbrev pub largest_body : ℕ
largest_body = 16777216

-- ---- questions on the facts

-- the held name of a record
abbrev pub held_project : Option NameRecord → Option Project
held_project None = None
held_project (Some (Held project)) = Some project
held_project (Some Prohibited) = None

-- whether a record is that of a held name
abbrev pub is_held : Option NameRecord → Bool
is_held name = is_some (held_project name)

-- whether a record is that of a prohibited name
abbrev pub is_prohibited : Option NameRecord → Bool
is_prohibited None = false
is_prohibited (Some (Held project)) = false
is_prohibited (Some Prohibited) = true

-- whether the caller is of the office
abbrev pub is_of_office : Facts → Bool
is_of_office facts = option_map_or (λ caller. caller.office) facts.caller false

-- whether a user has this flag and this digest
abbrev pub is_user_with : Bool → Option Bytes → UserRecord → Bool
is_user_with office None user = false
is_user_with true (Some token) user = user.office && same token user.token
is_user_with false (Some token) user = not user.office && same token user.token

-- whether a user exists and has the token with this digest
abbrev pub bears : Option Bytes → Option UserRecord → Bool
bears None user = false
bears (Some token) None = false
bears (Some token) (Some user) = same token user.token

-- whether a user other than the named one has the token
abbrev pub is_taken : Option Bytes → Option Bytes → Bool
is_taken None user = false
is_taken (Some bearer) None = true
is_taken (Some bearer) (Some user) = not (same user bearer)

-- whether a file exists and is undeleted
abbrev pub is_undeleted : Option FileRecord → Bool
is_undeleted file = option_map_or (λ known. known.is_undeleted) file false

-- whether a name has an undeleted file
abbrev pub has_files : Option NameRecord → Bool
has_files name = option_map_or (λ project. nat_lt 0 project.undeleted) (held_project name) false

-- whether a file is known with another digest or size
abbrev pub is_other_file : Option Bytes → ℕ → Option FileRecord → Bool
is_other_file declared size None = false
is_other_file None size (Some known) = false
is_other_file (Some digest) size (Some known) =
    not (same digest known.digest && (size == known.size))

-- whether a body of this size would bring the charge above the quota
abbrev pub exceeds_quota : ℕ → Option NameRecord → Bool
exceeds_quota size name =
    option_map_or (λ project. nat_lt project.quota (project.charge + size)) (held_project name)
    false

-- ---- questions on the request

-- whether the texts that a request brings are valid
abbrev pub brings_text : Request → Bool
brings_text (Upload file sha256 body requires) = is_text requires
brings_text (Yank name release reason) = is_text reason
brings_text (OpenCase name kind contact work why) =
    is_evidence contact && is_evidence work && is_evidence why
brings_text request = true

-- whether the body has more bytes than a file may have
abbrev pub is_too_large : Request → Bool
is_too_large (Upload file sha256 body requires) = nat_lt largest_body (length body)
is_too_large request = false

-- whether the body's digest is not the declared one
abbrev pub is_mismatched : Request → Bool
is_mismatched (Upload file declared body requires) =
    option_map_or (λ digest. not (same digest (sha256 body))) (read_digest declared) false
is_mismatched request = false

-- whether the quota is above the largest one
abbrev pub is_quota_too_large : Request → Bool
is_quota_too_large (SetQuota name quota) = nat_lt largest_quota quota
is_quota_too_large request = false

-- whether the quota is below the charge of the name
abbrev pub is_quota_below_charge : Request → Facts → Bool
is_quota_below_charge (SetQuota name quota) facts =
    option_map_or (λ project. nat_lt quota project.charge) (held_project facts.name) false
is_quota_below_charge request facts = false

-- whether the file name is bound to another digest or size
abbrev pub uploads_other_file : Request → Facts → Bool
uploads_other_file (Upload file declared body requires) facts =
    is_other_file (read_digest declared) (length body) facts.file
uploads_other_file request facts = false

-- whether the body would bring the charge of its project above the quota
abbrev pub uploads_over_quota : Request → Facts → Bool
uploads_over_quota (Upload file sha256 body requires) facts =
    not (is_undeleted facts.file) && exceeds_quota (length body) facts.name
uploads_over_quota request facts = false

-- whether the caller closes a case, having opened it
abbrev pub closes_own_case : Request → Facts → Bool
closes_own_case (CloseCase name) facts =
    option_map_or
    (λ case. option_map_or (λ caller. same case.candidate caller.user) facts.caller false)
    facts.case false
closes_own_case request facts = false

-- whether this fault prevents a transfer, by the case, the latest upload, the statement and the
-- moment
abbrev pub hinders : ℕ → Request → Facts → CaseFault → Bool
hinders at (Transfer name quiet) facts fault =
    option_map_or
    (λ case. option_map_or (λ project. stands_against case.state project.last_upload quiet at fault)
    (held_project facts.name) false)
    facts.case false
hinders at request facts fault = false

-- the refusal for what prevents a transfer, or a further attempt
abbrev pub refusal_of : CaseFault → Refusal
refusal_of case_fault.AttemptsFull = AttemptsFull
refusal_of case_fault.TooFewAttempts = TooFewAttempts
refusal_of case_fault.TooEarly = TooEarly
refusal_of case_fault.RecentRelease = RecentRelease
refusal_of case_fault.HomePageActive = HomePageActive

-- ---- the verdict

-- whether a request that nothing refuses would change nothing
abbrev pub is_already : Request → Facts → Bool
is_already (AddUser user office token) facts =
    option_map_or (is_user_with office (read_token token)) facts.user false
is_already (SetToken user token) facts = bears (read_token token) facts.user
is_already (SetQuota name quota) facts =
    option_map_or (λ project. quota == project.quota) (held_project facts.name) false
is_already (Claim name) facts = facts.owns
is_already (AddOwner name user) facts = facts.named_owns
is_already (RemoveOwner name user) facts = not facts.named_owns
is_already (Upload file sha256 body requires) facts = is_undeleted facts.file
is_already (Delete file) facts = not (is_undeleted facts.file)
is_already (BanFile file) facts = facts.is_banned
is_already (Yank name release reason) facts = option_map_or (same reason) facts.yank false
is_already (Unyank name release) facts = is_none facts.yank
is_already (Relinquish name) facts = false
is_already (Prohibit name) facts = is_prohibited facts.name
is_already (Allow name) facts = not (is_prohibited facts.name)
is_already (OpenCase name kind contact work why) facts = false
is_already (RecordAttempt name means sent) facts = false
is_already (Transfer name quiet) facts = false
is_already (CloseCase name) facts = false
is_already (AnswerCase name) facts = false

-- whether a refusal applies to a request at a moment
abbrev pub applies : ℕ → Request → Facts → Refusal → Bool
applies at request facts BadMoment = nat_lt last_moment at
applies at request facts BadToken = is_none facts.caller
applies at request facts NotOffice = not (is_of_office facts) && not (closes_own_case request facts)
applies at request facts BadUser = is_none (user_key request)
applies at request facts BadName = is_none (name_key request)
applies at request facts BadFileName = is_none (file_key request)
applies at request facts BadRelease = is_none (release_key request)
applies at request facts BadText = not (brings_text request)
applies at request facts BadDigest = is_none (declared_digest request)
applies at request facts TooLarge = is_too_large request
applies at request facts DigestMismatch = is_mismatched request
applies at request facts QuotaTooLarge = is_quota_too_large request
applies at request facts NoUser = is_none facts.user
applies at request facts UserExists = is_some facts.user && not (is_already request facts)
applies at request facts TokenTaken = is_taken facts.bearer (user_key request)
applies at request facts NameProhibited = is_prohibited facts.name
applies at request facts NoProject = not (is_held facts.name)
applies at request facts NotOwner = not facts.owns
applies at request facts NameHeld = is_held facts.name && not facts.owns
applies at request facts LastOwner = facts.sole
applies at request facts FilesRemain = has_files facts.name
applies at request facts NoFile = is_none facts.file
applies at request facts NoRelease = not facts.has_release
applies at request facts FileNameTaken = uploads_other_file request facts
applies at request facts FileBanned = facts.is_banned
applies at request facts OverQuota = uploads_over_quota request facts
applies at request facts QuotaBelowCharge = is_quota_below_charge request facts
applies at request facts CaseOpen = is_some facts.case
applies at request facts OwnerCandidate = facts.owns
applies at request facts NoCase = is_none facts.case
applies at request facts AttemptsFull = option_map_or (λ case. is_full case.state) facts.case false
applies at request facts TooFewAttempts = hinders at request facts case_fault.TooFewAttempts
applies at request facts TooEarly = hinders at request facts case_fault.TooEarly
applies at request facts RecentRelease = hinders at request facts case_fault.RecentRelease
applies at request facts HomePageActive = hinders at request facts case_fault.HomePageActive

-- the refusals of an upload whose parts are valid
abbrev pub file_refusals : List Refusal
file_refusals = NoProject ∷ NotOwner ∷ FileNameTaken ∷ FileBanned ∷ OverQuota ∷ []

-- the refusals that a request can meet besides BadMoment and BadToken, least first
abbrev pub refusals_of : Request → List Refusal
refusals_of (AddUser user office token) =
    NotOffice ∷ BadUser ∷ BadDigest ∷ UserExists ∷ TokenTaken ∷ []
refusals_of (SetToken user token) = NotOffice ∷ BadUser ∷ BadDigest ∷ NoUser ∷ TokenTaken ∷ []
refusals_of (SetQuota name quota) =
    NotOffice ∷ BadName ∷ QuotaTooLarge ∷ NoProject ∷ QuotaBelowCharge ∷ []
refusals_of (Claim name) = BadName ∷ NameProhibited ∷ NameHeld ∷ []
refusals_of (AddOwner name user) = BadUser ∷ BadName ∷ NoUser ∷ NoProject ∷ NotOwner ∷ []
refusals_of (RemoveOwner name user) =
    BadUser ∷ BadName ∷ NoUser ∷ NoProject ∷ NotOwner ∷ LastOwner ∷ []
refusals_of (Upload file sha256 body requires) =
    BadFileName ∷ BadText ∷ BadDigest ∷ TooLarge ∷ DigestMismatch ∷ file_refusals
refusals_of (Delete file) = BadFileName ∷ NoProject ∷ NotOwner ∷ NoFile ∷ []
refusals_of (BanFile file) = NotOffice ∷ BadFileName ∷ NoFile ∷ []
refusals_of (Yank name release reason) =
    BadName ∷ BadRelease ∷ BadText ∷ NoProject ∷ NotOwner ∷ NoRelease ∷ []
refusals_of (Unyank name release) = BadName ∷ BadRelease ∷ NoProject ∷ NotOwner ∷ NoRelease ∷ []
refusals_of (Relinquish name) = BadName ∷ NoProject ∷ NotOwner ∷ FilesRemain ∷ []
refusals_of (Prohibit name) = NotOffice ∷ BadName ∷ []
refusals_of (Allow name) = NotOffice ∷ BadName ∷ []
refusals_of (OpenCase name kind contact work why) =
    BadName ∷ BadText ∷ NoProject ∷ CaseOpen ∷ OwnerCandidate ∷ []
refusals_of (RecordAttempt name means sent) =
    NotOffice ∷ BadName ∷ NoProject ∷ NoCase ∷ AttemptsFull ∷ []
refusals_of (Transfer name quiet) =
    NotOffice ∷ BadName ∷ NoProject ∷ NoCase ∷ TooFewAttempts ∷ TooEarly ∷ RecentRelease
    ∷ HomePageActive ∷ []
refusals_of (CloseCase name) = NotOffice ∷ BadName ∷ NoProject ∷ NoCase ∷ []
refusals_of (AnswerCase name) = BadName ∷ NoProject ∷ NotOwner ∷ NoCase ∷ []

-- the verdict by the least refusal that applies, and by whether the tables are as the request asks
abbrev pub verdict_of : Option Refusal → Bool → Verdict
verdict_of (Some refusal) already = Refuse refusal
verdict_of None true = AlreadySo
verdict_of None false = Accept

-- the verdict on a call by the facts
abbrev pub verdict_on : Call → Facts → Verdict
verdict_on call facts =
    verdict_of
    (find (applies call.at call.request facts) (BadMoment ∷ BadToken ∷ refusals_of call.request))
    (is_already call.request facts)

-- the verdict on a call by the tables
abbrev pub verdict_now : Tables → Call → Verdict
verdict_now T call = verdict_on call (facts_in T call)
