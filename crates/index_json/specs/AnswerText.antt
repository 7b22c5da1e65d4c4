-- The text of an answer: compact JSON with keys in byte order.
use Rattle.std.specs.Prelude.{ℕ, List, codes}
use Rattle.serde_json.specs.Data.{Data, number, unsigned, string, object, Members, no_members}
use Rattle.serde_json.specs.Data.{member}
use Rattle.serde_json.specs.Written.{compact_text}
use Rattle.index_rules.specs.declared.answer.Answer.{Answer}
use Rattle.index_rules.specs.declared.answer.Answer.TheVariants as answer
use Rattle.index_rules.specs.declared.answer.Fault.{Fault}
use Rattle.index_rules.specs.declared.answer.Fault.TheVariants.{OutOfMemory, Store}
use Rattle.index_rules.specs.declared.answer.Refusal.{Refusal}
use Rattle.index_rules.specs.declared.answer.Refusal.TheVariants.{BadMoment, BadToken, NotOffice}
use Rattle.index_rules.specs.declared.answer.Refusal.TheVariants.{BadUser, BadName, BadFileName}
use Rattle.index_rules.specs.declared.answer.Refusal.TheVariants.{BadRelease, BadText, BadDigest}
use Rattle.index_rules.specs.declared.answer.Refusal.TheVariants.{TooLarge, DigestMismatch}
use Rattle.index_rules.specs.declared.answer.Refusal.TheVariants.{QuotaTooLarge, NoUser, UserExists}
use Rattle.index_rules.specs.declared.answer.Refusal.TheVariants.{TokenTaken, NameProhibited}
use Rattle.index_rules.specs.declared.answer.Refusal.TheVariants.{NoProject, NotOwner, NameHeld}
use Rattle.index_rules.specs.declared.answer.Refusal.TheVariants.{LastOwner, FilesRemain, NoFile}
use Rattle.index_rules.specs.declared.answer.Refusal.TheVariants.{NoRelease, FileNameTaken}
use Rattle.index_rules.specs.declared.answer.Refusal.TheVariants.{FileBanned, OverQuota}
use Rattle.index_rules.specs.declared.answer.Refusal.TheVariants.{QuotaBelowCharge, CaseOpen}
use Rattle.index_rules.specs.declared.answer.Refusal.TheVariants.{OwnerCandidate, NoCase}
use Rattle.index_rules.specs.declared.answer.Refusal.TheVariants.{AttemptsFull, TooFewAttempts}
use Rattle.index_rules.specs.declared.answer.Refusal.TheVariants.{TooEarly, RecentRelease}
use Rattle.index_rules.specs.declared.answer.Refusal.TheVariants.{HomePageActive}
use Rattle.index_rules.specs.Refusals.{number_of}

-- the name of a refusal in the text of an answer
abbrev pub refusal_name : Refusal → List ℕ
refusal_name BadMoment = codes "BadMoment"
refusal_name BadToken = codes "BadToken"
refusal_name NotOffice = codes "NotOffice"
refusal_name BadUser = codes "BadUser"
refusal_name BadName = codes "BadName"
refusal_name BadFileName = codes "BadFileName"
refusal_name BadRelease = codes "BadRelease"
refusal_name BadText = codes "BadText"
refusal_name BadDigest = codes "BadDigest"
refusal_name TooLarge = codes "TooLarge"
refusal_name DigestMismatch = codes "DigestMismatch"
refusal_name QuotaTooLarge = codes "QuotaTooLarge"
refusal_name NoUser = codes "NoUser"
refusal_name UserExists = codes "UserExists"
refusal_name TokenTaken = codes "TokenTaken"
refusal_name NameProhibited = codes "NameProhibited"
refusal_name NoProject = codes "NoProject"
refusal_name NotOwner = codes "NotOwner"
refusal_name NameHeld = codes "NameHeld"
refusal_name LastOwner = codes "LastOwner"
refusal_name FilesRemain = codes "FilesRemain"
refusal_name NoFile = codes "NoFile"
refusal_name NoRelease = codes "NoRelease"
refusal_name FileNameTaken = codes "FileNameTaken"
refusal_name FileBanned = codes "FileBanned"
refusal_name OverQuota = codes "OverQuota"
refusal_name QuotaBelowCharge = codes "QuotaBelowCharge"
refusal_name CaseOpen = codes "CaseOpen"
refusal_name OwnerCandidate = codes "OwnerCandidate"
refusal_name NoCase = codes "NoCase"
refusal_name AttemptsFull = codes "AttemptsFull"
refusal_name TooFewAttempts = codes "TooFewAttempts"
refusal_name TooEarly = codes "TooEarly"
refusal_name RecentRelease = codes "RecentRelease"
refusal_name HomePageActive = codes "HomePageActive"

-- the name of a fault in the text of an answer
abbrev pub fault_name : Fault → List ℕ
fault_name OutOfMemory = codes "OutOfMemory"
fault_name Store = codes "Store"

-- an answer of this kind, with further members
abbrev pub kind_value : List ℕ → Members → Data
kind_value kind more = object (member (codes "answer") (string kind) more)

-- the member with the name of a refusal or a fault
abbrev pub name_member : List ℕ → Members
name_member name = member (codes "name") (string name) no_members

-- an answer as a JSON object
abbrev pub answer_value : Answer → Data
answer_value answer.Accepted = kind_value (codes "accepted") no_members
answer_value answer.Already = kind_value (codes "already") no_members
answer_value (answer.Refused refusal) = kind_value (codes "refused")
    (member (codes "code") (number (unsigned (number_of refusal)))
    (name_member (refusal_name refusal)))
answer_value (answer.Fault fault) = kind_value (codes "fault") (name_member (fault_name fault))

-- the text of an answer: its object, printed compactly
unfoldable pub answer_text_of : Answer → List ℕ
answer_text_of answer = compact_text (answer_value answer)

-- the answer to a malformed message, with the name of its fault
unfoldable pub message_text_of : List ℕ → List ℕ
message_text_of name = compact_text (kind_value (codes "message") (name_member name))

-- the answer to a malformed line or body
unfoldable pub bad_body_text : List ℕ
bad_body_text = message_text_of (codes "BadBody")
