-- The statuses of replies (RFC 9110, section 15).
use Rattle.std.specs.Prelude.{ℕ, Bool, true, false}
use Rattle.index_rules.specs.declared.answer.Answer.{Answer}
use Rattle.index_rules.specs.declared.answer.Answer.TheVariants as answer
use Rattle.index_rules.specs.declared.answer.Fault.TheVariants.{OutOfMemory, Store}
use Rattle.index_rules.specs.declared.answer.Refusal.{Refusal}
use Rattle.index_rules.specs.declared.answer.Refusal.TheVariants.{BadMoment, BadToken, NotOffice}
use Rattle.index_rules.specs.declared.answer.Refusal.TheVariants.{BadUser, BadName, BadFileName}
use Rattle.index_rules.specs.declared.answer.Refusal.TheVariants.{BadRelease, BadText, BadDigest}
use Rattle.index_rules.specs.declared.answer.Refusal.TheVariants.{TooLarge, DigestMismatch}
use Rattle.index_rules.specs.declared.answer.Refusal.TheVariants.{QuotaTooLarge, NoUser, UserExists}
use Rattle.index_rules.specs.declared.answer.Refusal.TheVariants.{TokenTaken, NameProhibited}
use Rattle.index_rules.specs.declared.answer.Refusal.TheVariants.{NoProject, NotOwner, NameHeld}
use Rattle.index_rules.specs.declared.answer.Refusal.TheVariants.{LastOwner, FilesRemain, NoFile}
use Rattle.index_rules.specs.declared.answer.Refusal.TheVariants.{NoRelease, FileNameTaken}
use Rattle.index_rules.specs.declared.answer.Refusal.TheVariants.{FileBanned, OverQuota}
use Rattle.index_rules.specs.declared.answer.Refusal.TheVariants.{QuotaBelowCharge, CaseOpen}
use Rattle.index_rules.specs.declared.answer.Refusal.TheVariants.{OwnerCandidate, NoCase}
use Rattle.index_rules.specs.declared.answer.Refusal.TheVariants.{AttemptsFull, TooFewAttempts}
use Rattle.index_rules.specs.declared.answer.Refusal.TheVariants.{TooEarly, RecentRelease}
use Rattle.index_rules.specs.declared.answer.Refusal.TheVariants.{HomePageActive}
use Rattle.index_message.specs.declared.fault.MessageFault.{MessageFault}
use Rattle.index_message.specs.declared.fault.MessageFault.TheVariants.{BadHead, NoRoute, BadMethod}
use Rattle.index_message.specs.declared.fault.MessageFault.TheVariants.{BadLength, NoLength}
use Rattle.index_message.specs.declared.fault.MessageFault.TheVariants.{BodyTooLarge, ShortBody}
use Rattle.index_message.specs.declared.fault.MessageFault.TheVariants.{BadBody, NotAcceptable}

-- the status of each refusal, in the order of the refusals' numbers
abbrev pub status_of_refusal : Refusal → ℕ
status_of_refusal BadMoment = 400
status_of_refusal BadToken = 401
status_of_refusal NotOffice = 403
status_of_refusal BadUser = 400
status_of_refusal BadName = 400
status_of_refusal BadFileName = 400
status_of_refusal BadRelease = 400
status_of_refusal BadText = 400
status_of_refusal BadDigest = 400
status_of_refusal TooLarge = 413
status_of_refusal DigestMismatch = 422
status_of_refusal QuotaTooLarge = 400
status_of_refusal NoUser = 404
status_of_refusal UserExists = 409
status_of_refusal TokenTaken = 409
status_of_refusal NameProhibited = 403
status_of_refusal NoProject = 404
status_of_refusal NotOwner = 403
status_of_refusal NameHeld = 409
status_of_refusal LastOwner = 409
status_of_refusal FilesRemain = 409
status_of_refusal NoFile = 404
status_of_refusal NoRelease = 404
status_of_refusal FileNameTaken = 409
status_of_refusal FileBanned = 403
status_of_refusal OverQuota = 403
status_of_refusal QuotaBelowCharge = 409
status_of_refusal CaseOpen = 409
status_of_refusal OwnerCandidate = 409
status_of_refusal NoCase = 409
status_of_refusal AttemptsFull = 409
status_of_refusal TooFewAttempts = 409
status_of_refusal TooEarly = 409
status_of_refusal RecentRelease = 409
status_of_refusal HomePageActive = 409

-- the status of the answer to a call, by whether its method is `PUT`: a `PUT` creates (RFC 9110,
-- section 9.3.4)
abbrev pub status_of_answer : Bool → Answer → ℕ
status_of_answer true answer.Accepted = 201
status_of_answer false answer.Accepted = 200
status_of_answer is_put answer.Already = 200
status_of_answer is_put (answer.Refused refusal) = status_of_refusal refusal
status_of_answer is_put (answer.Fault OutOfMemory) = 503
status_of_answer is_put (answer.Fault Store) = 500

-- the status of a message that the index does not serve
abbrev pub status_of_fault : MessageFault → ℕ
status_of_fault BadHead = 400
status_of_fault NoRoute = 404
status_of_fault (BadMethod allowed) = 405
status_of_fault BadLength = 400
status_of_fault NoLength = 411
status_of_fault BodyTooLarge = 413
status_of_fault ShortBody = 400
status_of_fault BadBody = 400
status_of_fault NotAcceptable = 406
