-- The numbers of the refusals.
use Rattle.std.specs.Prelude.{ℕ}
use Rattle.index_rules.specs.declared.answer.Refusal.{Refusal}
use Rattle.index_rules.specs.declared.answer.Refusal.TheVariants.{BadMoment, BadToken, NotOffice}
use Rattle.index_rules.specs.declared.answer.Refusal.TheVariants.{BadUser, BadName, BadFileName}
use Rattle.index_rules.specs.declared.answer.Refusal.TheVariants.{BadRelease, BadText, BadDigest}
use Rattle.index_rules.specs.declared.answer.Refusal.TheVariants.{TooLarge, DigestMismatch}
use Rattle.index_rules.specs.declared.answer.Refusal.TheVariants.{QuotaTooLarge, NoUser, UserExists}
use Rattle.index_rules.specs.declared.answer.Refusal.TheVariants.{TokenTaken, NameProhibited}
use Rattle.index_rules.specs.declared.answer.Refusal.TheVariants.{NoProject, NotOwner, NameHeld}
use Rattle.index_rules.specs.declared.answer.Refusal.TheVariants.{LastOwner, FilesRemain, NoFile}
use Rattle.index_rules.specs.declared.answer.Refusal.TheVariants.{NoRelease, FileNameTaken}
use Rattle.index_rules.specs.declared.answer.Refusal.TheVariants.{FileBanned, OverQuota}
use Rattle.index_rules.specs.declared.answer.Refusal.TheVariants.{QuotaBelowCharge, CaseOpen}
use Rattle.index_rules.specs.declared.answer.Refusal.TheVariants.{OwnerCandidate, NoCase}
use Rattle.index_rules.specs.declared.answer.Refusal.TheVariants.{AttemptsFull, TooFewAttempts}
use Rattle.index_rules.specs.declared.answer.Refusal.TheVariants.{TooEarly, RecentRelease}
use Rattle.index_rules.specs.declared.answer.Refusal.TheVariants.{HomePageActive}

-- the number of a refusal; if several apply, the one with the least number is answered
abbrev pub number_of : Refusal → ℕ
number_of BadMoment = 1
number_of BadToken = 2
number_of NotOffice = 3
number_of BadUser = 4
number_of BadName = 5
number_of BadFileName = 6
number_of BadRelease = 7
number_of BadText = 8
number_of BadDigest = 9
number_of TooLarge = 10
number_of DigestMismatch = 11
number_of QuotaTooLarge = 12
number_of NoUser = 13
number_of UserExists = 14
number_of TokenTaken = 15
number_of NameProhibited = 16
number_of NoProject = 17
number_of NotOwner = 18
number_of NameHeld = 19
number_of LastOwner = 20
number_of FilesRemain = 21
number_of NoFile = 22
number_of NoRelease = 23
number_of FileNameTaken = 24
number_of FileBanned = 25
number_of OverQuota = 26
number_of QuotaBelowCharge = 27
number_of CaseOpen = 28
number_of OwnerCandidate = 29
number_of NoCase = 30
number_of AttemptsFull = 31
number_of TooFewAttempts = 32
number_of TooEarly = 33
number_of RecentRelease = 34
number_of HomePageActive = 35
