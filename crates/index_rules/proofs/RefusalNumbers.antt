-- A refusal is known by its number.
use Rattle.index_rules.proofs.Words.{◌≡◌, ℕ, ◌==◌, true, cond, refl, sym, ap, ◌∙◌, arith, nat_tests, Refusal, BadMoment, BadToken}
use Rattle.index_rules.proofs.Words.{NotOffice, BadUser, BadName, BadFileName, BadRelease, BadText, BadDigest, TooLarge, DigestMismatch}
use Rattle.index_rules.proofs.Words.{QuotaTooLarge, NoUser, UserExists, TokenTaken, NameProhibited, NoProject, NotOwner, NameHeld}
use Rattle.index_rules.proofs.Words.{LastOwner, FilesRemain, NoFile, NoRelease, FileNameTaken, FileBanned, OverQuota, QuotaBelowCharge}
use Rattle.index_rules.proofs.Words.{CaseOpen, NoCase, TooFewAttempts, TooEarly, RecentRelease, HomePageActive, number_of}
use Rattle.index_rules.specs.declared.answer.Refusal.TheVariants.{OwnerCandidate}
use Rattle.index_rules.specs.declared.answer.Refusal.TheVariants.{AttemptsFull}

abbrev refusal_numbered : ℕ → Refusal
refusal_numbered n =
    cond (n == 1) BadMoment (
    cond (n == 2) BadToken (
    cond (n == 3) NotOffice (
    cond (n == 4) BadUser (
    cond (n == 5) BadName (
    cond (n == 6) BadFileName (
    cond (n == 7) BadRelease (
    cond (n == 8) BadText (
    cond (n == 9) BadDigest (
    cond (n == 10) TooLarge (
    cond (n == 11) DigestMismatch (
    cond (n == 12) QuotaTooLarge (
    cond (n == 13) NoUser (
    cond (n == 14) UserExists (
    cond (n == 15) TokenTaken (
    cond (n == 16) NameProhibited (
    cond (n == 17) NoProject (
    cond (n == 18) NotOwner (
    cond (n == 19) NameHeld (
    cond (n == 20) LastOwner (
    cond (n == 21) FilesRemain (
    cond (n == 22) NoFile (
    cond (n == 23) NoRelease (
    cond (n == 24) FileNameTaken (
    cond (n == 25) FileBanned (
    cond (n == 26) OverQuota (
    cond (n == 27) QuotaBelowCharge (
    cond (n == 28) CaseOpen (
    cond (n == 29) OwnerCandidate (
    cond (n == 30) NoCase (
    cond (n == 31) AttemptsFull (
    cond (n == 32) TooFewAttempts (
    cond (n == 33) TooEarly (
    cond (n == 34) RecentRelease (
    HomePageActive))))))))))))))))))))))))))))))))))

refusal_numbered-number : (refusal : Refusal) → refusal_numbered (number_of refusal) ≡ refusal
refusal_numbered-number BadMoment = refl
refusal_numbered-number BadToken = refl
refusal_numbered-number NotOffice = refl
refusal_numbered-number BadUser = refl
refusal_numbered-number BadName = refl
refusal_numbered-number BadFileName = refl
refusal_numbered-number BadRelease = refl
refusal_numbered-number BadText = refl
refusal_numbered-number BadDigest = refl
refusal_numbered-number TooLarge = refl
refusal_numbered-number DigestMismatch = refl
refusal_numbered-number QuotaTooLarge = refl
refusal_numbered-number NoUser = refl
refusal_numbered-number UserExists = refl
refusal_numbered-number TokenTaken = refl
refusal_numbered-number NameProhibited = refl
refusal_numbered-number NoProject = refl
refusal_numbered-number NotOwner = refl
refusal_numbered-number NameHeld = refl
refusal_numbered-number LastOwner = refl
refusal_numbered-number FilesRemain = refl
refusal_numbered-number NoFile = refl
refusal_numbered-number NoRelease = refl
refusal_numbered-number FileNameTaken = refl
refusal_numbered-number FileBanned = refl
refusal_numbered-number OverQuota = refl
refusal_numbered-number QuotaBelowCharge = refl
refusal_numbered-number CaseOpen = refl
refusal_numbered-number OwnerCandidate = refl
refusal_numbered-number NoCase = refl
refusal_numbered-number AttemptsFull = refl
refusal_numbered-number TooFewAttempts = refl
refusal_numbered-number TooEarly = refl
refusal_numbered-number RecentRelease = refl
refusal_numbered-number HomePageActive = refl

numbers_are : (m n : ℕ) → (m == n) ≡ true → m ≡ n
numbers_are m n e = grind (arith, nat_tests)

pub number_of-is : (a b : Refusal) → (number_of a == number_of b) ≡ true → a ≡ b
number_of-is a b e =
    sym (refusal_numbered-number a) ∙ ap refusal_numbered (numbers_are (number_of a) (number_of b) e) ∙ refusal_numbered-number b
