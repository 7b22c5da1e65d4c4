-- The cause that an end prints on its second line, and its subject.
use Rattle.std.specs.Prelude.{◌≡◌, ◌⊎◌, [], if◌then◌else◌, Option, Some, None, is_some}
use Rattle.std.specs.Prelude.{option_and_then}
use Rattle.std.specs.Borrow.{Bor}
use Rattle.index_digest.specs.Digest.{read_digest, sha256}
use Rattle.index_rules.specs.declared.open.OpenFault.{OpenFault}
use Rattle.index_rules.specs.declared.open.OpenFault.TheVariants as open_fault
use Rattle.index_rules.specs.Maps.{Bytes}
use Rattle.index_rules.specs.Users.{read_user}
use Rattle.index_args.specs.declared.job.Job.{Job}
use Rattle.index_args.specs.declared.job.Job.TheVariants as job
use Rattle.index.specs.declared.cause.Cause.{Cause}
use Rattle.index.specs.declared.cause.Cause.TheVariants as cause
use Rattle.index.specs.declared.end.End.{End}
use Rattle.index.specs.declared.end.End.TheVariants as end
use Rattle.index.specs.Causes.{is_of_address}
use Rattle.index.specs.Jobs.{path_of_job}
use Rattle.index.specs.Openings.{IsBadFirstUserByHex}

-- the cause is true of a user and of the hex digits of a digest, with which no index is made
abbrev pub IsWhyBadFirstUser : Bytes → Bytes → Cause → Type 0
IsWhyBadFirstUser user digits told =
    ((told ≡ cause.NoDigest) × (read_digest digits ≡ None))
    ⊎ (((told ≡ cause.EmptyToken) × (read_digest digits ≡ Some (sha256 [])))
    ⊎ ((told ≡ cause.NoUserId) × (read_user user ≡ None)))

-- the cause of an init whose first user is not valid
abbrev pub InitPrintsCause : Job → Option Cause → Type 0
InitPrintsCause (job.Init paths user digits page_sums) told =
    IsBadFirstUserByHex user.now digits.now
    → (why : Cause) × (told ≡ Some why) × IsWhyBadFirstUser user.now digits.now why
InitPrintsCause asked told = told ≡ None

-- the path of the volume that a job is given
abbrev pub volume_of_job : Job → Option (Bor Bytes)
volume_of_job (job.Init paths user digits page_sums) = paths.volume
volume_of_job (job.Apply paths) = option_and_then (λ it. it.volume) paths
volume_of_job (job.Serve paths args) = paths.volume
volume_of_job (job.Report paths) = paths.volume
volume_of_job (job.Check paths) = paths.volume

-- the cause of an index of another version; with a volume, of another than 3
abbrev pub cause_of_version : Job → Cause
cause_of_version asked =
    if is_some (volume_of_job asked) then cause.WithoutVolume else cause.OtherVersion

-- the cause of a database that is not an index, or is one where a new one was to be made
abbrev pub cause_of_open : Job → OpenFault → Option Cause
cause_of_open asked open_fault.NotEmpty = Some cause.HasTables
cause_of_open asked open_fault.NotAnIndex = Some cause.NoIndex
cause_of_open asked open_fault.OtherVersion = Some (cause_of_version asked)
cause_of_open asked _ = None

-- the cause that a job prints of its end, if it is known
abbrev pub JobPrintsCause : Job → End → Option Cause → Type 0
JobPrintsCause asked (end.Store found) told = told ≡ found
JobPrintsCause asked (end.Volume found path) told = told ≡ found
JobPrintsCause asked (end.Listen why) told = told ≡ Some why
JobPrintsCause asked (end.Open open_fault.BadFirstUser) told = InitPrintsCause asked told
JobPrintsCause asked (end.Open fault) told = told ≡ cause_of_open asked fault
JobPrintsCause asked _ told = told ≡ None

-- the address of a server
abbrev pub address_of : Job → Option Bytes
address_of (job.Serve paths args) = Some args.listen.now
address_of asked = None

-- the subject of a cause: the address, or the path of the database
abbrev pub subject_of : Job → Cause → Option Bytes
subject_of asked why = if is_of_address why then address_of asked else path_of_job asked
