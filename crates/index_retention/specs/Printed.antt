-- What the faults print.
use Rattle.std.specs.Prelude.{ℕ, List, codes}
use Rattle.index_retention.specs.declared.fault.CaseFault.{CaseFault}
use Rattle.index_retention.specs.declared.fault.CaseFault.TheVariants.{AttemptsFull, TooFewAttempts}
use Rattle.index_retention.specs.declared.fault.CaseFault.TheVariants.{TooEarly, RecentRelease}
use Rattle.index_retention.specs.declared.fault.CaseFault.TheVariants.{HomePageActive}

-- what prevents a transfer, or a further attempt
abbrev pub case_fault_text : CaseFault → List ℕ
case_fault_text AttemptsFull = codes "the case has 1,000 attempts"
case_fault_text TooFewAttempts = codes "too few attempts to reach the owner"
case_fault_text TooEarly = codes "less than six weeks since the first attempt"
case_fault_text RecentRelease = codes "an upload in the last twelve months"
case_fault_text HomePageActive = codes "the owner's home page may show activity"
