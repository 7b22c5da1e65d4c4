-- When a case is ready for a transfer, in the manner of PEP 541.
use Rattle.std.specs.Prelude.{ℕ, ◌≡◌, ◌+◌, ◌≤◌, Bool, true, false, ◌||◌, ◌&&◌, not, nat_lt, List}
use Rattle.std.specs.Prelude.{[], ◌∷◌, Option, IsTrue, IfSome, IsSomeAnd}
use Rattle.std.specs.List.{find}
use Rattle.std.specs.Option.{option_map_or}
use Rattle.index_retention.specs.declared.fault.CaseFault.{CaseFault}
use Rattle.index_retention.specs.declared.fault.CaseFault.TheVariants.{AttemptsFull, TooFewAttempts}
use Rattle.index_retention.specs.declared.fault.CaseFault.TheVariants.{TooEarly, RecentRelease}
use Rattle.index_retention.specs.declared.fault.CaseFault.TheVariants.{HomePageActive}
use Rattle.index_retention.specs.Attempts.{Tally}

-- six weeks as 42 days of 86,400 seconds
abbrev pub six_weeks : ℕ
six_weeks = 3628800

-- twelve months as 365 days, in seconds
abbrev pub twelve_months : ℕ
twelve_months = 31536000

-- how many attempts have to be sent
abbrev pub fewest_sent : ℕ
fewest_sent = 3

-- whether fewer than three attempts were sent, or one of the three means has no attempt
abbrev pub too_few_attempts : Tally → Bool
too_few_attempts tally =
    nat_lt tally.sent fewest_sent || not (tally.profile && tally.author && tally.pages)

-- whether the moment is less than six weeks after the first sent attempt
abbrev pub too_early : Tally → ℕ → Bool
too_early tally at = option_map_or (λ first. nat_lt at (first + six_weeks)) tally.first false

-- whether the moment is less than twelve months after the latest upload, if there is one
abbrev pub recent_release : Option ℕ → ℕ → Bool
recent_release last_upload at =
    option_map_or (λ uploaded. nat_lt at (uploaded + twelve_months)) last_upload false

-- whether the office doesn't state that the owner's home page is quiet
abbrev pub home_page_active : Bool → Bool
home_page_active quiet = not quiet

-- what may prevent a transfer, least first
abbrev pub transfer_faults : List CaseFault
transfer_faults = TooFewAttempts ∷ TooEarly ∷ RecentRelease ∷ HomePageActive ∷ []

-- whether this prevents a transfer
abbrev pub stands_against : Tally → Option ℕ → Bool → ℕ → CaseFault → Bool
stands_against tally last_upload quiet at AttemptsFull = false
stands_against tally last_upload quiet at TooFewAttempts = too_few_attempts tally
stands_against tally last_upload quiet at TooEarly = too_early tally at
stands_against tally last_upload quiet at RecentRelease = recent_release last_upload at
stands_against tally last_upload quiet at HomePageActive = home_page_active quiet

-- the least fault that prevents a transfer
abbrev pub transfer_fault : Tally → Option ℕ → Bool → ℕ → Option CaseFault
transfer_fault tally last_upload quiet at =
    find (stands_against tally last_upload quiet at) transfer_faults

-- a case is ready for a transfer: no fault prevents it
pub record IsReady (tally : Tally) (last_upload : Option ℕ) (quiet : Bool) (at : ℕ) : Type 0 where
  -- three attempts or more were sent
  pub sent : fewest_sent ≤ tally.sent
  -- each of the three means has an attempt, sent or not
  pub profile : tally.profile ≡ true
  pub author : tally.author ≡ true
  pub pages : tally.pages ≡ true
  -- six weeks or more have passed since the first attempt that was sent
  pub waited : IsSomeAnd tally.first (λ first. first + six_weeks ≤ at)
  -- twelve months or more have passed since the latest upload, if there is one
  pub no_release : IfSome last_upload (λ uploaded. uploaded + twelve_months ≤ at)
  -- the office states that the home page is quiet
  pub quiet_page : IsTrue quiet
