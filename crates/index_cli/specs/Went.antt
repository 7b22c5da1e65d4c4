-- Exchanges that were answered by the rules, and those after a fault that shut the store.
use Rattle.std.specs.Prelude.{◌≡◌, ◌≢◌, ◌⊎◌, List, [], ◌∷◌, ◌++◌, true}
use Rattle.index_rules.specs.declared.answer.Answer.TheVariants.{Accepted}
use Rattle.index_rules.specs.Tables.{Tables}
use Rattle.index_desk.specs.Crashes.{HasCall}
use Rattle.index_desk.specs.Rules.{Rules}
use Rattle.index_desk.specs.Takes.{answers_fault}
use Rattle.index_cli.specs.Connections.{Exchange}
use Rattle.index_cli.specs.Serving.{AsksOne, ExchangeShowsFailure, ExchangesAreAnswered}

-- an exchange whose call, if any, was not accepted
abbrev pub AcceptsNothing : Exchange → Type 0
AcceptsNothing exchange = AsksOne exchange (Unit {0}) (λ call answer. answer ≢ Accepted)

-- exchanges, newest first, of which no call was accepted, and the oldest shows a failure
abbrev pub BeginsByFailure : {S : Type 0} → Rules S → List Exchange → S → Type 0
BeginsByFailure rules [] s = ⊥
BeginsByFailure rules (exchange ∷ earlier) s =
    AcceptsNothing exchange
    × (((earlier ≡ []) × ExchangeShowsFailure rules exchange s) ⊎ BeginsByFailure rules earlier s)

-- one of these exchanges asked for a call that was answered by a fault, and these tables have it
abbrev pub MayHaveMade : {S : Type 0} → Rules S → List Exchange → S → Tables → Type 0
MayHaveMade rules [] s T' = ⊥
MayHaveMade rules (exchange ∷ earlier) s T' =
    AsksOne exchange ⊥ (λ call answer. (answers_fault answer ≡ true) × HasCall rules s call T')
    ⊎ MayHaveMade rules earlier s T'

-- Exchanges, newest first. The earlier ones were answered by the rules. The later ones are those
-- after a fault that shut the store, if one did.
pub record Went {S : Type 0} (rules : Rules S) (exchanges : List Exchange) (s : S)
    (MayLeave : Tables → Type 0) : Type 0 where
  pub later : List Exchange
  pub earlier : List Exchange
  pub all : exchanges ≡ later ++ earlier
  pub reached : S
  pub answered : ExchangesAreAnswered rules earlier s reached
  pub shut : (later ≡ []) ⊎ BeginsByFailure rules later reached
  -- a crash leaves the tables that were reached, or these and one call of the later ones
  pub crash : (T : Tables) → MayLeave T
      → rules.Shows reached T ⊎ MayHaveMade rules later reached T
