-- Lines that were answered by the rules, and those after a fault that shut the store.
use Rattle.std.specs.Prelude.{◌≡◌, ◌≢◌, ◌⊎◌, List, [], ◌∷◌, ◌++◌, ℕ, true}
use Rattle.index_rules.specs.declared.answer.Answer.TheVariants.{Accepted}
use Rattle.index_rules.specs.Tables.{Tables}
use Rattle.index_desk.specs.Crashes.{HasCall}
use Rattle.index_desk.specs.Rules.{Rules}
use Rattle.index_desk.specs.Takes.{answers_fault}
use Rattle.index_cli.specs.LineCalls.{AsksLine}
use Rattle.index_cli.specs.Lines.{line_feed}
use Rattle.index_cli.specs.Telling.{IsFaultText, TextAnswersLine, TextAnswersLines}

-- lines with the texts that answer them
abbrev pub Answered : Type 0
Answered = List (List ℕ × List ℕ)

abbrev pub lines_in : Answered → List (List ℕ)
lines_in [] = []
lines_in ((line, reply) ∷ more) = line ∷ lines_in more

-- the text that answers them, each answer with a line feed
abbrev pub text_by : Answered → List ℕ
text_by [] = []
text_by ((line, reply) ∷ more) = (reply ++ line_feed ∷ []) ++ text_by more

-- no call of these lines was accepted
abbrev pub AcceptNone : Answered → Type 0
AcceptNone [] = Unit {0}
AcceptNone ((line, reply) ∷ more) =
    AsksLine line reply (Unit {0}) (λ call answer. answer ≢ Accepted) × AcceptNone more

-- the first of these lines was answered by a fault
abbrev pub BeginsByFault : {S : Type 0} → Rules S → Answered → S → Type 0
BeginsByFault rules [] s = ⊥
BeginsByFault {S} rules ((line, reply) ∷ more) s =
    (between : S) × TextAnswersLine rules line s reply between × IsFaultText reply

-- one of these lines asked for a call that was answered by a fault, and these tables have it
abbrev pub LinesMayHaveMade : {S : Type 0} → Rules S → Answered → S → Tables → Type 0
LinesMayHaveMade rules [] s T' = ⊥
LinesMayHaveMade rules ((line, reply) ∷ more) s T' =
    AsksLine line reply ⊥ (λ call answer. (answers_fault answer ≡ true) × HasCall rules s call T')
    ⊎ LinesMayHaveMade rules more s T'

-- Lines and the text that answers them. The earlier ones were answered by the rules. The later ones
-- are those after a fault that shut the store, if one did.
pub record LinesWent {S : Type 0} (rules : Rules S) (lines : List (List ℕ)) (text : List ℕ) (s : S)
    (MayLeave : Tables → Type 0) : Type 0 where
  pub earlier : List (List ℕ)
  pub told : List ℕ
  pub later : Answered
  pub all : lines ≡ earlier ++ lines_in later
  pub whole : text ≡ told ++ text_by later
  pub reached : S
  pub answered : TextAnswersLines rules s earlier told reached
  pub none : AcceptNone later
  pub shut : (later ≡ []) ⊎ BeginsByFault rules later reached
  -- a crash leaves the tables that were reached, or these and one call of the later ones
  pub crash : (T : Tables) → MayLeave T
      → rules.Shows reached T ⊎ LinesMayHaveMade rules later reached T
