-- What a crash may leave after a call, and whether the store is honest after it.
use Rattle.std.specs.Prelude.{◌≡◌, ◌⊎◌, List, [], ◌∷◌, Contains}
use Rattle.index_rules.specs.declared.answer.Answer.{Answer}
use Rattle.index_rules.specs.declared.answer.Answer.TheVariants.{Accepted, Already, Refused, Fault}
use Rattle.index_rules.specs.declared.call.Call.{Call}
use Rattle.index_rules.specs.Tables.{Tables}
use Rattle.index_rules.specs.Verdict.{Accept}
use Rattle.index_desk.specs.Rules.{Rules}

-- The tables that a crash may leave after an answer. If the call was accepted, they have it. After
-- a fault they may have it or be as before. Else they are as before.
abbrev pub AnswerLeavesTables : (Tables → Type 0) → (Tables → Type 0) → Answer → Tables → Type 0
AnswerLeavesTables before with_call Accepted T' = with_call T'
AnswerLeavesTables before with_call Already T' = before T'
AnswerLeavesTables before with_call (Refused refusal) T' = before T'
AnswerLeavesTables before with_call (Fault fault) T' = before T' ⊎ with_call T'

-- the rules accept the call, and these tables have it
abbrev pub HasCall : {S : Type 0} → Rules S → S → Call → Tables → Type 0
HasCall rules s call T' =
    (rules.verdict s call ≡ Accept) × rules.Shows (rules.next s call Accepted) T'

-- Whether the store is honest after an answer. If the call was accepted, it is. After a fault
-- nothing is known. Else it is if it was before.
abbrev pub Lasts : Answer → Type 0 → Type 0 → Type 0
Lasts Accepted before after = after
Lasts Already before after = before → after
Lasts (Refused refusal) before after = before → after
Lasts (Fault fault) before after = Unit {0}

-- whether the store is honest after answers in a row: it is if no fault was answered since the last
-- accepted call, or since the first call of a store that was honest before
abbrev pub LastsAll : List Answer → Type 0 → Type 0 → Type 0
LastsAll [] before after = before → after
LastsAll (Accepted ∷ answers) before after = LastsAll answers (Unit {0}) after
LastsAll (Already ∷ answers) before after = LastsAll answers before after
LastsAll (Refused refusal ∷ answers) before after = LastsAll answers before after
LastsAll (Fault fault ∷ answers) before after = LastsAll answers ⊥ after

-- the tables that a crash may leave after calls in a row: those after the accepted calls, or after
-- these and one call that was answered with a fault after the last of them
abbrev pub CallsLeave : {S : Type 0} → Rules S → S → List Call → List Answer → Tables → Type 0
CallsLeave rules s [] [] T' = rules.Shows s T'
CallsLeave rules s [] (answer ∷ answers) T' = ⊥
CallsLeave rules s (call ∷ calls) [] T' = ⊥
CallsLeave rules s (call ∷ calls) (Accepted ∷ answers) T' =
    (rules.verdict s call ≡ Accept)
    × CallsLeave rules (rules.next s call Accepted) calls answers T'
CallsLeave rules s (call ∷ calls) (Already ∷ answers) T' = CallsLeave rules s calls answers T'
CallsLeave rules s (call ∷ calls) (Refused refusal ∷ answers) T' =
    CallsLeave rules s calls answers T'
CallsLeave rules s (call ∷ calls) (Fault fault ∷ answers) T' =
    CallsLeave rules s calls answers T'
    ⊎ ((¬ Contains answers Accepted) × HasCall rules s call T')
