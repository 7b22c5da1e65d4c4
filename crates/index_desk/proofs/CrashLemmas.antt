-- What a crash may leave after a call.
use Rattle.index_desk.proofs.Words.{◌⊎◌, inl, inr, refl, subst, sym, List, [], ◌∷◌, ◌++◌, arith, Answer, Accepted, Already, Refused, Fault}
use Rattle.index_desk.proofs.Words.{Call, Tables, Runs, tables_after, History, StandsFor, IsLegal, CarriesOn-answer, AnswerLeavesTables}
use Rattle.index_desk.proofs.Words.{CallsLeave, HasCall, LastsAll, by_history, by_tables}
use Rattle.std.proofs.Common.{◌≢◌}
use Rattle.std.proofs.lemmas.List.Elements.{Contains-push_cases}
use Rattle.index_rules.specs.declared.answer.Fault.{Fault as FaultData}
use Rattle.index_rules.specs.Legal.{with_call}
use Rattle.index_desk.specs.Crashes.{Lasts}

-- more may be left if each of its two parts is more
pub Leaves-weaker : (before before' with_call with_call' : Tables → Type 0) → ((T : Tables) → before T → before' T)
    → ((T : Tables) → with_call T → with_call' T) → (answer : Answer) (T : Tables) → AnswerLeavesTables before with_call answer T
    → AnswerLeavesTables before' with_call' answer T
Leaves-weaker before before' with_call with_call' f g Accepted T left = g T left
Leaves-weaker before before' with_call with_call' f g Already T left = f T left
Leaves-weaker before before' with_call with_call' f g (Refused refusal) T left = f T left
Leaves-weaker before before' with_call with_call' f g (Fault fault) T left = elim left [ inl b ↦ inl (f T b) | inr w ↦ inr (g T w) ]

-- one more answer
pub LastsAll-push : (answers : List Answer) (answer : Answer) (first before after : Type 0) → LastsAll answers first before
    → Lasts answer before after → LastsAll (answers ++ answer ∷ []) first after
LastsAll-push [] Accepted first before after so_far last = λ _. last
LastsAll-push [] Already first before after so_far last = λ h. last (so_far h)
LastsAll-push [] (Refused refusal) first before after so_far last = λ h. last (so_far h)
LastsAll-push [] (Fault fault) first before after so_far last = λ none. absurd none
LastsAll-push (Accepted ∷ answers) answer first before after so_far last = LastsAll-push answers answer (Unit {0}) before after so_far last
LastsAll-push (Already ∷ answers) answer first before after so_far last = LastsAll-push answers answer first before after so_far last
LastsAll-push (Refused refusal ∷ answers) answer first before after so_far last =
    LastsAll-push answers answer first before after so_far last
LastsAll-push (Fault fault ∷ answers) answer first before after so_far last = LastsAll-push answers answer ⊥ before after so_far last

-- what follows from honesty
pub LastsAll-weaker : (answers : List Answer) (first after after' : Type 0) → (after → after') → LastsAll answers first after
    → LastsAll answers first after'
LastsAll-weaker [] first after after' f lasts = λ h. f (lasts h)
LastsAll-weaker (Accepted ∷ answers) first after after' f lasts = LastsAll-weaker answers (Unit {0}) after after' f lasts
LastsAll-weaker (Already ∷ answers) first after after' f lasts = LastsAll-weaker answers first after after' f lasts
LastsAll-weaker (Refused refusal ∷ answers) first after after' f lasts = LastsAll-weaker answers first after after' f lasts
LastsAll-weaker (Fault fault ∷ answers) first after after' f lasts = LastsAll-weaker answers ⊥ after after' f lasts

-- what it was honest by before
pub Lasts-earlier : (answer : Answer) (first before after : Type 0) → (first → before) → Lasts answer before after
    → Lasts answer first after
Lasts-earlier Accepted first before after f lasts = lasts
Lasts-earlier Already first before after f lasts = λ h. lasts (f h)
Lasts-earlier (Refused refusal) first before after f lasts = λ h. lasts (f h)
Lasts-earlier (Fault fault) first before after f lasts = tt

-- ---- calls in a row, and one more

-- that was not accepted
pub CallsLeave-more : (T : Tables) (calls : List Call) (answers : List Answer) (call : Call) (answer : Answer) (T' : Tables)
    → answer ≢ Accepted → CallsLeave by_tables T calls answers T'
    → CallsLeave by_tables T (calls ++ call ∷ []) (answers ++ answer ∷ []) T'
CallsLeave-more T [] [] call Accepted T' other left = absurd (other refl)
CallsLeave-more T [] [] call Already T' other left = left
CallsLeave-more T [] [] call (Refused refusal) T' other left = left
CallsLeave-more T [] [] call (Fault fault) T' other left = inl left
CallsLeave-more T [] (b ∷ answers) call answer T' other left = absurd left
CallsLeave-more T (d ∷ calls) [] call answer T' other left = absurd left
CallsLeave-more T (d ∷ calls) (Accepted ∷ answers) call answer T' other left =
    (left.0, CallsLeave-more (tables_after T d Accepted) calls answers call answer T' other left.1)
CallsLeave-more T (d ∷ calls) (Already ∷ answers) call answer T' other left = CallsLeave-more T calls answers call answer T' other left
CallsLeave-more T (d ∷ calls) (Refused refusal ∷ answers) call answer T' other left =
    CallsLeave-more T calls answers call answer T' other left
CallsLeave-more T (d ∷ calls) (Fault fault ∷ answers) call answer T' other left = elim left [
  | inl rest ↦ inl (CallsLeave-more T calls answers call answer T' other rest)
  | inr it ↦ inr (
    (λ found. elim (Contains-push_cases answers answer Accepted found) [ inl there ↦ it.0 there | inr this ↦ other this ]),
    it.1,
  )
]

-- that was accepted
pub CallsLeave-accepted : (T : Tables) (calls : List Call) (answers : List Answer) (between : Tables) (call : Call) (T' : Tables)
    → Runs T calls answers between → HasCall by_tables between call T'
    → CallsLeave by_tables T (calls ++ call ∷ []) (answers ++ Accepted ∷ []) T'
CallsLeave-accepted T [] [] between call T' run is = subst (λ x. HasCall by_tables x call T') run is
CallsLeave-accepted T [] (b ∷ answers) between call T' run is = absurd run
CallsLeave-accepted T (d ∷ calls) [] between call T' run is = absurd run
CallsLeave-accepted T (d ∷ calls) (Accepted ∷ answers) between call T' run is =
    (run.0, CallsLeave-accepted (tables_after T d Accepted) calls answers between call T' run.1 is)
CallsLeave-accepted T (d ∷ calls) (Already ∷ answers) between call T' run is = CallsLeave-accepted T calls answers between call T' run.1 is
CallsLeave-accepted T (d ∷ calls) (Refused refusal ∷ answers) between call T' run is =
    CallsLeave-accepted T calls answers between call T' run.1 is
CallsLeave-accepted T (d ∷ calls) (Fault fault ∷ answers) between call T' run is =
    inl (CallsLeave-accepted T calls answers between call T' run.1 is)

-- to which a fault was answered, if it is left
pub CallsLeave-fault : (T : Tables) (calls : List Call) (answers : List Answer) (between : Tables) (call : Call) (fault : FaultData)
    (T' : Tables) → Runs T calls answers between → HasCall by_tables between call T'
    → CallsLeave by_tables T (calls ++ call ∷ []) (answers ++ Fault fault ∷ []) T'
CallsLeave-fault T [] [] between call fault T' run is =
    inr ((λ found. absurd (omega (arith, found.1))), subst (λ x. HasCall by_tables x call T') run is)
CallsLeave-fault T [] (b ∷ answers) between call fault T' run is = absurd run
CallsLeave-fault T (d ∷ calls) [] between call fault T' run is = absurd run
CallsLeave-fault T (d ∷ calls) (Accepted ∷ answers) between call fault T' run is =
    (run.0, CallsLeave-fault (tables_after T d Accepted) calls answers between call fault T' run.1 is)
CallsLeave-fault T (d ∷ calls) (Already ∷ answers) between call fault T' run is =
    CallsLeave-fault T calls answers between call fault T' run.1 is
CallsLeave-fault T (d ∷ calls) (Refused refusal ∷ answers) between call fault T' run is =
    CallsLeave-fault T calls answers between call fault T' run.1 is
CallsLeave-fault T (d ∷ calls) (Fault b ∷ answers) between call fault T' run is =
    inl (CallsLeave-fault T calls answers between call fault T' run.1 is)

-- whatever was answered: `before` is what could be left before the call
pub CallsLeave-push : (T : Tables) (calls : List Call) (answers : List Answer) (between : Tables) (call : Call) (answer : Answer)
    (before : Tables → Type 0) (honest honest' : Type 0) (T' : Tables)
    → (honest → Runs T calls answers between) → ((U : Tables) → before U → CallsLeave by_tables T calls answers U)
    → Lasts answer honest honest' → (honest' → honest) → before T' ⊎ honest
    → (honest → AnswerLeavesTables before (HasCall by_tables between call) answer T')
    → CallsLeave by_tables T (calls ++ call ∷ []) (answers ++ answer ∷ []) T'
CallsLeave-push T calls answers between call Accepted before honest honest' T' runs earlier lasts back either leaves =
    CallsLeave-accepted T calls answers between call T' (runs (back lasts)) (leaves (back lasts))
CallsLeave-push T calls answers between call Already before honest honest' T' runs earlier lasts back either leaves =
    CallsLeave-more T calls answers call Already T' (λ h. absurd (cc)) (earlier T' (elim either [ inl b ↦ b | inr h ↦ leaves h ]))
CallsLeave-push T calls answers between call (Refused refusal) before honest honest' T' runs earlier lasts back either leaves =
    CallsLeave-more T calls answers call (Refused refusal) T' (λ h. absurd (cc)) (earlier T' (elim either [ inl b ↦ b | inr h ↦ leaves h ]))
CallsLeave-push T calls answers between call (Fault fault) before honest honest' T' runs earlier lasts back either leaves =
    let more = λ (b : before T'). CallsLeave-more T calls answers call (Fault fault) T' (λ h. absurd (cc)) (earlier T' b) in
    elim either [
      | inl b ↦ more b
      | inr h ↦ elim (leaves h) [ inl b ↦ more b | inr w ↦ CallsLeave-fault T calls answers between call fault T' (runs h) w ]
    ]

-- tables that are left stand for a legal history
pub CallsLeave-by_history : (h : History) → IsLegal h → (T : Tables) → StandsFor T h
    → (calls : List Call) (answers : List Answer) (T' : Tables) → CallsLeave by_tables T calls answers T'
    → CallsLeave by_history h calls answers T'
CallsLeave-by_history h legal T stands [] [] T' left = (legal, subst (λ x. StandsFor x h) (sym left) stands)
CallsLeave-by_history h legal T stands [] (b ∷ answers) T' left = absurd left
CallsLeave-by_history h legal T stands (d ∷ calls) [] T' left = absurd left
CallsLeave-by_history h legal T stands (d ∷ calls) (Accepted ∷ answers) T' left =
    let it = CarriesOn-answer h legal T stands d Accepted (tables_after T d Accepted) (λ _. left.0) (λ _. refl) in
    (it.verdict, CallsLeave-by_history (with_call h d) it.legal (tables_after T d Accepted) it.stands calls answers T' left.1)
CallsLeave-by_history h legal T stands (d ∷ calls) (Already ∷ answers) T' left =
    CallsLeave-by_history h legal T stands calls answers T' left
CallsLeave-by_history h legal T stands (d ∷ calls) (Refused refusal ∷ answers) T' left =
    CallsLeave-by_history h legal T stands calls answers T' left
CallsLeave-by_history h legal T stands (d ∷ calls) (Fault fault ∷ answers) T' left = elim left [
  | inl rest ↦ inl (CallsLeave-by_history h legal T stands calls answers T' rest)
  | inr it ↦ let with = CarriesOn-answer h legal T stands d Accepted T' (λ _. it.1.0) (λ _. it.1.1) in
      inr (it.0, (with.verdict, (with.legal, with.stands)))
]
