-- What goes as SQL answers, one after the other.
use Rattle.index_sql_writes.proofs.Words.{◌≡◌, ◌≤◌, inl, inr, ◌∙◌, List, [], ◌∷◌, ◌++◌, Option, Result, Ok, Err, arith, refl, subst}
use Rattle.index_sql_writes.proofs.Words.{MatchResult, MoreFaults, Error, Database, Outcome, State, AreRecords, Ask, CanAsk, SqlAnswersAsk}
use Rattle.index_sql_writes.proofs.Words.{SqlAnswersEachAsk, SqlFailsForReason, IsInTransaction}
use Rattle.index_sql_schema.proofs.StatementLemmas.{same_value}

pub fault_since : (first mid last : State) → first.faults ≤ mid.faults → MoreFaults mid.faults last.faults
    → MoreFaults first.faults last.faults
fault_since first mid last counts fault = omega (arith, counts, fault)

-- what was fit to begin with is fit to go on
pub can_go_on : (first now : State) → CanAsk first → IsInTransaction now → (AreRecords first.now → AreRecords now.now)
    → now.step_limit ≡ first.step_limit → CanAsk now
can_go_on first now can ready records limit = record { ready = ready; records = records can.records; unlimited = limit ∙ can.unlimited }

-- ---- lists of what is asked

-- what comes of all of the first, and then of the second, comes of both
pub all_then : (xs ys : List Ask) (a b : Database) (out : Outcome Database) → SqlAnswersEachAsk xs a (Ok b) → SqlAnswersEachAsk ys b out
    → SqlAnswersEachAsk (xs ++ ys) a out
all_then [] ys a b out is more = subst (λ (d : Database). SqlAnswersEachAsk ys d out) (same_value is) more
all_then (x ∷ xs) ys a b out (inl stopped) more = absurd (let e = stopped.2 in cc)
all_then (x ∷ xs) ys a b out (inr (mid, did, rest)) more = inr (mid, did, all_then xs ys mid b out rest more)

-- if one of the first is refused, that is all
pub all_stop : (xs ys : List Ask) (a : Database) (why : Option Error) → SqlAnswersEachAsk xs a (Err why)
    → SqlAnswersEachAsk (xs ++ ys) a (Err why)
all_stop [] ys a why is = absurd (let e = is in cc)
all_stop (x ∷ xs) ys a why (inl (stop, halts, is)) = inl (stop, halts, is)
all_stop (x ∷ xs) ys a why (inr (mid, did, rest)) = inr (mid, did, all_stop xs ys mid why rest)

-- one is as a list of one
pub alone : (ask : Ask) (a : Database) (out : Outcome Database) → SqlAnswersAsk ask a out → SqlAnswersEachAsk (ask ∷ []) a out
alone ask a (Ok b) it = inr (b, it, refl)
alone ask a (Err why) it = inl (why, it, refl)

pub goes_alone : {A : Type 0} (ask : Ask) (old new : State) (r : Result A Error)
    → MatchResult r (λ _. SqlAnswersAsk ask old.now (Ok new.now)) (SqlFailsForReason (SqlAnswersAsk ask old.now) old new)
    → MatchResult r (λ _. SqlAnswersEachAsk (ask ∷ []) old.now (Ok new.now))
    (SqlFailsForReason (SqlAnswersEachAsk (ask ∷ []) old.now) old new)
goes_alone ask old new (Ok done) it = alone ask old.now (Ok new.now) it
goes_alone ask old new (Err e) it = λ store. elim (it store)
    [ inl fault ↦ inl fault | inr refuses ↦ inr (refuses.0, alone ask old.now (Err refuses.0) refuses.1) ]
