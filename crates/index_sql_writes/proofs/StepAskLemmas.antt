-- Why a change fails that is made in one transaction.
use Rattle.index_sql_writes.proofs.Words.{◌≡◌, ◌⊎◌, ◌≤◌, ◌∙◌, inl, inr, ℕ, List, Option, None, Some, Result, Ok, Err, IsSome, IsTrue, arith}
use Rattle.index_sql_writes.proofs.Words.{true, refl, sym, subst, true≢false, IsErrAnd, cases_Bool, Ghosts, Error, Held, state, State}
use Rattle.index_sql_writes.proofs.Words.{fault_by, IsIndex, AreRecords, Ask, CanAsk, SqlAnswersEachAsk, SqlFailsForReason, IsInTransaction}
use Rattle.index_sql_writes.proofs.Words.{FailsForRefusal}
use Rattle.std.proofs.Common.{IfErr}
use Rattle.sqlite.specs.Steps.{FailsToCommit}
use Rattle.index_sql_schema.specs.Reasons.{HasReason}
use Rattle.index_rules.specs.declared.answer.Fault.TheVariants as fault
use Rattle.index_sql_writes.proofs.AskLemmas.{caused}
use Rattle.index_sql_writes.specs.StepAsks.{AreRefused}

-- at the exit of a `?`
pub at_exit : {A : Type 0} (r : Result A Error) (e : Error) (Q : Error → Type 0) → IsErrAnd r (λ it. it ≡ e) → Q e → IfErr r Q
at_exit (Ok a) e Q is q = tt
at_exit (Err it) e Q is q = subst Q (sym is) q

module _ {S : Type 0} (g : Ghosts S) (old start : Held S) (begun : start ≡ record old { in_transaction = true }) (asks : List Ask)
    (Begins : State → Type 0) (e : Error) where
  abbrev pub inside : Held S
  inside = record old { in_transaction = true }

  -- a connection that was shut, or whose queries have limited steps, is a reason of its own
  by_case : (mid : Held S) → (IsTrue (state g old).is_open → (state g old).step_limit ≡ None → Begins (state g inside))
      → (Begins (state g inside) → fault_by e ≡ fault.Store → HasReason (state g old) (state g mid) ⊎ AreRefused asks (state g old).now)
      → FailsForRefusal asks (state g old) (state g mid) e
  by_case mid begins fails store = elim (cases_Bool (state g old).is_open) [
    | inl opened ↦ by_limit opened (state g old).step_limit refl
    | inr shut ↦ inl (inr (inl shut))
  ]
    where
      by_limit : IsTrue (state g old).is_open → (limit : Option ℕ) → (state g old).step_limit ≡ limit
          → HasReason (state g old) (state g mid) ⊎ AreRefused asks (state g old).now
      by_limit opened (Some steps) is = inl (inr (inr (subst IsSome (sym is) refl)))
      by_limit opened None is = fails (begins opened is) store

  -- a step failed
  pub fails_inside : (mid new : Held S) → (IsTrue (state g old).is_open → (state g old).step_limit ≡ None → Begins (state g inside))
      → (Begins (state g start) → SqlFailsForReason (SqlAnswersEachAsk asks (state g start).now) (state g start) (state g mid) e)
      → (state g mid).faults ≤ (state g new).faults → FailsForRefusal asks (state g old) (state g new) e
  fails_inside mid new begins fails counts = by_case new begins (λ it store.
      elim ((subst (λ h. Begins (state g h) → SqlFailsForReason (SqlAnswersEachAsk asks (state g h).now) (state g h) (state g mid) e)
      begun fails) it store) [
        | inl more ↦ inl (inl (omega (arith, more, counts)))
        | inr refuses ↦ inr refuses
      ])

  -- the commit failed
  pub fails_to_commit : (mid new : Held S) → (IsTrue (state g old).is_open → (state g old).step_limit ≡ None → Begins (state g inside))
      → (Begins (state g start) → IsInTransaction (state g mid)) → (state g start).faults ≤ (state g mid).faults
      → FailsToCommit (state g mid) (state g new) e → FailsForRefusal asks (state g old) (state g new) e
  fails_to_commit mid new begins readies counts (inl fails) = by_case new begins (λ it store.
      let ready = (subst (λ h. Begins (state g h) → IsInTransaction (state g mid)) begun readies) it in
      let since = subst (λ h. (state g h).faults ≤ (state g mid).faults) begun counts in
      elim (caused (state g mid) (state g new) ⊥ e ready.is_open store fails)
      [ inl more ↦ inl (inl (omega (arith, more, since))) | inr none ↦ absurd none ])
  fails_to_commit mid new begins readies counts (inr outside) = by_case new begins (λ it store.
      let ready = (subst (λ h. Begins (state g h) → IsInTransaction (state g mid)) begun readies) it in
      absurd (true≢false (sym ready.inside ∙ outside.1)))

-- a transaction on an index begins fit
pub begins_fit : {S : Type 0} (g : Ghosts S) (old : Held S) → (IsTrue (state g old).is_open → IsIndex (state g old).now)
    → AreRecords (state g old).now → IsTrue (state g old).is_open → (state g old).step_limit ≡ None
    → CanAsk (state g (record old { in_transaction = true }))
begins_fit g old index records opened unlimited =
    record { ready = record { is_open = opened; inside = refl; index = index opened }; records = records; unlimited = unlimited }
