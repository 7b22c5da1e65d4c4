-- The history after any runs goes on from the one before them.
use Rattle.index.proofs.Words.{◌≡◌, ℕ, List, [], ◌∷◌, Option, Some, None, length, sym, subst, inl, inr, longest_line, TextAnswersLines}
use Rattle.index.proofs.Words.{TextAnswersParsedLine, by_history, Line, Accepted, Call, History, first_tables, IsFrontOf, IsLegal}
use Rattle.index.proofs.Words.{history_after, Tables, Carries, ComesByRun, ComesByRuns, KeepsSome, LeadTo, LeadsOn, Run, CreatedRun}
use Rattle.index.proofs.Words.{InitRun, UnusedRun, ∥∥₁_map, FindsAgain, Keeping, itself, WorkRun, leading_to, Done, DoneExchanges}
use Rattle.index.proofs.Words.{DoneLines, DoneLook, Bool, false, true, ◌⊎◌}
use Rattle.std.proofs.lemmas.Bool.{cases_lt}
use Rattle.index_json.specs.Line.{line_of}
use Rattle.index_json.specs.declared.line.Line.TheVariants as line
use Rattle.index.specs.GoesOn.{GoesOn, StandOn}
use Rattle.index.proofs.ChainLemmas.{stand_by_runs}
use Rattle.index.proofs.DoneLemmas.{line_made, one_made}
use Rattle.index_cli.proofs.FilesServed.{after_call_is, answered_each, as_is, longer}
use Rattle.index.proofs.ServedLemmas.{served_bound}

-- ---- what is told of lines

told_asked : (asked : Option Line) (h : History) (text : List ℕ) (h' : History) → TextAnswersParsedLine by_history asked h text h'
    → IsFrontOf h h'
told_asked None h text h' it = as_is h h' it.1
told_asked (Some (line.Call call)) h text h' it = after_call_is h call it.0 h' it.3
told_asked (Some (line.Standing name)) h text h' it = as_is h h' it.1

told_lines : (h : History) (lines : List (List ℕ)) (text : List ℕ) (h' : History) → TextAnswersLines by_history h lines text h'
    → IsFrontOf h h'
told_lines h [] text h' it = as_is h h' it.1
told_lines h (asked ∷ lines) text h' it =
    longer h it.2 h' (elim (cases_lt longest_line (length asked)) [
      | inl long ↦ told_asked None h it.0 it.2 (it.3.1 long)
      | inr short ↦ told_asked (line_of asked) h it.0 it.2 (it.3.0 short)
    ]) (told_lines it.2 lines it.1 h' it.4)

-- ---- a run

-- with the history that was reached, or that with one call more
reached_on : (h reached h' : History) → IsFrontOf h reached → (reached ≡ h') ⊎ ((call : Call) × (h' ≡ history_after reached call Accepted))
    → IsFrontOf h h'
reached_on h reached h' front (inl is) = longer h reached h' front (as_is reached h' (sym is))
reached_on h reached h' front (inr made) = longer h reached h' front (after_call_is reached made.0 Accepted h' made.1)

pub carried_on : (closed : Bool) (done : Done) (h h' : History) (T : Tables) → Carries closed done h h' T → IsFrontOf h h'
carried_on true (DoneLines lines text) h h' T it = told_lines h lines text h' it
carried_on true (DoneExchanges exchanges) h h' T it = answered_each exchanges h h' it
carried_on true DoneLook h h' T it = as_is h h' it
carried_on false (DoneLines lines text) h h' T (went, is) =
    reached_on h went.reached h' (told_lines h went.earlier went.told went.reached went.answered) (elim is [
      | inl same ↦ inl same
      | inr made ↦ let it = line_made (leading_to h') went.reached T went.later made in inr (it.0, sym it.1.1)
    ])
carried_on false (DoneExchanges exchanges) h h' T (went, is) =
    reached_on h went.reached h' (answered_each went.earlier h went.reached went.answered) (elim is [
      | inl same ↦ inl same
      | inr made ↦ let it = one_made (leading_to h') went.reached T went.later made in inr (it.0, sym it.1.1)
    ])
carried_on false DoneLook h h' T it = as_is h h' it

-- from a history of a kind on one goes
abbrev From : (History → Type 0) → History → Type 0
From Was h' = (h : History) × Was h × IsFrontOf h h'

module _ {X : Type 0} (k : Keeping X) (again : FindsAgain k) where
  pub by_run : (run : Run) (start next : X) (it : LeadsOn k run start next) → (¬ k.HoldsNone start)
      → (Was : History → Type 0) (h' : History)
      → ComesByRun k run start next it Was h' → From Was h'
  by_run (CreatedRun user token) start next it some Was h' new = absurd (some it.0)
  by_run (InitRun user token) start next it some Was h' (inl was) = (h', was, itself h')
  by_run (InitRun user token) start next it some Was h' (inr new) = absurd (some new.0)
  by_run (WorkRun closed task result) start next it some Was h' comes =
      (comes.0, comes.1, carried_on closed it.work.done comes.0 h' comes.3.0 comes.3.3)
  by_run UnusedRun start next it some Was h' comes = (h', comes, itself h')

  pub there_by_run : (run : Run) (start next : X) → LeadsOn k run start next → KeepsSome k start next
  there_by_run (CreatedRun user token) start next it = λ some. again.there next (first_tables user token) it.1
  there_by_run (InitRun user token) start next it = it.0
  there_by_run (WorkRun true task result) start next it = λ some. again.there next it.work.is.0 it.work.is.1
  there_by_run (WorkRun false task result) start next it = λ some. it.work.is.0
  there_by_run UnusedRun start next it = it.0

  by_runs : (runs : List Run) (start last : X) (leads : LeadTo k runs start last) → (¬ k.HoldsNone start)
      → (Was : History → Type 0) (h' : History)
      → ComesByRuns k runs start last leads Was h' → From Was h'
  by_runs [] start last leads some Was h' comes = (h', comes, itself h')
  by_runs (run ∷ runs) start last leads some Was h' comes =
      let later = by_runs runs leads.0 last leads.2 (there_by_run run start leads.0 leads.1 some)
      (λ h. IsLegal h × ComesByRun k run start leads.0 leads.1 Was h) h' comes in
      let first = by_run run start leads.0 leads.1 some Was later.0 later.1.1 in
      (first.0, first.1, longer first.0 later.0 h' first.2 later.2)

  there_by_runs : (runs : List Run) (start last : X) → LeadTo k runs start last → KeepsSome k start last
  there_by_runs [] start last leads = λ some none. some (subst k.HoldsNone leads none)
  there_by_runs (run ∷ runs) start last leads =
      λ some. there_by_runs runs leads.0 last leads.2 (there_by_run run start leads.0 leads.1 some)

  pub goes_on : (runs : List Run) (first last : X) → GoesOn k runs first last
  goes_on runs first last some leads = (
    there_by_runs runs first last leads some,
    λ given later legal comes.
        let from = by_runs runs first last leads some (λ h. h ≡ given) later comes in
        let front = subst (λ h. IsFrontOf h later) from.1 from.2 in
        (front, served_bound later legal given front),
  )

  pub stand_on : (runs others : List Run) (first mid last : X) → StandOn k runs others first mid last
  stand_on runs others first mid last none leads some leads' T holds =
      ∥∥₁_map (stand_by_runs k again (λ h. ComesByRuns k runs first mid leads (λ h. ⊥) h) others mid last
      (stand_by_runs k again (λ h. ⊥) runs first mid (λ T held. absurd (none (T, held))) leads) leads' T holds) (λ it.
      let from = by_runs others mid last leads' some (λ h. ComesByRuns k runs first mid leads (λ h. ⊥) h) it.0.0 it.1 in
      record {
        earlier = from.0;
        comes = from.1;
        later = it.0.0;
        legal = it.0.1;
        stands = it.0.2;
        goes_on = from.2;
        served = served_bound it.0.0 it.0.1 from.0 from.2;
      })
