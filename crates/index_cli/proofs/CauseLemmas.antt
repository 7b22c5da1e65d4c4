-- Each fault of the store that is told has a call that failed.
use Rattle.index_cli.proofs.Words.{◌≡◌, ◌∙◌, ◌+◌, ℕ, true, inl, inr, refl, sym, ap, List, [], ◌∷◌, ◌++◌, length, Option, append_assoc}
use Rattle.index_cli.proofs.Words.{append-nil, arith, cases_lt, HasFailed, Answer, Tables, NeverFalls, answer_text_of, HaveCounted}
use Rattle.index_cli.proofs.Words.{HaveFailed, LinesReportFaults, LinesBeforeAreAnswered, line_feed}
use Rattle.index_io.specs.Counts.{FailsAtMostOnce, last_count}
use Rattle.index_rules.specs.declared.answer.Answer.TheVariants as answer
use Rattle.index_rules.specs.declared.answer.Fault.{Fault}
use Rattle.index_rules.specs.declared.answer.Fault.TheVariants.{OutOfMemory, Store}
use Rattle.index_rules.specs.StoreFaults.{CountsStoreFault, answers_store_fault}
use Rattle.index_rules.specs.declared.standing.Standing.{Standing}
use Rattle.index_json.proofs.OnLiterals.{answers_on_literals}
use Rattle.index_json.specs.StandingText.{standing_text_of}
use Rattle.index_cli.specs.Causes.{HasCauses, OutputReportsFaults, ReplyCountsStoreFault}
use Rattle.index_cli.specs.Causes.{ReplyReportsFaults, store_faults}
use Rattle.index_cli.proofs.Progress.{Pushes}
use Rattle.index_cli.proofs.RunEnds.{before_map}

-- ---- counts

-- a call failed at most: the count does not fall
pub none_failed : (f0 f1 : ℕ) → FailsAtMostOnce f0 f1 → HaveFailed 0 f0 f1
none_failed f0 f1 (inl same) = inl (omega (arith, same))
none_failed f0 f1 (inr next) = elim (cases_lt last_count (f0 + 1)) [
  | inl far ↦ inr (omega (arith, next, far))
  | inr near ↦ inl (omega (arith, next, near))
]

pub one_failed : (f0 f1 : ℕ) → HasFailed f0 f1 → HaveFailed 1 f0 f1
one_failed f0 f1 (inl more) = inl (omega (arith, more))
one_failed f0 f1 (inr last) = inr (omega (arith, last))

-- an answer is as many faults of the store as calls failed
pub answer_failed : (a : Answer) (f0 f1 : ℕ) → FailsAtMostOnce f0 f1 → (a ≡ answer.Fault Store → HasFailed f0 f1)
    → HaveFailed (store_faults a) f0 f1
answer_failed (answer.Fault Store) f0 f1 once store = one_failed f0 f1 (store refl)
answer_failed (answer.Fault OutOfMemory) f0 f1 once store = none_failed f0 f1 once
answer_failed (answer.Refused refusal) f0 f1 once store = none_failed f0 f1 once
answer_failed answer.Already f0 f1 once store = none_failed f0 f1 once
answer_failed answer.Accepted f0 f1 once store = none_failed f0 f1 once

-- faults one after the other
pub HaveFailed-push : (n m f0 f1 f2 : ℕ) → HaveFailed n f0 f1 → HaveFailed m f1 f2 → HaveFailed (n + m) f0 f2
HaveFailed-push n m f0 f1 f2 (inl more) (inl then) = inl (omega (arith, more, then))
HaveFailed-push n m f0 f1 f2 (inr last) (inl then) = inr (omega (arith, last, then))
HaveFailed-push n m f0 f1 f2 before (inr last) = inr last

-- a fault of the store was counted
pub store_counted : (f0 f1 : ℕ) → CountsStoreFault f0 f1 true → HaveFailed 1 f0 f1
store_counted f0 f1 next = elim (cases_lt last_count (f0 + 1)) [
  | inl far ↦ inr (omega (arith, next, far))
  | inr near ↦ inl (omega (arith, next, near))
]

-- so it was since then
pub failed_since : (f0 f1 f2 : ℕ) → NeverFalls f0 f1 → HaveFailed 1 f1 f2 → HaveFailed 1 f0 f2
failed_since f0 f1 f2 (inl more) (inl then) = inl (omega (arith, more, then))
failed_since f0 f1 f2 (inr last) (inl then) = inr (omega (arith, last, then))
failed_since f0 f1 f2 earlier (inr last) = inr last

-- ---- texts

-- the text of an answer
pub answer_causes : (a : Answer) (text : List ℕ) (f0 f1 : ℕ) → text ≡ answer_text_of a → FailsAtMostOnce f0 f1
    → (a ≡ answer.Fault Store → HasFailed f0 f1) → HasCauses text f0 f1
answer_causes a text f0 f1 is once store = (store_faults a, inl (a, is, refl), answer_failed a f0 f1 once store)

-- lines and one more
OutputReportsFaults-push : (n m : ℕ) (done : List (List ℕ)) (text line first : List ℕ)
    → OutputReportsFaults n done text → ReplyReportsFaults first m
    → OutputReportsFaults (n + m) (done ++ line ∷ []) (text ++ (first ++ line_feed ∷ []))
OutputReportsFaults-push n m [] text line first told tells = (
  first,
  [],
  m,
  0,
  tells,
  (refl, refl),
  omega (arith, told.1),
  ap (λ l. l ++ (first ++ line_feed ∷ [])) told.0 ∙ sym (append-nil (first ++ line_feed ∷ [])),
)
OutputReportsFaults-push n m (before ∷ done) text line first (earlier, more, one, others, tells_before, rest, count, is) tells = (
  earlier,
  more ++ (first ++ line_feed ∷ []),
  one,
  others + m,
  tells_before,
  OutputReportsFaults-push others m done more line first rest tells,
  omega (arith, count),
  ap (λ l. l ++ (first ++ line_feed ∷ [])) is ∙ append_assoc (earlier ++ line_feed ∷ []) more (first ++ line_feed ∷ []),
)

pub faults_push : (n m size : ℕ) (T U : Tables) (kept first : List ℕ) → ReplyReportsFaults first m
    → Pushes (LinesReportFaults n) (LinesReportFaults (n + m)) T U size kept first
faults_push n m size T U kept first tells done text line sized front told = OutputReportsFaults-push n m done text line first told tells

-- lines before the one in hand, whatever the tables
pub faults_before : (n : ℕ) (T U : Tables) (a b w0 w1 : Option (List ℕ)) → LinesBeforeAreAnswered (LinesReportFaults n) T a b w0 w1
    → LinesBeforeAreAnswered (LinesReportFaults n) U a b w0 w1
faults_before n T U a b w0 w1 before = before_map (LinesReportFaults n) (LinesReportFaults n) T U (λ lines text told. told) a b w0 w1 before

-- the text of a fault
pub fault_causes : (fault : Fault) (text : List ℕ) (f0 f1 : ℕ) → text ≡ answer_text_of (answer.Fault fault) → FailsAtMostOnce f0 f1
    → (fault ≡ Store → HasFailed f0 f1) → HasCauses text f0 f1
fault_causes Store text f0 f1 is once store = (1, inl (answer.Fault Store, is, refl), one_failed f0 f1 (store refl))
fault_causes OutOfMemory text f0 f1 is once store = (0, inl (answer.Fault OutOfMemory, is, refl), none_failed f0 f1 once)

-- the text of a standing
pub standing_causes : (standing : Standing) (text : List ℕ) (f0 f1 : ℕ) → text ≡ standing_text_of standing → FailsAtMostOnce f0 f1
    → HasCauses text f0 f1
standing_causes standing text f0 f1 is once = (0, inr (inl (standing, is, refl)), none_failed f0 f1 once)

-- ---- the count of the store's faults

-- the text of `Store` is not that of `OutOfMemory`
store_size : length (answer_text_of (answer.Fault Store)) ≡ 33
unfolding answers_on_literals
store_size = refl

memory_size : length (answer_text_of (answer.Fault OutOfMemory)) ≡ 39
unfolding answers_on_literals
memory_size = refl

store_or_memory : answer_text_of (answer.Fault Store) ≡ answer_text_of (answer.Fault OutOfMemory) → ⊥
store_or_memory same = absurd (omega (arith, ap length same, store_size, memory_size))

-- the text of an answer
pub answer_counted : (a : Answer) (text : List ℕ) (f0 f1 : ℕ) → text ≡ answer_text_of a → CountsStoreFault f0 f1 (answers_store_fault a)
    → ReplyCountsStoreFault text f0 f1
answer_counted (answer.Fault Store) text f0 f1 is counts = inl (is, counts)
answer_counted (answer.Fault OutOfMemory) text f0 f1 is counts = inr (inl (answer.Fault OutOfMemory, is, refl), counts)
answer_counted (answer.Refused refusal) text f0 f1 is counts = inr (inl (answer.Refused refusal, is, refl), counts)
answer_counted answer.Already text f0 f1 is counts = inr (inl (answer.Already, is, refl), counts)
answer_counted answer.Accepted text f0 f1 is counts = inr (inl (answer.Accepted, is, refl), counts)

-- if the text is that of `OutOfMemory`, no fault of the store was counted
pub counted_memory : (text : List ℕ) (f0 f1 : ℕ) → ReplyCountsStoreFault text f0 f1 → text ≡ answer_text_of (answer.Fault OutOfMemory)
    → f1 ≡ f0
counted_memory text f0 f1 (inl (store, counts)) memory = absurd (store_or_memory (sym store ∙ memory))
counted_memory text f0 f1 (inr (none, kept)) memory = kept

-- lines and one more: what it tells, and how many were counted
pub counted_push : (n : ℕ) (text : List ℕ) (f0 f1 f2 : ℕ) → HaveCounted n f0 f1 → ReplyCountsStoreFault text f1 f2
    → (m : ℕ) × ReplyReportsFaults text m × HaveCounted (n + m) f0 f2
counted_push n text f0 f1 f2 before (inl (store, counts)) = (1, inl (answer.Fault Store, store, refl), next before)
  where
    next : HaveCounted n f0 f1 → HaveCounted (n + 1) f0 f2
    next (inl more) = elim (cases_lt (f1 + 1) last_count) [
      | inl near ↦ inl (omega (arith, counts, more, near))
      | inr far ↦ inr (omega (arith, counts, far), omega (arith, more, far))
    ]
    next (inr (last, far)) = inr (omega (arith, counts, last), omega (arith, far))
counted_push n text f0 f1 f2 before (inr (none, kept)) = (0, none, next before)
  where
    next : HaveCounted n f0 f1 → HaveCounted (n + 0) f0 f2
    next (inl more) = inl (omega (arith, kept, more))
    next (inr (last, far)) = inr (omega (arith, kept, last), omega (arith, far))
