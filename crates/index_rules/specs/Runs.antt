-- Calls in a row on the tables.
use Rattle.std.specs.Prelude.{◌≡◌, List, [], ◌∷◌}
use Rattle.index_rules.specs.declared.call.Call.{Call}
use Rattle.index_rules.specs.declared.answer.Answer.{Answer}
use Rattle.index_rules.specs.declared.answer.Answer.TheVariants.{Accepted, Already, Refused, Fault}
use Rattle.index_rules.specs.Tables.{Tables}
use Rattle.index_rules.specs.Verdict.{Verdict, Accept, AlreadySo, Refuse, verdict_now}
use Rattle.index_rules.specs.declared.change.Change.{Change}
use Rattle.index_rules.specs.Facts.{facts_in}
use Rattle.index_rules.specs.Effect.{effect, means}

-- the answer is the verdict, or a fault
abbrev pub Answers : Verdict → Answer → Type 0
Answers verdict Accepted = verdict ≡ Accept
Answers verdict Already = verdict ≡ AlreadySo
Answers verdict (Refused refusal) = verdict ≡ Refuse refusal
Answers verdict (Fault fault) = Unit {0}

-- the tables after a change with this answer
abbrev pub tables_after_change : Tables → Change → Answer → Tables
tables_after_change T change Accepted = means change T
tables_after_change T change Already = T
tables_after_change T change (Refused refusal) = T
tables_after_change T change (Fault fault) = T

-- the tables after a call with this answer
abbrev pub tables_after : Tables → Call → Answer → Tables
tables_after T call answer =
    tables_after_change T (effect call.at call.request (facts_in T call)) answer

-- calls in a row, over what a verdict rests on and what follows an answer: each answer is the
-- verdict at its point or a fault
abbrev pub RunsOver : {S : Type 0} → (S → Call → Verdict) → (S → Call → Answer → S) → S → List Call
    → List Answer → S → Type 0
RunsOver verdict next s [] [] s' = s' ≡ s
RunsOver verdict next s [] (answer ∷ answers) s' = ⊥
RunsOver verdict next s (call ∷ calls) [] s' = ⊥
RunsOver verdict next s (call ∷ calls) (answer ∷ answers) s' =
    Answers (verdict s call) answer × RunsOver verdict next (next s call answer) calls answers s'

-- calls in a row on the tables: the accepted calls were applied in order
abbrev pub Runs : Tables → List Call → List Answer → Tables → Type 0
Runs = RunsOver verdict_now tables_after
