-- Lines that report a failed store, and the failed calls behind them.
use Rattle.std.specs.Prelude.{◌≡◌, ℕ, ◌+◌, ◌≤◌, ◌⊎◌, true, List, [], ◌∷◌, ◌++◌}
use Rattle.index_io.specs.Counts.{last_count}
use Rattle.index_rules.specs.declared.answer.Answer.{Answer}
use Rattle.index_rules.specs.declared.answer.Answer.TheVariants as answer
use Rattle.index_rules.specs.declared.answer.Fault.TheVariants.{OutOfMemory, Store}
use Rattle.index_rules.specs.StoreFaults.{CountsStoreFault}
use Rattle.index_rules.specs.declared.standing.Standing.{Standing}
use Rattle.index_json.specs.AnswerText.{answer_text_of, bad_body_text}
use Rattle.index_json.specs.StandingText.{standing_text_of}
use Rattle.index_cli.specs.Ends.{Telling}
use Rattle.index_cli.specs.Lines.{line_feed}

-- the number of store faults that an answer reports
abbrev pub store_faults : Answer → ℕ
store_faults (answer.Fault Store) = 1
store_faults (answer.Fault OutOfMemory) = 0
store_faults (answer.Refused refusal) = 0
store_faults answer.Already = 0
store_faults answer.Accepted = 0

-- the text of an output line, and the number of store faults that it reports
abbrev pub ReplyReportsFaults : List ℕ → ℕ → Type 0
ReplyReportsFaults text faults =
    ((a : Answer) × (text ≡ answer_text_of a) × (faults ≡ store_faults a))
    ⊎ ((standing : Standing) × (text ≡ standing_text_of standing) × (faults ≡ 0))
    ⊎ ((text ≡ bad_body_text) × (faults ≡ 0))

-- the text that answers some lines, and the number of store faults that it reports
abbrev pub OutputReportsFaults : ℕ → List (List ℕ) → List ℕ → Type 0
OutputReportsFaults faults [] text = (text ≡ []) × (faults ≡ 0)
OutputReportsFaults faults (line ∷ lines) text =
    (first : List ℕ) × (more : List ℕ) × (one : ℕ) × (others : ℕ)
    × ReplyReportsFaults first one × OutputReportsFaults others lines more
    × (faults ≡ one + others) × (text ≡ (first ++ line_feed ∷ []) ++ more)

-- `OutputReportsFaults` for any tables
abbrev pub LinesReportFaults : ℕ → Telling
LinesReportFaults faults lines text T = OutputReportsFaults faults lines text

-- at least this many calls failed since, or the count is at its last value
abbrev pub HaveFailed : ℕ → ℕ → ℕ → Type 0
HaveFailed faults before now = (before + faults ≤ now) ⊎ (last_count ≤ now)

-- each store fault that a text reports has a call that failed since
abbrev pub HasCauses : List ℕ → ℕ → ℕ → Type 0
HasCauses text before now =
    (faults : ℕ) × ReplyReportsFaults text faults × HaveFailed faults before now

-- exactly this many store faults were counted since, up to the last value
abbrev pub HaveCounted : ℕ → ℕ → ℕ → Type 0
HaveCounted faults before now =
    (now ≡ before + faults) ⊎ ((now ≡ last_count) × (last_count ≤ before + faults))

-- a store fault was counted and the text is that of `Store`; or none was counted, and the text
-- reports none
abbrev pub ReplyCountsStoreFault : List ℕ → ℕ → ℕ → Type 0
ReplyCountsStoreFault text before now =
    ((text ≡ answer_text_of (answer.Fault Store)) × CountsStoreFault before now true)
    ⊎ (ReplyReportsFaults text 0 × (now ≡ before))
