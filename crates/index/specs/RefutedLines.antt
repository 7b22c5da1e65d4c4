-- Wrong counts of faults, and wrong answers to lines, which the contracts exclude.
use Rattle.std.specs.Prelude.{Err, List, None, Ok, Option, Some, [], length, ℕ, ◌++◌, ◌+◌, ◌<◌}
use Rattle.std.specs.Prelude.{◌∷◌, ◌≡◌, ◌≤◌}
use Rattle.index_io.specs.Counts.{last_count}
use Rattle.index_cli.specs.Causes.{HaveCounted, HaveFailed, LinesReportFaults}
use Rattle.index_cli.specs.Connections.{AddsReply, SentReply, StreamFaults}
use Rattle.index_cli.specs.Ends.{LinesEnd}
use Rattle.index_cli.specs.Lines.{Charges, PartIsTaken, TakesLine, line_feed, lines_of}
use Rattle.index_cli.specs.Lines.{longest_line}
use Rattle.index_cli.specs.Serving.{IsCount}
use Rattle.index_cli.specs.Telling.{TextAnswersLines}
use Rattle.index_cli.specs.LinesWent.{LinesWent}
use Rattle.index_cli.specs.declared.end.ServeEnd.{ServeEnd}
use Rattle.index_desk.specs.Rules.{Rules, by_history, by_tables}
use Rattle.index_json.specs.AnswerText.{answer_text_of, bad_body_text}
use Rattle.index_rules.specs.declared.answer.Answer.TheVariants as answer
use Rattle.index_rules.specs.declared.answer.Fault.TheVariants.{Store}
use Rattle.index_rules.specs.Maps.{Bytes}
use Rattle.index_rules.specs.Tables.{Tables}

-- a text with a line feed behind it
abbrev pub with_feed : Bytes → Bytes
with_feed text = text ++ line_feed ∷ []

-- the output line that reports a failed store
abbrev pub store_line : Bytes
store_line = with_feed (answer_text_of (answer.Fault Store))

-- ---- faults

-- no wrong number of faults has these counts of failed calls
pub record RefutesCounts (before now : ℕ) : Type 0 where
  -- fewer calls failed than faults were reported
  pub failed : (faults : ℕ) → now < last_count → now < before + faults
      → ¬ HaveFailed faults before now
  -- another number of faults was counted
  pub counted : (faults : ℕ) → now < last_count → (¬ (now ≡ before + faults))
      → ¬ HaveCounted faults before now

-- no output line reports a wrong number of faults
pub record RefutesFaults (line : Bytes) (T : Tables) (faults : ℕ) : Type 0 where
  -- the store failed, but there is not one fault
  pub store : (¬ (faults ≡ 1)) → ¬ LinesReportFaults faults (line ∷ []) store_line T
  -- the call was accepted, but there is a fault
  pub accepted : (¬ (faults ≡ 0))
      → ¬ LinesReportFaults faults (line ∷ []) (with_feed (answer_text_of answer.Accepted)) T
  -- there was no line, but there is a fault
  pub none : (text : Bytes) → (¬ (faults ≡ 0)) → ¬ LinesReportFaults faults [] text T

-- no run over one line reports that the store failed, if none of its calls did
pub record RefutesStoreLine (T : Tables) (given line had : Bytes) (left : Option Bytes)
    (before faults : ℕ) : Type 0 where
  -- no call failed
  pub failed : HaveFailed faults before before
      → ¬ LinesEnd (LinesReportFaults faults) T (Some given) left
      (Some had) (Some (had ++ store_line)) (Ok 1)
  -- no fault was counted
  pub counted : HaveCounted faults before before
      → ¬ LinesEnd (LinesReportFaults faults) T (Some given) left
      (Some had) (Some (had ++ store_line)) (Ok 1)

-- ---- a line that is too long

-- the text is not that of a malformed line
abbrev pub IsOtherText : Bytes → Type 0
IsOtherText text = ¬ (text ≡ with_feed bad_body_text)

-- no line that is too long gets another answer than a malformed one, or changes the state
pub record RefutesLongLine {S : Type 0} (rules : Rules S) (line text : Bytes) : Type 0 where
  -- another answer
  pub told : (s s' : S) → IsOtherText text → ¬ TextAnswersLines rules s (line ∷ []) text s'
  pub front : (s : S) → IsOtherText text → ¬ LinesWent rules (line ∷ []) text s (λ left. ⊥)
  -- another state, and tables that a crash can't leave without a call
  pub changed : (s s' : S) → (¬ (s' ≡ s)) → ¬ TextAnswersLines rules s (line ∷ []) text s'
  pub crash : (s : S) (T : Tables) → (¬ rules.Shows s T)
      → ¬ LinesWent rules (line ∷ []) text s (λ left. left ≡ T)

-- ---- numbers

-- no wrong number of bytes is charged, no line is at the end of more bytes, no part of a line has
-- more than the line, and no wrong number of connections is counted
pub record RefutesNumbers : Type 0 where
  -- more may be read than before
  pub charged : (before now : ℕ) (old new : Option Bytes) → before < now
      → ¬ Charges before now old new
  -- more was read than may be
  pub most : (most now : ℕ) (given rest : Bytes) → most + length rest < length given
      → ¬ Charges most now (Some given) (Some rest)
  -- no line was read, though bytes are left
  pub ended : (byte : ℕ) (rest kept : Bytes) (new : Option Bytes)
      → ¬ TakesLine None kept (Some (byte ∷ rest)) new
  -- a part of a line was taken with the line feed behind it
  pub part : (line rest : Bytes) → ¬ PartIsTaken (Some (line ++ line_feed ∷ rest)) (Some rest)
  -- a part of a line was taken, but more bytes are left
  pub more : (given rest : Bytes) → length given < length rest
      → ¬ PartIsTaken (Some given) (Some rest)
  -- another number of connections than was asked for
  pub count : (requests count : ℕ) → (¬ (count ≡ requests)) → ¬ IsCount requests (Ok tt) count
  -- all connections, though the run ended early
  pub early : (early : ServeEnd) (requests count : ℕ) → requests ≤ count
      → ¬ IsCount requests (Err early) count

-- ---- closed connections

-- after a connection was closed, to which this was sent, with these faults, these replies are not
-- all that there were
pub record RefutesAdded (replies : List SentReply) (sent : Option Bytes) (faults : StreamFaults)
    : Type 0 where
  -- none was added
  pub none : ¬ AddsReply (Some replies) (Some replies) sent faults
  -- another was added
  pub other : (reply : SentReply) → (¬ (sent ≡ Some reply.bytes))
      → ¬ AddsReply (Some replies) (Some (replies ++ reply ∷ [])) sent faults
  -- one was added with other faults
  pub miscounted : (reply : SentReply) → (¬ (faults ≡ reply.faults))
      → ¬ AddsReply (Some replies) (Some (replies ++ reply ∷ [])) sent faults
  -- those before it are unknown
  pub lost : ¬ AddsReply (Some replies) None sent faults

-- ---- all of them

-- the wrong counts, answers to lines and numbers that are excluded
pub record RefutesLineCounts : Type 0 where
  pub counts : (before now : ℕ) → RefutesCounts before now
  pub faults : (line : Bytes) (T : Tables) (faults : ℕ) → RefutesFaults line T faults
  pub store : (T : Tables) (given line had : Bytes) (left : Option Bytes) (before faults : ℕ)
      → lines_of given ≡ line ∷ [] → before < last_count
      → RefutesStoreLine T given line had left before faults
  pub long : (line text : Bytes) → longest_line < length line
      → RefutesLongLine by_tables line text
  pub long_past : (line text : Bytes) → longest_line < length line
      → RefutesLongLine by_history line text
  pub numbers : RefutesNumbers
  pub added : (replies : List SentReply) (sent : Option Bytes) (faults : StreamFaults)
      → RefutesAdded replies sent faults
