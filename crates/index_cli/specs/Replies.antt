-- The reply to a line.
use Rattle.std.specs.Prelude.{IfErr, IfOk, List, OnErr, Option, Result, length, string_bytes, take}
use Rattle.std.specs.Prelude.{ℕ, ◌≡◌, ◌⊎◌}
use Rattle.index_rules.specs.declared.answer.Answer.{Answer}
use Rattle.index_rules.specs.declared.answer.Answer.TheVariants.{Fault}
use Rattle.index_rules.specs.declared.answer.Fault.TheVariants.{OutOfMemory}
use Rattle.index_rules.specs.declared.books.Books.{Ghosts}
use Rattle.index_rules.specs.declared.call.Call.{Call}
use Rattle.index_rules.specs.Facts.{HasOneBearer}
use Rattle.index_rules.specs.Tables.{Tables}
use Rattle.index_desk.specs.Invariants.{KeepsInvariants}
use Rattle.index_desk.specs.Looks.{LeavesTables}
use Rattle.index_desk.specs.Rules.{by_tables}
use Rattle.index_desk.specs.Takes.{Takes}
use Rattle.index_json.specs.AnswerText.{answer_text_of}
use Rattle.index_cli.specs.Causes.{HasCauses, ReplyCountsStoreFault}
use Rattle.index_cli.specs.Lines.{longest_line}
use Rattle.index_cli.specs.Telling.{IsFaultText, TextAnswersLine, TextAnswersStanding}
use Rattle.index_cli.specs.declared.end.LineEnd.{LineEnd}
use Rattle.index_cli.specs.declared.reply.LineReply.{LineReply}
use Rattle.index_cli.specs.declared.reply.LineReply.TheVariants.{Fixed, Made}

-- the text of a reply to a line
abbrev pub line_reply_text : LineReply → List ℕ
line_reply_text (Fixed text) = text.now
line_reply_text (Made text) = string_bytes text

-- the text that reports that memory ran out
abbrev pub memory_fault_text : List ℕ
memory_fault_text = answer_text_of (Fault OutOfMemory)

-- the store is honest, or the text is that of a fault and `Told` holds
abbrev pub IsHonestOrFault : {S : Type 0} → Ghosts S → S → List ℕ → Type 0 → Type 0
IsHonestOrFault g new text Told = g.IsHonest new ⊎ (IsFaultText text × Told)

-- Each store fault that a reply reports has a failed call. The only error is `OutOfMemory`, and no
-- call failed then.
pub record LineFailsOnly (failures_before failures_after : ℕ) (result : Result LineReply LineEnd)
    : Type 0 where
  pub told : IfOk result (λ reply. HasCauses (line_reply_text reply) failures_before failures_after)
  pub kept : OnErr result (failures_after ≡ failures_before)
  pub memory : IfErr result (λ end. end ≡ LineEnd.OutOfMemory)

-- a counted store fault is replied as `Store`, never as out of memory
pub record LineReportsStoreFault (stores_before stores_after : ℕ)
    (result : Result LineReply LineEnd) : Type 0 where
  pub told : IfOk result
      (λ reply. ReplyCountsStoreFault (line_reply_text reply) stores_before stores_after)
  pub memory : IfOk result
      (λ reply. line_reply_text reply ≡ memory_fault_text → stores_after ≡ stores_before)
  pub kept : OnErr result (stores_after ≡ stores_before)

-- the reply to a line
pub record RepliesToLine {S : Type 0} (g : Ghosts S) (old new : S)
    (result : Result LineReply LineEnd)
    (Tells : Tables → List ℕ → Tables → Type 0)
    (Asks : List ℕ → Type 0 → (Call → Answer → Type 0) → Type 0) : Type 0 where
  -- the reply is what the rules say of the tables before and after
  pub reply : g.IsHonest new → HasOneBearer (g.tables old)
      → IfOk result (λ reply. Tells (g.tables old) (line_reply_text reply) (g.tables new))
  -- if the store was honest and is clean, it still is honest, or the reply reports a fault
  pub lasts : g.IsHonest old → g.IsClean new → IfOk result
      (λ reply. IsHonestOrFault g new (line_reply_text reply)
      (Tells (g.tables old) (line_reply_text reply) (g.tables old)))
  pub asks : IfOk result
      (λ reply. Asks (line_reply_text reply) (LeavesTables g old new) (Takes g old new))
  pub leaves : OnErr result (LeavesTables g old new)
  pub causes : LineFailsOnly (g.failures old) (g.failures new) result
  pub stores : LineReportsStoreFault (g.stores old) (g.stores new) result
  pub keeps : KeepsInvariants g old new

-- The reply to a line that asks for the standing of a name. No table changed.
pub record RepliesStanding {S : Type 0} (g : Ghosts S) (old new : S)
    (result : Result LineReply LineEnd) (name : Option (List ℕ)) : Type 0 where
  pub reply : g.IsHonest new
      → IfOk result
      (λ reply. TextAnswersStanding by_tables (g.tables old) name (line_reply_text reply))
  pub lasts : g.IsHonest old → g.IsClean new → IfOk result
      (λ reply. IsHonestOrFault g new (line_reply_text reply)
      (TextAnswersStanding by_tables (g.tables old) name (line_reply_text reply)))
  pub leaves : LeavesTables g old new
  pub causes : LineFailsOnly (g.failures old) (g.failures new) result
  pub stores : LineReportsStoreFault (g.stores old) (g.stores new) result

-- the text answers every line of this size that begins with `kept`
abbrev pub KeptLineIsAnswered : ℕ → List ℕ → Tables → List ℕ → Tables → Type 0
KeptLineIsAnswered size kept T text T' =
    (line : List ℕ) → length line ≡ size → kept ≡ take longest_line line
    → TextAnswersLine by_tables line T text T'
