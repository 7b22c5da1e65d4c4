-- The calls that answered lines ask for, and their answers.
use Rattle.std.specs.Prelude.{List, None, Option, Some, length, take, ℕ, ◌<◌, ◌≡◌}
use Rattle.std.specs.Prelude.{◌≤◌}
use Rattle.index_rules.specs.declared.answer.Answer.{Answer}
use Rattle.index_rules.specs.declared.call.Call.{Call}
use Rattle.index_json.specs.AnswerText.{answer_text_of}
use Rattle.index_json.specs.Line.{line_of}
use Rattle.index_json.specs.declared.line.Line.{Line}
use Rattle.index_json.specs.declared.line.Line.TheVariants as line
use Rattle.index_cli.specs.Lines.{longest_line}

-- a parsed line asks for no call, or for one whose answer is in the text
abbrev pub AsksOf : Option Line → List ℕ → Type 0 → (Call → Answer → Type 0) → Type 0
AsksOf None text Looked Took = Looked
AsksOf (Some (line.Call call)) text Looked Took =
    (answer : Answer) × (text ≡ answer_text_of answer) × Took call answer
AsksOf (Some (line.Standing name)) text Looked Took = Looked

-- `AsksOf` of a line. A line that is too long asks for no call.
abbrev pub AsksLine : List ℕ → List ℕ → Type 0 → (Call → Answer → Type 0) → Type 0
AsksLine line text Looked Took =
    (length line ≤ longest_line → AsksOf (line_of line) text Looked Took)
    × (longest_line < length line → Looked)

-- `AsksLine` of every line of this size that begins with `kept`
abbrev pub AsksKept : ℕ → List ℕ → List ℕ → Type 0 → (Call → Answer → Type 0) → Type 0
AsksKept size kept text Looked Took =
    (line : List ℕ) → length line ≡ size → kept ≡ take longest_line line
    → AsksLine line text Looked Took
