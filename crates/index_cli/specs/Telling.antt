-- The answers to the lines of an input, by rules over any state.
use Rattle.std.specs.Prelude.{List, None, Option, Some, [], length, ℕ, ◌++◌, ◌<◌, ◌∷◌, ◌≡◌, ◌≤◌}
use Rattle.std.specs.Prelude.{◌⊎◌}
use Rattle.index_names.specs.Project.{read_name}
use Rattle.index_rules.specs.declared.answer.Answer.{Answer}
use Rattle.index_rules.specs.declared.answer.Answer.TheVariants as answer
use Rattle.index_rules.specs.declared.answer.Fault.{Fault}
use Rattle.index_rules.specs.declared.answer.Refusal.TheVariants.{BadName}
use Rattle.index_rules.specs.Runs.{Answers}
use Rattle.index_rules.specs.declared.standing.Standing.{Standing}
use Rattle.index_desk.specs.Rules.{Rules}
use Rattle.index_json.specs.AnswerText.{answer_text_of, bad_body_text}
use Rattle.index_json.specs.StandingText.{standing_text_of}
use Rattle.index_json.specs.Line.{line_of}
use Rattle.index_json.specs.declared.line.Line.{Line}
use Rattle.index_json.specs.declared.line.Line.TheVariants as line
use Rattle.index_cli.specs.Lines.{line_feed, longest_line}

-- the text of a fault
abbrev pub IsFaultText : List ℕ → Type 0
IsFaultText text = (fault : Fault) × (text ≡ answer_text_of (answer.Fault fault))

-- the text that answers a line asking for the standing of a name: the standing, a fault, or that
-- the name is not valid
abbrev pub TextAnswersStanding : {S : Type 0} → Rules S → S → Option (List ℕ) → List ℕ → Type 0
TextAnswersStanding rules s None text = text ≡ answer_text_of (answer.Refused BadName)
TextAnswersStanding rules s (Some name) text =
    ((standing : Standing) × rules.Stands s name standing × (text ≡ standing_text_of standing))
    ⊎ ((fault : Fault) × (text ≡ answer_text_of (answer.Fault fault)))

-- The text that answers a parsed line, and the state before and after. A line that is `None` was
-- malformed.
abbrev pub TextAnswersParsedLine : {S : Type 0} → Rules S → Option Line → S → List ℕ → S → Type 0
TextAnswersParsedLine rules None s text s' = (text ≡ bad_body_text) × (s' ≡ s)
TextAnswersParsedLine rules (Some (line.Call call)) s text s' =
    (a : Answer) × (text ≡ answer_text_of a) × Answers (rules.verdict s call) a
    × (s' ≡ rules.next s call a)
TextAnswersParsedLine rules (Some (line.Standing name)) s text s' =
    TextAnswersStanding rules s (read_name name) text × (s' ≡ s)

-- The text that answers a line. A line that is too long is malformed.
abbrev pub TextAnswersLine : {S : Type 0} → Rules S → List ℕ → S → List ℕ → S → Type 0
TextAnswersLine rules line s text s' =
    (length line ≤ longest_line → TextAnswersParsedLine rules (line_of line) s text s')
    × (longest_line < length line → TextAnswersParsedLine rules None s text s')

-- the text that answers lines, each answer with a line feed
abbrev pub TextAnswersLines : {S : Type 0} → Rules S → S → List (List ℕ) → List ℕ → S → Type 0
TextAnswersLines rules s [] text s' = (text ≡ []) × (s' ≡ s)
TextAnswersLines {S} rules s (line ∷ lines) text s' =
    (first : List ℕ) × (more : List ℕ) × (between : S)
    × TextAnswersLine rules line s first between × TextAnswersLines rules between lines more s'
    × (text ≡ (first ++ line_feed ∷ []) ++ more)
