-- What is told of lines over tables that stand for a legal history is what the history gives.
use Rattle.index_cli.proofs.Words.{ℕ, inl, inr, refl, sym, subst, List, [], ◌∷◌, length, Option, Some, None, arith, cases_lt, read_name}
use Rattle.index_cli.proofs.Words.{Tables, History, StandsFor, history_after, IsLegal, CarriesOn-answer, StandsAfter, by_history, by_tables}
use Rattle.index_cli.proofs.Words.{line_of, Line, longest_line, TextAnswersLine, TextAnswersLines, TextAnswersParsedLine}
use Rattle.index_desk.proofs.RulesLemmas.{standing_by_history}
use Rattle.index_json.specs.declared.line.Line.TheVariants as line
use Rattle.index_cli.specs.Telling.{TextAnswersStanding}

standing_after : (h : History) (T : Tables) → StandsFor T h → (name : Option (List ℕ)) (text : List ℕ)
    → TextAnswersStanding by_tables T name text → TextAnswersStanding by_history h name text
standing_after h T stands None text tells = tells
standing_after h T stands (Some name) text (inl (standing, is, told)) =
    inl (standing, standing_by_history h T stands name standing is, told)
standing_after h T stands (Some name) text (inr fault) = inr fault

-- one line: what was told, and the history for which the tables stand then
asked_after : (h : History) → IsLegal h → (T : Tables) → StandsFor T h → (asked : Option Line) (text : List ℕ) (T' : Tables)
    → TextAnswersParsedLine by_tables asked T text T' → StandsAfter by_history (TextAnswersParsedLine by_history asked h text) T'
asked_after h legal T stands None text T' (is, same) =
    record { later = h; is = (is, refl); shows = (legal, subst (λ x. StandsFor x h) (sym same) stands) }
asked_after h legal T stands (Some (line.Call call)) text T' (answer, is, answers, next) =
    let on = CarriesOn-answer h legal T stands call answer T' (λ _. answers) (λ _. next) in
    record {
      later = history_after h call answer;
      is = (answer, is, on.verdict, refl);
      shows = (on.legal, on.stands);
    }
asked_after h legal T stands (Some (line.Standing name)) text T' (tells, same) = record {
  later = h;
  is = (standing_after h T stands (read_name name) text tells, refl);
  shows = (legal, subst (λ x. StandsFor x h) (sym same) stands);
}

pub line_after : (h : History) → IsLegal h → (T : Tables) → StandsFor T h → (line text : List ℕ) (T' : Tables)
    → TextAnswersLine by_tables line T text T' → StandsAfter by_history (TextAnswersLine by_history line h text) T'
line_after h legal T stands line text T' tells = elim (cases_lt longest_line (length line)) [
  | inr short ↦
      let one = asked_after h legal T stands (line_of line) text T' (tells.0 short) in
      record {
        later = one.later;
        is = (λ _. one.is, λ long. absurd (omega (arith, short, long)));
        shows = one.shows;
      }
  | inl long ↦
      let one = asked_after h legal T stands None text T' (tells.1 long) in
      record {
        later = one.later;
        is = (λ short. absurd (omega (arith, short, long)), λ _. one.is);
        shows = one.shows;
      }
]

pub lines_after : (h : History) → IsLegal h → (T : Tables) → StandsFor T h
    → (lines : List (List ℕ)) (text : List ℕ) (T' : Tables)
    → TextAnswersLines by_tables T lines text T' → StandsAfter by_history (TextAnswersLines by_history h lines text) T'
lines_after h legal T stands [] text T' (is, same) =
    record { later = h; is = (is, refl); shows = (legal, subst (λ x. StandsFor x h) (sym same) stands) }
lines_after h legal T stands (line ∷ lines) text T' (first, more, between, tells, told, is) =
    let one = line_after h legal T stands line first between tells in
    let rest = lines_after one.later one.shows.0 between one.shows.1 lines more T' told in
    record { later = rest.later; is = (first, more, one.later, one.is, rest.is, is); shows = rest.shows }
