-- What lines and connections ask for, if more or less is told of it.
use Rattle.index_cli.proofs.Words.{◌≡◌, ◌≤◌, ◌<◌, ℕ, ◌∙◌, subst, List, Option, Some, None, arith}
use Rattle.index_cli.proofs.Words.{take_all, Answer, Call, line_of, Line, longest_line}
use Rattle.index_cli.proofs.Words.{Exchange, AsksOne, AsksKept, AsksLine, AsksOf}
use Rattle.index_http.proofs.AskLemmas.{asks_map}
use Rattle.index_json.specs.declared.line.Line.TheVariants as line

-- ---- lines

asks_of_map : (asked : Option Line) (text : List ℕ) (L L' : Type 0) (K K' : Call → Answer → Type 0) → (L → L')
    → ((call : Call) (answer : Answer) → K call answer → K' call answer)
    → AsksOf asked text L K → AsksOf asked text L' K'
asks_of_map None text L L' K K' f k asks = f asks
asks_of_map (Some (line.Call call)) text L L' K K' f k (answer, is, took) = (answer, is, k call answer took)
asks_of_map (Some (line.Standing name)) text L L' K K' f k asks = f asks

pub asks_line_map : (line text : List ℕ) (L L' : Type 0) (K K' : Call → Answer → Type 0) → (L → L')
    → ((call : Call) (answer : Answer) → K call answer → K' call answer)
    → AsksLine line text L K → AsksLine line text L' K'
asks_line_map line text L L' K K' f k asks =
    (λ short. asks_of_map (line_of line) text L L' K K' f k (asks.0 short), λ long. f (asks.1 long))

-- a line that is not too long is its own front
pub AsksKept-read : (front text : List ℕ) (size : ℕ) (L : Type 0) (K : Call → Answer → Type 0) → size ≤ longest_line
    → AsksOf (line_of front) text L K → AsksKept size front text L K
AsksKept-read front text size L K short asks line long is =
    let whole : front ≡ line = is ∙ take_all longest_line line (omega (arith, short, long)) in (
      λ _. subst (λ (l : List ℕ). AsksOf (line_of l) text L K) whole asks,
      λ far. absurd (omega (arith, short, long, far)),
    )

pub AsksKept-long : (front text : List ℕ) (size : ℕ) (L : Type 0) (K : Call → Answer → Type 0) → longest_line < size → L
    → AsksKept size front text L K
AsksKept-long front text size L K far looked line long is = (λ near. absurd (omega (arith, far, long, near)), λ _. looked)

-- ---- connections

pub asks_one_map : (exchange : Exchange) (L L' : Type 0) (K K' : Call → Answer → Type 0) → (L → L')
    → ((call : Call) (answer : Answer) → K call answer → K' call answer) → AsksOne exchange L K → AsksOne exchange L' K'
asks_one_map exchange L L' K K' f k it = record {
  ended = it.ended;
  asks = asks_map L L' K K' exchange.had exchange.has it.ended f k exchange.at exchange.given it.asks;
  cause = it.cause;
}
