-- Where each fact that is told of calls gives a value, one value serves for all of a run.
use Rattle.index_cli.proofs.Words.{ℕ, List, length, Option, Some, None, Result, Ok, Err, inl, inr, arith, cases_lt, Answer}
use Rattle.index_cli.proofs.Words.{Call, Bytes, Tables, Asks, AsksFor, IoEnd, line_of, Line, LineEnd, ReadFault, WriteFault}
use Rattle.index_cli.proofs.Words.{LinesEnd, Telling, longest_line, Exchange, AsksOne, AsksLine}
use Rattle.index_cli.proofs.Words.{AsksOf}
use Rattle.index_http.specs.declared.connection.IoEnd.TheVariants as io_end
use Rattle.index_json.specs.declared.line.Line.TheVariants as line
use Rattle.index_cli.specs.declared.end.LineEnd.TheVariants.{OutOfMemory}

pub LinesEnd-choice : (A : Type 0) (tells : Telling) (by_choice : A → Telling) (T : Tables)
    → ((lines : List (List ℕ)) (text : List ℕ) → tells lines text T → (a : A) × by_choice a lines text T)
    → (given left had has : Option (List ℕ)) (ended : Result ℕ LineEnd) → LinesEnd tells T given left had has ended
    → (a : A) × LinesEnd (by_choice a) T given left had has ended
LinesEnd-choice A tells by_choice T choose given left had has (Ok count) it =
    let chosen = choose _ _ it.told in (
      chosen.0,
      record {
        input = it.input;
        text = it.text;
        is_input = it.is_input;
        taken = it.taken;
        at_end = it.at_end;
        told = chosen.1;
        wrote = it.wrote;
        counted = it.counted;
      },
    )
LinesEnd-choice A tells by_choice T choose given left had has (Err ReadFault) it =
    let chosen = choose _ _ it.told in (
      chosen.0,
      record {
        input = it.input;
        done = it.done;
        more = it.more;
        text = it.text;
        is_input = it.is_input;
        lines = it.lines;
        taken = it.taken;
        told = chosen.1;
        wrote = it.wrote;
      },
    )
LinesEnd-choice A tells by_choice T choose given left had has (Err WriteFault) it =
    let chosen = choose _ _ it.told in (
      chosen.0,
      record {
        input = it.input;
        done = it.done;
        line = it.line;
        more = it.more;
        text = it.text;
        count = it.count;
        is_input = it.is_input;
        lines = it.lines;
        taken = it.taken;
        told = chosen.1;
        less = it.less;
        wrote = it.wrote;
      },
    )
LinesEnd-choice A tells by_choice T choose given left had has (Err OutOfMemory) it =
    let chosen = choose _ _ it.told in (
      chosen.0,
      record {
        input = it.input;
        done = it.done;
        more = it.more;
        text = it.text;
        is_input = it.is_input;
        lines = it.lines;
        taken = it.taken;
        told = chosen.1;
        wrote = it.wrote;
      },
    )

-- a message that asks for a look or takes a call: each of the two gives a value
module _ (A Looked : Type 0) (LookedBy : A → Type 0) (Took : Call → Answer → Type 0) (TookBy : A → Call → Answer → Type 0)
    (of_look : Looked → (a : A) × LookedBy a) (of_call : (call : Call) (answer : Answer) → Took call answer
    → (a : A) × TookBy a call answer) where
  AsksOf-choice : (asked : Option Line) (text : List ℕ) → AsksOf asked text Looked Took
      → (a : A) × AsksOf asked text (LookedBy a) (TookBy a)
  AsksOf-choice None text it = of_look it
  AsksOf-choice (Some (line.Call call)) text it = let chosen = of_call call it.0 it.2 in (chosen.0, (it.0, it.1, chosen.1))
  AsksOf-choice (Some (line.Standing name)) text it = of_look it

  pub AsksLine-choice : (asked text : List ℕ) → AsksLine asked text Looked Took → (a : A) × AsksLine asked text (LookedBy a) (TookBy a)
  AsksLine-choice asked text it = elim (cases_lt longest_line (length asked)) [
    | inr short ↦ let chosen = AsksOf-choice (line_of asked) text (it.0 short) in
        (chosen.0, (λ _. chosen.1, λ long. absurd (omega (arith, short, long))))
    | inl long ↦ let chosen = of_look (it.1 long) in (chosen.0, (λ short. absurd (omega (arith, short, long)), λ _. chosen.1))
  ]

  AsksFor-choice : (before after : Option Bytes) (result : Result (Unit {0}) IoEnd) (call : Option Call) (text_of : Answer → Bytes)
      → AsksFor call text_of Looked Took before after result → (a : A) × AsksFor call text_of (LookedBy a) (TookBy a) before after result
  AsksFor-choice before after result None text_of it = of_look it
  AsksFor-choice before after (Ok done) (Some call) text_of it = let chosen = of_call call it.1.0 it.1.2 in
      (chosen.0, (it.0, (it.1.0, it.1.1, chosen.1), it.2))
  AsksFor-choice before after (Err (io_end.WriteFault count)) (Some call) text_of it = let chosen = of_call call it.1.0 it.1.2 in
      (chosen.0, (it.0, (it.1.0, it.1.1, chosen.1), it.2))
  AsksFor-choice before after (Err (io_end.Cut count)) (Some call) text_of it = let chosen = of_call call it.1.0 it.1.2 in
      (chosen.0, (it.0, (it.1.0, it.1.1, chosen.1), it.2))
  AsksFor-choice before after (Err io_end.ReadFault) (Some call) text_of it = let chosen = of_look it.0 in (chosen.0, (chosen.1, it.1))
  AsksFor-choice before after (Err io_end.OutOfMemory) (Some call) text_of it = let chosen = of_look it.0 in (chosen.0, (chosen.1, it.1))

  Asks-choice : (before after : Option Bytes) (result : Result (Unit {0}) IoEnd) (at : ℕ) (given : Option Bytes)
      → Asks at given Looked Took before after result → (a : A) × Asks at given (LookedBy a) (TookBy a) before after result
  Asks-choice before after result at given (inl it) = let chosen = of_look it.0 in (chosen.0, inl (chosen.1, it.1, it.2))
  Asks-choice before after result at given (inr it) = let chosen = AsksFor-choice before after result _ _ it.4 in
      (chosen.0, inr (it.0, it.1, it.2, it.3, chosen.1))

  pub AsksOne-choice : (exchange : Exchange) → AsksOne exchange Looked Took → (a : A) × AsksOne exchange (LookedBy a) (TookBy a)
  AsksOne-choice exchange it = let chosen = Asks-choice exchange.had exchange.has it.ended exchange.at exchange.given it.asks in
      (chosen.0, record { ended = it.ended; asks = chosen.1; cause = it.cause })
