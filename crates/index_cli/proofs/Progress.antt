-- A run over the lines of an input.
use Rattle.index_cli.proofs.Words.{◌≡◌, ℕ, ◌+◌, ◌<◌, ◌≤◌, inr, List, [], ◌∷◌, ◌++◌, length, take, take_all, Option, Some, refl, sym, ap}
use Rattle.index_cli.proofs.Words.{◌∙◌, subst, arith, append_assoc, append-nil, length-append, Consumes, IsAtEnd, Tables, by_tables}
use Rattle.index_cli.proofs.Words.{line_of, AllLinesAreAnswered, LineIsPartlyAnswered, LinesBeforeAreAnswered, Telling, PartIsTaken}
use Rattle.index_cli.proofs.Words.{TakesLine, line_feed, longest_line, KeptLineIsAnswered, TextAnswersLine, TextAnswersLines}
use Rattle.index_cli.proofs.Words.{TextAnswersParsedLine}
use Rattle.std.specs.Io.KnownBytes.{Appends}
use Rattle.std.proofs.KnownBytes.{Appends-trans, Appends-nil}
use Rattle.std.proofs.Math.Seq.{take-append-add}
use Rattle.index_json.specs.AnswerText.{bad_body_text}
use Rattle.index_cli.proofs.Cuts.{Cuts, Cuts-input, Cuts-nil, Cuts-part, Cuts-push, Cuts-taken, Cuts-whole}

-- ---- one line

-- a line that is not too long is its own front
pub KeptLineIsAnswered-read : (front : List ℕ) (T T' : Tables) (size : ℕ) (text : List ℕ) → size ≤ longest_line
    → TextAnswersParsedLine by_tables (line_of front) T text T' → KeptLineIsAnswered size front T text T'
KeptLineIsAnswered-read front T T' size text short told line long is =
    let whole : front ≡ line = is ∙ take_all longest_line line (omega (arith, short, long)) in (
      λ _. subst (λ (l : List ℕ). TextAnswersParsedLine by_tables (line_of l) T text T') whole told,
      λ far. absurd (omega (arith, short, long, far)),
    )

pub KeptLineIsAnswered-long : (front : List ℕ) (T : Tables) (size : ℕ) (text : List ℕ) → longest_line < size
    → text ≡ bad_body_text → KeptLineIsAnswered size front T text T
KeptLineIsAnswered-long front T size text far is line long _ = (λ near. absurd (omega (arith, far, long, near)), λ _. (is, refl))

-- ---- lines

-- after one more line of this size, of which this front was kept, and this text
abbrev pub Pushes : Telling → Telling → Tables → Tables → ℕ → List ℕ → List ℕ → Type 0
Pushes tells tells' T U size kept first =
    (done : List (List ℕ)) (text line : List ℕ) → length line ≡ size → kept ≡ take longest_line line
    → tells done text T → tells' (done ++ line ∷ []) (text ++ (first ++ line_feed ∷ [])) U

pub TextAnswersLines-push : (S T U : Tables) (done : List (List ℕ)) (text line first : List ℕ)
    → TextAnswersLines by_tables S done text T → TextAnswersLine by_tables line T first U
    → TextAnswersLines by_tables S (done ++ line ∷ []) (text ++ (first ++ line_feed ∷ [])) U
TextAnswersLines-push S T U [] text line first told tells = (
  first,
  [],
  U,
  subst (λ T. TextAnswersLine by_tables line T first U) told.1 tells,
  (refl, refl),
  ap (λ l. l ++ (first ++ line_feed ∷ [])) told.0 ∙ sym (append-nil (first ++ line_feed ∷ [])),
)
TextAnswersLines-push S T U (before ∷ done) text line first (earlier, more, between, tells_before, others, is) tells = (
  earlier,
  more ++ (first ++ line_feed ∷ []),
  between,
  tells_before,
  TextAnswersLines-push between T U done more line first others tells,
  ap (λ l. l ++ (first ++ line_feed ∷ [])) is ∙ append_assoc (earlier ++ line_feed ∷ []) more (first ++ line_feed ∷ []),
)

-- the lines so far were told of: of a reader (a to b), of a writer (w0 to w1), and these tables
pub record Progress (tells : Telling) (T : Tables) (a b w0 w1 : Option (List ℕ)) (count : ℕ) : Type 0 where
  pub done : List (List ℕ)
  pub text : List ℕ
  pub cuts : Cuts a b done
  pub told : tells done text T
  pub sent : Appends w0 w1 text
  pub counted : length done ≡ count

pub Progress-none : (tells : Telling) (T : Tables) (a w : Option (List ℕ)) → tells [] [] T → Progress tells T a a w w 0
Progress-none tells T a w told = record {
  done = [];
  text = [];
  cuts = Cuts-nil a;
  told = told;
  sent = Appends-nil w;
  counted = refl;
}

-- a line was taken and told of
pub Progress-push : (tells tells' : Telling) (T U : Tables) (a b c w0 w1 w2 : Option (List ℕ)) (count size : ℕ) (kept first : List ℕ)
    → Progress tells T a b w0 w1 count → TakesLine (Some size) kept b c → Pushes tells tells' T U size kept first
    → Appends w1 w2 (first ++ line_feed ∷ []) → Progress tells' U a c w0 w2 (count + 1)
Progress-push tells tells' T U a b c w0 w1 w2 count size kept first before (line, is, passes) push sent = record {
  done = before.done ++ line ∷ [];
  text = before.text ++ (first ++ line_feed ∷ []);
  cuts = Cuts-push a b c before.done line before.cuts is.plain passes;
  told = push before.done before.text line is.sized is.front before.told;
  sent = Appends-trans w0 w1 w2 before.text (first ++ line_feed ∷ []) before.sent sent;
  counted = omega (arith, length-append before.done (line ∷ []), before.counted);
}

-- ---- the ends

-- no line is left
pub Progress-whole : (tells : Telling) (T : Tables) (a b c w0 w1 : Option (List ℕ)) (count : ℕ)
    → Progress tells T a b w0 w1 count → Consumes b c [] → IsAtEnd c → AllLinesAreAnswered tells T a c w0 w1 count
Progress-whole tells T a b c w0 w1 count before taken end =
    let (input, is_input, whole, lines) = Cuts-whole a b c before.done before.cuts taken end in
    record {
      input = input;
      text = before.text;
      is_input = is_input;
      taken = whole;
      at_end = end;
      told = subst (λ done. tells done before.text T) (sym lines) before.told;
      wrote = before.sent;
      counted = rw lines (sym before.counted);
    }

-- a part of the next line was taken
pub Progress-part : (tells : Telling) (T : Tables) (a b c w0 w1 : Option (List ℕ)) (count : ℕ)
    → Progress tells T a b w0 w1 count → PartIsTaken b c → LinesBeforeAreAnswered tells T a c w0 w1
Progress-part tells T a b c w0 w1 count before part =
    let (input, left, is_input, lines) = Cuts-input a b before.done before.cuts in
    record {
      input = input;
      done = before.done;
      more = left;
      text = before.text;
      is_input = is_input;
      lines = lines;
      taken = Cuts-part a b c before.done before.cuts part;
      told = before.told;
      wrote = before.sent;
    }

-- the next line was taken, and not told of
pub Progress-taken : (tells : Telling) (T : Tables) (a b c w0 w1 : Option (List ℕ)) (count size : ℕ) (kept : List ℕ)
    → Progress tells T a b w0 w1 count → TakesLine (Some size) kept b c → LinesBeforeAreAnswered tells T a c w0 w1
Progress-taken tells T a b c w0 w1 count size kept before (line, is, passes) =
    let (input, left, is_input, lines) = Cuts-input a b before.done before.cuts in
    record {
      input = input;
      done = before.done;
      more = left;
      text = before.text;
      is_input = is_input;
      lines = lines;
      taken = inr (line, Cuts-taken a c (before.done ++ line ∷ []) (Cuts-push a b c before.done line before.cuts is.plain passes));
      told = before.told;
      wrote = before.sent;
    }

-- the next line was told of, and a front of the text went out
pub Progress-during : (tells tells' : Telling) (T U : Tables) (a b c w0 w1 w2 : Option (List ℕ)) (count size n : ℕ) (kept first : List ℕ)
    → Progress tells T a b w0 w1 count → TakesLine (Some size) kept b c → Pushes tells tells' T U size kept first
    → n < length (first ++ line_feed ∷ []) → Appends w1 w2 (take n (first ++ line_feed ∷ []))
    → LineIsPartlyAnswered tells' U a c w0 w2
Progress-during tells tells' T U a b c w0 w1 w2 count size n kept first before (line, is, passes) push less sent =
    let cuts = Cuts-push a b c before.done line before.cuts is.plain passes in
    let (input, left, is_input, lines) = Cuts-input a c (before.done ++ line ∷ []) cuts in
    record {
      input = input;
      done = before.done;
      line = line;
      more = left;
      text = before.text ++ (first ++ line_feed ∷ []);
      count = length before.text + n;
      is_input = is_input;
      lines = lines;
      taken = Cuts-taken a c (before.done ++ line ∷ []) cuts;
      told = push before.done before.text line is.sized is.front before.told;
      less = omega (arith, length-append before.text (first ++ line_feed ∷ []), less);
      wrote = rw (take-append-add before.text (first ++ line_feed ∷ []) n)
          (Appends-trans w0 w1 w2 before.text (take n (first ++ line_feed ∷ [])) before.sent sent);
    }
