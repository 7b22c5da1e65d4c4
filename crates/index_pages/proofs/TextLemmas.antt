-- The text of a page, put together from the texts of its rows.
use Rattle.index_pages.proofs.Words.{◌≡◌, ◌≤◌, ◌<◌, ℕ, ◌+◌, ◌++◌, ◌∷◌, [], List, length, take, drop, sym, ◌∙◌, ap, subst, refl, arith}
use Rattle.index_pages.proofs.Words.{append_assoc, Ok, Err, None, Some, inl, inr, Result, Bytes, Took, StoppedAt}
use Rattle.std.proofs.Common.{length-append, IfErr, IfOk, zero-add}
use Rattle.std.proofs.lemmas.List.{take-append-drop, append-nil}
use Rattle.std.proofs.Math.Seq.{take-append_seam}
use Rattle.std.specs.Io.KnownBytes.{Appends}
use Rattle.std.proofs.KnownBytes.{Appends-nil, Appends-trans}
use Rattle.index_rules.specs.Rows.{WasGiven}
use Rattle.index_pages.specs.Rest.{Rest, IsNext}
use Rattle.index_pages.specs.Ends.{Closes, IsCaused, SinkGetsRow, SinkGetsRowFront, SinkGetsText, SinkState, StoreOnlyIfTooLong, WritesPage}
use Rattle.index_pages.specs.Ends.{count_of, most_bytes}
use Rattle.index_pages.specs.States.{IsFresh, IsFront, RowTextIsTaken, StopsText, TextState}
use Rattle.index_pages.specs.declared.end.PageEnd.{PageEnd}

both_sent : (a b c : SinkState) (i j k : ℕ) (xs ys : Bytes) → SinkGetsText a b i j xs → SinkGetsText b c j k ys
    → SinkGetsText a c i k (xs ++ ys)
both_sent a b c i j k xs ys x y =
    let e = length-append xs ys in
    record { wrote = Appends-trans a.contents b.contents c.contents xs ys x.wrote y.wrote; count = omega (arith, x.count, y.count, e) }

longer : (whole front later : Bytes) (n : ℕ) → whole ≡ front ++ later → most_bytes < n + length front → most_bytes < n + length whole
longer whole front later n e past = let sum = ap length e ∙ length-append front later in omega (arith, sum, past)

-- a row's text went out
pub sends_row : {R : Type 0} (rest : Rest R) (row : R) (later : Rest R) (text : Bytes) (before after : SinkState) (old : ℕ)
    (result : Result ℕ PageEnd)
    → IsNext rest row text later → Closes text before after old result
    → IfOk result (λ written. SinkGetsRow rest row later before after old written)
sends_row rest row later text before after old (Ok n) next h = record { text = text; next = next; sends = h.sends; steady = h.steady }
sends_row rest row later text before after old (Err end) next h = tt

-- a front of a row's text is a front of the page
pub front_of_row : {R : Type 0} (rest : Rest R) (row : R) (later : Rest R) (text : Bytes) (before after : SinkState) (old : ℕ)
    (result : Result ℕ PageEnd)
    → IsNext rest row text later → Closes text before after old result
    → IfErr result (λ end. SinkGetsRowFront rest row before after old end)
front_of_row rest row later text before after old (Ok n) next h = tt
front_of_row rest row later text before after old (Err end) next h =
    let sent = take h.size text in
    let left = drop h.size text in
    record {
      bytes = sent;
      sends = h.sends;
      begins = λ rows. (
        left ++ later rows,
        next rows ∙ ap (λ t. t ++ later rows) (sym (take-append-drop h.size text))
            ∙ append_assoc sent left (later rows),
      );
      past = λ rows n e. longer (rest (row ∷ rows)) text (later rows) old (next rows) (h.past n e);
      caused = h.caused;
    }

-- ---- the rows that were given

-- what a page is once these rows were taken
pub record Taken {R : Type 0} (start : TextState R) (rows : List R) (now : TextState R) : Type 0 where
  pub ongoing : now.end ≡ None
  pub text : Bytes
  pub sends : SinkGetsText start.sink now.sink start.written now.written text
  pub next : (more : List R) → start.rest (rows ++ more) ≡ text ++ now.rest more
  pub steady : now.sink.failures ≡ start.sink.failures

pub taken_of : {R : Type 0} (rows : List R) (start now : TextState R) → start.end ≡ None → Took RowTextIsTaken rows start now
    → Taken start rows now
taken_of {R} [] start now ongoing e = record {
  ongoing = rw e ongoing;
  text = [];
  sends = rw e (record { wrote = Appends-nil start.sink.contents; count = omega arith });
  next = rw e (λ more. refl);
  steady = rw e refl;
}
taken_of {R} (row ∷ rows) start now ongoing h =
    let between = h.0 in
    let step = h.1 in
    let later = taken_of rows between now step.goes_on h.2 in
    let text = step.sends.text in
    record {
      ongoing = later.ongoing;
      text = text ++ later.text;
      sends = both_sent start.sink between.sink now.sink _ _ _ text later.text step.sends.sends later.sends;
      next = λ more. step.sends.next (rows ++ more) ∙ ap (λ x. text ++ x) (later.next more)
          ∙ sym (append_assoc text later.text (now.rest more));
      steady = later.steady ∙ step.sends.steady;
    }

-- ---- the end of a page

all_given : {R : Type 0} (rows : List R) (start now : TextState R) (bytes : Bytes) (count : ℕ) (after : SinkState) → IsFresh start
    → (taken : Taken start rows now) → SinkGetsText now.sink after now.written count bytes
    → SinkGetsText start.sink after 0 count (taken.text ++ bytes)
all_given rows start now bytes count after fresh taken sends =
    rw (← fresh.none) (both_sent start.sink now.sink after _ _ _ taken.text bytes taken.sends sends)

front_ends : (page bytes left : Bytes) (before after : SinkState) (count : ℕ) → SinkGetsText before after 0 count bytes
    → page ≡ bytes ++ left
    → Appends before.contents after.contents (take count page) × (count ≤ length page)
front_ends page bytes left before after count sends e =
    let n : count ≡ length bytes = sends.count ∙ zero-add (length bytes) in
    let front : take count page ≡ bytes = rw (e, n) (take-append_seam bytes left) in
    let long = ap length e ∙ length-append bytes left in
    (rw front sends.wrote, omega (arith, long, n))

given_count : {R : Type 0} (start : TextState R) (rows : List R) (now : TextState R) → IsFresh start → (taken : Taken start rows now)
    → now.written ≡ length taken.text
given_count start rows now fresh taken = taken.sends.count ∙ ap (λ n. n + length taken.text) fresh.none ∙ zero-add (length taken.text)

passed : (page text last : Bytes) (n : ℕ) → page ≡ text ++ last → n ≡ length text → most_bytes < n + length last → most_bytes < length page
passed page text last n e c h = let sum = ap length e ∙ length-append text last in omega (arith, sum, c, h)

whole : {R : Type 0} (start : TextState R) (rows : List R) (now : TextState R) (taken : Taken start rows now)
    → start.rest rows ≡ taken.text ++ now.rest []
whole start rows now taken = ap start.rest (sym (append-nil rows)) ∙ taken.next []

ends_closed : {R : Type 0} (rows : List R) (start now : TextState R) (after : SinkState) (result : Result ℕ PageEnd) → IsFresh start
    → Taken start rows now
    → Closes (now.rest []) now.sink after now.written result → WritesPage (start.rest rows) start.sink after result
ends_closed rows start now after (Ok n) fresh taken h =
    let last = now.rest [] in
    let all = all_given rows start now last n after fresh taken h.sends in
    let e = whole start rows now taken in
    record {
      wrote = rw e all.wrote;
      size = all.count ∙ zero-add (length (taken.text ++ last)) ∙ ap length (sym e);
      within = h.within;
      steady = h.steady ∙ taken.steady;
    }
ends_closed rows start now after (Err end) fresh taken h =
    let last = now.rest [] in
    let sent = take h.size last in
    let left = drop h.size last in
    let all = all_given rows start now sent (count_of end) after fresh taken h.sends in
    let page = whole start rows now taken in
    let e = page ∙ ap (λ x. taken.text ++ x) (sym (take-append-drop h.size last)) ∙ sym (append_assoc taken.text sent left) in
    let ends = front_ends (start.rest rows) (taken.text ++ sent) left start.sink after (count_of end) all e in
    record {
      wrote = ends.0;
      within = ends.1;
      past = λ n is. passed (start.rest rows) taken.text last now.written page (given_count start rows now fresh taken) (h.past n is);
      caused = subst (λ n. IsCaused end n after.failures) taken.steady h.caused;
    }

-- a page that ended at a row
pub record Broken {R : Type 0} (start : TextState R) (rows : List R) (now : TextState R) : Type 0 where
  pub end : PageEnd
  pub is : now.end ≡ Some end
  pub count : count_of end ≡ now.written
  pub front : IsFront start.rest rows start.sink.contents now.sink.contents now.written
  pub past : (more : List R) → StoreOnlyIfTooLong end (length (start.rest (rows ++ more)))
  pub caused : IsCaused end start.sink.failures now.sink.failures

pub broken_of : {R : Type 0} (rows : List R) (start now : TextState R) → IsFresh start → StoppedAt RowTextIsTaken StopsText rows start now
    → Broken start rows now
broken_of {R} rows start now fresh h =
    let taken = taken_of h.taken start h.between fresh.ongoing h.took in
    let stop = h.stopped.stopped taken.ongoing in
    let end = stop.end in
    let cut = stop.sends in
    let all = all_given h.taken start h.between cut.bytes (count_of end) now.sink fresh taken cut.sends in
    let split : (more : List R) → start.rest (rows ++ more) ≡ taken.text ++ h.between.rest (h.row ∷ more) = λ more.
    ap (λ x. start.rest (x ++ more)) h.split ∙ ap start.rest (append_assoc h.taken (h.row ∷ []) more) ∙ taken.next (h.row ∷ more) in
    record {
      end = end;
      is = stop.is;
      count = stop.count;
      front = record {
        bytes = taken.text ++ cut.bytes;
        wrote = all.wrote;
        size = sym stop.count ∙ all.count ∙ zero-add (length (taken.text ++ cut.bytes));
        begins = λ more. let left = cut.begins more in (
          left.0,
          split more ∙ ap (λ x. taken.text ++ x) left.1 ∙ sym (append_assoc taken.text cut.bytes left.0),
        );
      };
      past = λ more n e. passed (start.rest (rows ++ more)) taken.text (h.between.rest (h.row ∷ more)) h.between.written (split more)
          (given_count start h.taken h.between fresh taken) (cut.past more n e);
      caused = subst (λ n. IsCaused end n now.sink.failures) taken.steady cut.caused;
    }

-- what was written is a front of the page
pub front_of : {R : Type 0} (now start : TextState R) (rows : List R) → IsFresh start → WasGiven RowTextIsTaken StopsText rows start now
    → IsFront start.rest rows start.sink.contents now.sink.contents now.written
front_of now start rows fresh (inl h) =
    let taken = taken_of rows start now fresh.ongoing h in
    record {
      bytes = taken.text;
      wrote = taken.sends.wrote;
      size = given_count start rows now fresh taken;
      begins = λ more. (now.rest more, taken.next more);
    }
front_of now start rows fresh (inr h) = (broken_of rows start now fresh h).front

-- no write failed if the page has not ended
pub steady_of : {R : Type 0} (now start : TextState R) (rows : List R) → IsFresh start → WasGiven RowTextIsTaken StopsText rows start now
    → now.end ≡ None → now.sink.failures ≡ start.sink.failures
steady_of now start rows fresh (inl h) ongoing = (taken_of rows start now fresh.ongoing h).steady
steady_of now start rows fresh (inr h) ongoing = let broken = broken_of rows start now fresh h in cc (ongoing, broken.is)

ends_broken : {R : Type 0} (rows : List R) (start now : TextState R) (after : SinkState) (result : Result ℕ PageEnd)
    → (broken : Broken start rows now)
    → result ≡ Err broken.end → after ≡ now.sink → WritesPage (start.rest rows) start.sink after result
ends_broken rows start now after result broken e same =
    let front = broken.front in
    let left = front.begins [] in
    let page = ap start.rest (sym (append-nil rows)) ∙ left.1 in
    let sends : SinkGetsText start.sink now.sink 0 (count_of broken.end) front.bytes =
    record { wrote = front.wrote; count = broken.count ∙ front.size ∙ sym (zero-add (length front.bytes)) } in
    let ends = front_ends (start.rest rows) front.bytes left.0 start.sink now.sink (count_of broken.end) sends page in
    rw (e, same) (record { wrote = ends.0; within = ends.1; past = rw append-nil at (broken.past []); caused = broken.caused })

-- the page is finished
pub page_ends : {R : Type 0} (now : TextState R) (after : SinkState) (result : Result ℕ PageEnd)
    → ((end : PageEnd) → now.end ≡ Some end → (result ≡ Err end) × (after ≡ now.sink))
    → (now.end ≡ None → Closes (now.rest []) now.sink after now.written result)
    → (start : TextState R) (rows : List R) → IsFresh start → WasGiven RowTextIsTaken StopsText rows start now
    → WritesPage (start.rest rows) start.sink after result
page_ends now after result ended closed start rows fresh (inl h) =
    let taken = taken_of rows start now fresh.ongoing h in
    ends_closed rows start now after result fresh taken (closed taken.ongoing)
page_ends now after result ended closed start rows fresh (inr h) =
    let broken = broken_of rows start now fresh h in
    let how = ended broken.end broken.is in
    ends_broken rows start now after result broken how.0 how.1

-- the page had ended at a row
pub page_stops : {R : Type 0} (now : TextState R) (after : SinkState) (result : Result ℕ PageEnd)
    → ((end : PageEnd) → now.end ≡ Some end → (result ≡ Err end) × (after ≡ now.sink))
    → (start : TextState R) (rows : List R) → IsFresh start → StoppedAt RowTextIsTaken StopsText rows start now
    → (end : PageEnd) × (result ≡ Err end) × IsFront start.rest rows start.sink.contents after.contents (count_of end)
    × ((more : List R) → StoreOnlyIfTooLong end (length (start.rest (rows ++ more))))
page_stops now after result ended start rows fresh h =
    let broken = broken_of rows start now fresh h in
    let how = ended broken.end broken.is in
    (broken.end, how.0, rw (how.1, broken.count) broken.front, broken.past)
