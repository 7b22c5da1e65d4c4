-- The state of a page that is written row by row, as contracts see it.
use Rattle.std.specs.Prelude.{Err, IsSome, List, None, Option, Result, Some, length, ℕ, ◌++◌, ◌≡◌}
use Rattle.std.specs.Borrow.{MutBor}
use Rattle.std.specs.Io.KnownBytes.{Appends}
use Rattle.index_io.specs.declared.sink.Sink.{Ghosts}
use Rattle.index_rules.specs.Maps.{Bytes}
use Rattle.index_rules.specs.Rows.{StoppedAt, WasGiven}
use Rattle.index_pages.specs.Rest.{Rest, IsWholeOf}
use Rattle.index_pages.specs.Ends.{SinkGetsRow, SinkGetsRowFront, SinkState, StoreOnlyIfTooLong}
use Rattle.index_pages.specs.Ends.{WritesPage, count_of}
use Rattle.index_pages.specs.declared.end.PageEnd.{PageEnd}
use Rattle.index_pages.specs.declared.text.PageText.{PageText}

-- the state of a sink: the bytes that it has, and the number of its failed writes
abbrev pub state_of : {K : Type 0} → Ghosts K → K → SinkState
state_of g sink = record { contents = g.contents sink; failures = g.failures sink }

-- the state of a page
pub record TextState (R : Type 0) : Type 0 where
  -- the text to come
  pub rest : Rest R
  -- what the sink has
  pub sink : SinkState
  -- how much of that is the page's
  pub written : ℕ
  -- how the page ended, if it did
  pub end : Option PageEnd

-- the state of a page, from its four parts
abbrev pub text_state : {R : Type 0} → Rest R → SinkState → ℕ → Option PageEnd → TextState R
text_state rest sink written end = record { rest = rest; sink = sink; written = written; end = end }

-- the state of a page that is written, by the text that its kind has to come
abbrev pub page_state : {K P R X : Type 0} → Ghosts K → (P → Bytes → Rest X) → PageText K P R
    → TextState X
page_state g rest page =
    text_state (rest page.page page.name.now) (state_of g page.sink.now) page.written page.end

-- the sink that a page is written to, as it is now
abbrev pub sink_of : {K P R : Type 0} → PageText K P R → K
sink_of page = page.sink.now

-- The text of a row was written between these two states of its page. Then this many bytes were
-- written.
abbrev pub PageWritesRow : {R : Type 0} → TextState R → R → TextState R → ℕ → Type 0
PageWritesRow before row after written =
    SinkGetsRow before.rest row after.rest before.sink after.sink before.written written

-- the first bytes of a row's text were written, and the page ended so
abbrev pub CutsRowOf : {R : Type 0} → TextState R → R → TextState R → PageEnd → Type 0
CutsRowOf before row after end =
    SinkGetsRowFront before.rest row before.sink after.sink before.written end

-- a row was taken, and its text was written
pub record RowTextIsTaken {R : Type 0} (before : TextState R) (row : R)
    (after : TextState R) : Type 0 where
  pub ongoing : before.end ≡ None
  pub goes_on : after.end ≡ None
  pub sends : PageWritesRow before row after after.written

-- the page ended within a row
pub record EndsAtRow {R : Type 0} (before : TextState R) (row : R)
    (after : TextState R) : Type 0 where
  pub end : PageEnd
  pub is : after.end ≡ Some end
  pub count : count_of end ≡ after.written
  pub sends : CutsRowOf before row after end

-- a row was not taken: the page ended within it, or had ended before and is unchanged
pub record StopsText {R : Type 0} (before : TextState R) (row : R)
    (after : TextState R) : Type 0 where
  pub stopped : before.end ≡ None → EndsAtRow before row after
  pub ended : IsSome before.end → after ≡ before

-- a page without any written byte
pub record IsFresh {R : Type 0} (start : TextState R) : Type 0 where
  pub none : start.written ≡ 0
  pub ongoing : start.end ≡ None

-- A page that writes to this sink. Nothing was written, and for any rows it is their whole page.
pub record Begins {K P R X : Type 0} (g : Ghosts K) (rest : P → Bytes → Rest X)
    (page : PageText K P R) (into : MutBor K) (whole : Rest X) : Type 0 where
  pub sink : page.sink.ghost_name ≡ into.ghost_name
  pub kept : page.sink.now ≡ into.now
  pub whole_page : IsWholeOf (page_state g rest page).rest whole
  pub fresh : IsFresh (page_state g rest page)

-- `P` holds of a page that was fresh and got these rows
abbrev pub AfterRows : {R : Type 0} → TextState R → (TextState R → List R → Type 0) → Type 0
AfterRows {R} now P =
    (start : TextState R) (rows : List R) → IsFresh start
    → WasGiven RowTextIsTaken StopsText rows start now → P start rows

-- the page of the given rows is written, or its first bytes, as many as the end says
abbrev pub EndsPage : {R : Type 0} → TextState R → SinkState → Result ℕ PageEnd → Type 0
EndsPage now after result =
    AfterRows now (λ start rows. WritesPage (start.rest rows) start.sink after result)

-- this many bytes were written, and they begin every page of rows that begin with these
pub record IsFront {R : Type 0} (page : Rest R) (rows : List R) (before after : Option Bytes)
    (count : ℕ) : Type 0 where
  pub bytes : Bytes
  pub wrote : Appends before after bytes
  pub size : count ≡ length bytes
  pub begins : (more : List R) → (left : Bytes) × (page (rows ++ more) ≡ bytes ++ left)

-- the bytes that were written begin the page of the given rows
abbrev pub IsWritten : {R : Type 0} → TextState R → Type 0
IsWritten now =
    AfterRows now
    (λ start rows. IsFront start.rest rows start.sink.contents now.sink.contents now.written)

-- no write failed, unless the page has ended
abbrev pub IsSteady : {R : Type 0} → TextState R → Type 0
IsSteady now =
    AfterRows now (λ start rows. now.end ≡ None → now.sink.failures ≡ start.sink.failures)

-- the number of written bytes, and the facts about them
pub record CountsWritten {R : Type 0} (now : TextState R) (told : ℕ) : Type 0 where
  pub count : told ≡ now.written
  pub front : IsWritten now
  pub steady : IsSteady now

-- If a row was not taken, the end is returned, and the bytes that were written begin the page.
-- `Store` is returned only if every page that begins with these rows is too long.
abbrev pub StopsPage : {R : Type 0} → TextState R → SinkState → Result ℕ PageEnd → Type 0
StopsPage {R} now after result =
    (start : TextState R) (rows : List R) → IsFresh start
    → StoppedAt RowTextIsTaken StopsText rows start now
    → (end : PageEnd) × (result ≡ Err end)
    × IsFront start.rest rows start.sink.contents after.contents (count_of end)
    × ((more : List R) → StoreOnlyIfTooLong end (length (start.rest (rows ++ more))))

-- ---- pages that are written to a sink

-- `PageWritesRow` a page that is written
abbrev pub PageSends : {K P R X : Type 0} → Ghosts K → (P → Bytes → Rest X) → PageText K P R → X
    → PageText K P R → ℕ → Type 0
PageSends g rest before row after =
    PageWritesRow (page_state g rest before) row (page_state g rest after)

-- `CutsRowOf` a page that is written
abbrev pub PageCuts : {K P R X : Type 0} → Ghosts K → (P → Bytes → Rest X) → PageText K P R → X
    → PageText K P R → PageEnd → Type 0
PageCuts g rest before row after =
    CutsRowOf (page_state g rest before) row (page_state g rest after)

-- `RowTextIsTaken` of a page that is written, to the same sink
abbrev pub PageTakes : {K P R X : Type 0} → Ghosts K → (P → Bytes → Rest X) → PageText K P R → X
    → PageText K P R → Type 0
PageTakes g rest before row after =
    (after.sink.ghost_name ≡ before.sink.ghost_name)
    × RowTextIsTaken (page_state g rest before) row (page_state g rest after)

-- `StopsText` of a page that is written, to the same sink
abbrev pub PageStops : {K P R X : Type 0} → Ghosts K → (P → Bytes → Rest X) → PageText K P R → X
    → PageText K P R → Type 0
PageStops g rest before row after =
    (after.sink.ghost_name ≡ before.sink.ghost_name)
    × StopsText (page_state g rest before) row (page_state g rest after)

-- a page that had ended returns its end, and leaves the sink as it was
abbrev pub PageStaysEnded : {K P R : Type 0} → PageText K P R → K → Result ℕ PageEnd → Type 0
PageStaysEnded page after result =
    (end : PageEnd) → page.end ≡ Some end → (result ≡ Err end) × (after ≡ page.sink.now)

-- `EndsPage` of a page that is written
abbrev pub PageEnds : {K P R X : Type 0} → Ghosts K → (P → Bytes → Rest X) → PageText K P R → K
    → Result ℕ PageEnd → Type 0
PageEnds g rest page after result = EndsPage (page_state g rest page) (state_of g after) result

-- `StopsPage` of a page that is written
abbrev pub PageEndsStopped : {K P R X : Type 0} → Ghosts K → (P → Bytes → Rest X) → PageText K P R
    → K → Result ℕ PageEnd → Type 0
PageEndsStopped g rest page after result =
    StopsPage (page_state g rest page) (state_of g after) result
