-- The text of a page, from the walk over its rows to its end.
use Rattle.index_http.proofs.Words.{◌≡◌, ℕ, [], ◌++◌, ◌∷◌, ◌<◌, ◌≤◌, ◌⊎◌, List, append_assoc, append-nil, length, take, true, false, ◌∙◌}
use Rattle.index_http.proofs.Words.{ap, refl, subst, sym, arith, length-append, Ok, Err, inl, inr, is_err, option_map, Appends, Keeps}
use Rattle.index_http.proofs.Words.{HasFailed, Bytes, CountsStoreFault, Tables, Walks, has_fault, Fault, Ghosts, WalksProject, PageStops}
use Rattle.index_http.proofs.Words.{PageTakes, state_of, IsOpen, MeasuresPage, WritesPageText, fault_of, SendsLessThanText, SendsText}
use Rattle.index_http.proofs.Words.{SinkStep, Cut}
use Rattle.std.specs.Prelude.{IfErr, OnOk, Result, Option, None, Some, Bool}
use Rattle.std.proofs.Math.Seq.{take-append_seam}
use Rattle.std.specs.Borrow.{MutBor}
use Rattle.std.proofs.KnownBytes.{Keeps-refl}
use Rattle.index_io.specs.declared.sink.Sink.{Ghosts as Outs}
use Rattle.index_rules.specs.Rows.{Took}
use Rattle.index_rules.specs.StoreFaults.{ends_by_store, fails_by_store}
use Rattle.index_rules.specs.declared.answer.Fault.TheVariants as fault
use Rattle.index_rules.specs.declared.rows.WalkEnd.{WalkEnd}
use Rattle.index_rules.specs.declared.rows.WalkEnd.TheVariants as walk
use Rattle.index_desk.specs.Looks.{LeavesTables, ReadsTables, WalksTables}
use Rattle.index_desk.proofs.LeavesLemmas.{never_falls}
use Rattle.index_pages.specs.Rest.{Rest, IsWholeOf}
use Rattle.index_pages.specs.Ends.{WritesPage, SinkState, count_of}
use Rattle.index_pages.specs.States.{Begins, CountsWritten, EndsPage, IsFresh, IsFront, RowTextIsTaken, StopsPage}
use Rattle.index_pages.specs.States.{StopsText, TextState, page_state}
use Rattle.index_pages.specs.declared.end.PageEnd.{PageEnd}
use Rattle.index_pages.specs.declared.end.PageEnd.TheVariants as page_end
use Rattle.index_pages.specs.declared.text.PageText.{PageText}
use Rattle.index_pages.proofs.TakerLemmas.{walks_by}
use Rattle.index_pages.proofs.TextLemmas.{taken_of}
use Rattle.index_http.specs.PagePasses.{EndsText, IsCutShort, KeepsTables, MeasuresText, SendsPage, WritesPageIn}
use Rattle.index_http.specs.PagePasses.{fault_in, look_of_text, measured_by, sent_by}
use Rattle.index_http.specs.Sends.{is_cut, is_silent, is_write_fault}
use Rattle.index_http.specs.Steps.{DeskStep, StaysHonest}
use Rattle.index_http.specs.declared.page_text.TextEnd.{TextEnd}
use Rattle.index_http.specs.declared.page_text.TextEnd.TheVariants.{Page, Walk}

-- ---- the end of a text

-- the end of a text that was finished
abbrev pub text_by : Result ℕ PageEnd → Result (Option ℕ) TextEnd
text_by (Ok size) = Ok (Some size)
text_by (Err end) = Err (Page end)

by_page : (page : Bytes) (before after : SinkState) (ended : Result ℕ PageEnd) → WritesPage page before after ended
    → WritesPageText (Some page) before after (text_by ended)
by_page page before after (Ok size) wrote = wrote
by_page page before after (Err end) wrote = wrote

first_sent : {R : Type 0} (rest : Rest R) (rows given left : List R) (before after : Option Bytes) (count : ℕ)
    → rows ≡ given ++ left → IsFront rest given before after count
    → (count ≤ length (rest rows)) × Appends before after (take count (rest rows))
first_sent rest rows given left before after count split front =
    let more = front.begins left in
    let whole : rest rows ≡ front.bytes ++ more.0 = ap rest split ∙ more.1 in
    let sent : take count (rest rows) ≡ front.bytes = rw (whole, front.size) (take-append_seam front.bytes more.0) in
    let long = ap length whole ∙ length-append front.bytes more.0 in
    (omega (arith, long, front.size), rw sent front.wrote)

finished_rows : {R A : Type 0} (start now : TextState R) (rows : List R) (after : SinkState) (walked : Result A WalkEnd)
    (ended : Result ℕ PageEnd)
    → has_fault walked ≡ false → IsFresh start → EndsPage now after ended → StopsPage now after ended
    → Walks RowTextIsTaken StopsText rows start now walked
    → WritesPage (start.rest rows) start.sink after ended
finished_rows start now rows after (Ok done) ended right fresh page stops took = page start rows fresh (inl took)
finished_rows start now rows after (Err walk.Stopped) ended right fresh page stops among =
    let stop = stops start among.0 fresh among.3 in
    let given = rw stop.1 at (page start among.0 fresh (inr among.3)) in
    let first = first_sent start.rest rows among.0 among.1 start.sink.contents after.contents (count_of stop.0) among.2 stop.2 in
    rw stop.1 (record { wrote = first.1; within = first.0; past = λ n is. rw among.2 (stop.3 among.1 n is); caused = given.caused })
finished_rows start now rows after (Err walk.OutOfMemory) ended right fresh page stops front = cc right
finished_rows start now rows after (Err walk.Store) ended right fresh page stops front = cc right

-- whether a walk over the rows of a page found it, and no fault ended the walk
abbrev pub goes_on : Result Bool WalkEnd → Bool
goes_on (Ok found) = found
goes_on (Err walk.Stopped) = true
goes_on (Err walk.OutOfMemory) = false
goes_on (Err walk.Store) = false

-- a text that took its rows, or stopped at one, is finished
pub finished : {R : Type 0} (start now : TextState R) (rows : Option (List R)) (after : SinkState) (walked : Result Bool WalkEnd)
    (ended : Result ℕ PageEnd)
    → goes_on walked ≡ true → IsFresh start → EndsPage now after ended → StopsPage now after ended
    → WalksProject RowTextIsTaken StopsText rows start now walked
    → WritesPageText (option_map start.rest rows) start.sink after (text_by ended)
finished start now None after (Ok found) ended there fresh page stops h = let none : found ≡ false = h.1 in cc (there, none)
finished start now None after (Err walk.Stopped) ended there fresh page stops h = cc h.1
finished start now None after (Err walk.OutOfMemory) ended there fresh page stops h = cc there
finished start now None after (Err walk.Store) ended there fresh page stops h = cc there
finished start now (Some rows) after (Ok found) ended there fresh page stops h =
    by_page (start.rest rows) start.sink after ended
    (finished_rows {A = Bool} start now rows after (Ok found) ended refl fresh page stops h.0)
finished start now (Some rows) after (Err walk.Stopped) ended there fresh page stops h =
    by_page (start.rest rows) start.sink after ended
    (finished_rows {A = Bool} start now rows after (Err walk.Stopped) ended refl fresh page stops h.0)
finished start now (Some rows) after (Err walk.OutOfMemory) ended there fresh page stops h = cc there
finished start now (Some rows) after (Err walk.Store) ended there fresh page stops h = cc there

some_left : (text : Bytes) → (text ≡ [] → ⊥) → 0 < length text
some_left [] none = absurd (none refl)
some_left (byte ∷ text) none = omega arith

-- what is a front of the page whatever rows follow is not all of it
short_of : {R : Type 0} (rest : Rest R) (rows given left : List R) (before after : Option Bytes) (count : ℕ)
    → IsOpen rest → rows ≡ given ++ left → IsFront rest given before after count → count < length (rest rows)
short_of rest rows given left before after count is_open split front =
    let last = is_open.row ∷ [] in
    let more = front.begins left in
    let longer = front.begins (left ++ last) in
    let whole : rest rows ≡ front.bytes ++ more.0 = ap rest split ∙ more.1 in
    let long = ap length whole ∙ length-append front.bytes more.0 in
    let rows_on : rest (rows ++ last) ≡ front.bytes ++ longer.0 =
    ap (λ l. rest (l ++ last)) split ∙ ap rest (append_assoc given left last) ∙ longer.1 in
    let some = some_left more.0 (λ none.
    let all : rest rows ≡ front.bytes = whole ∙ ap (λ x. front.bytes ++ x) none ∙ append-nil front.bytes in
    is_open.grows rows longer.0 (rows_on ∙ ap (λ x. x ++ longer.0) (sym all))) in
    omega (arith, long, front.size, some)

cut_rows : {R : Type 0} (start now : TextState R) (rows given left : List R) (count : ℕ) → IsOpen start.rest → IsFresh start
    → CountsWritten now count
    → rows ≡ given ++ left → Took RowTextIsTaken given start now → IsCutShort (start.rest rows) start.sink now.sink count
cut_rows start now rows given left count is_open fresh counts split took =
    let taken = taken_of given start now fresh.ongoing took in
    let front = counts.front start given fresh (inl took) in
    let first = first_sent start.rest rows given left start.sink.contents now.sink.contents now.written split front in
    let short = short_of start.rest rows given left start.sink.contents now.sink.contents now.written is_open split front in
    record {
      wrote = rw counts.count first.1;
      within = rw counts.count short;
      steady = counts.steady start given fresh (inl took) taken.ongoing;
    }

-- a fault ended the walk, and the text is let go
pub cut : {R : Type 0} (start now : TextState R) (rows : Option (List R)) (walked : Result Bool WalkEnd) (told : Fault) (count : ℕ)
    → has_fault walked ≡ true → IsOpen start.rest → IsFresh start → CountsWritten now count
    → WalksProject RowTextIsTaken StopsText rows start now walked
    → WritesPageText (option_map start.rest rows) start.sink now.sink (Err (Walk told count))
cut start now None walked told count faulty is_open fresh counts h =
    (counts.count ∙ ap (λ s. s.written) h.0 ∙ fresh.none, ap (λ s. s.sink) h.0)
cut start now (Some rows) (Ok found) told count faulty is_open fresh counts h = cc faulty
cut start now (Some rows) (Err walk.Stopped) told count faulty is_open fresh counts h = cc faulty
cut start now (Some rows) (Err walk.OutOfMemory) told count faulty is_open fresh counts h = let front = h.0 in
    cut_rows start now rows front.0 front.1 count is_open fresh counts front.2 front.3
cut start now (Some rows) (Err walk.Store) told count faulty is_open fresh counts h = let front = h.0 in
    cut_rows start now rows front.0 front.1 count is_open fresh counts front.2 front.3

-- ---- a text that is written from its beginning

text_walks : {K P T X : Type 0} (out : Outs K) (rest : P → Bytes
    → Rest X) (rows : Option (List X)) (text now : PageText K P T) (walked : Result Bool WalkEnd)
    → WalksProject (PageTakes out rest) (PageStops out rest) rows text now walked
    → (now.sink.ghost_name ≡ text.sink.ghost_name)
    × WalksProject RowTextIsTaken StopsText rows (page_state out rest text) (page_state out rest now) walked
text_walks out rest None text now walked h = (ap (λ t. t.sink.ghost_name) h.0, (ap (page_state out rest) h.0, h.1))
text_walks out rest (Some rows) text now walked h =
    let by = walks_by (PageTakes out rest) (PageStops out rest) RowTextIsTaken StopsText (page_state out rest) (λ t. t.sink.ghost_name)
    (λ before row after it. it) (λ before row after it. it) rows text now walked h.0 in
    (by.0, (by.1, h.1))

same_page : {R : Type 0} (rest whole : Rest R) (rows : Option (List R)) → IsWholeOf rest whole
    → option_map rest rows ≡ option_map whole rows
same_page rest whole None is = refl
same_page rest whole (Some rows) is = ap Some (is rows)

-- a page of these rows is written to this sink
pub written : {K P T X : Type 0} (out : Outs K) (rest : P → Bytes
    → Rest X) (whole : Rest X) (rows : Option (List X)) (text now : PageText K P T) (into : MutBor K) (after : K)
    (walked : Result Bool WalkEnd) (result : Result (Option ℕ) TextEnd)
    → IsOpen (page_state out rest text).rest → Begins out rest text into whole → EndsText out rest now after walked result
    → WalksProject (PageTakes out rest) (PageStops out rest) rows text now walked
    → (now.sink.ghost_name ≡ into.ghost_name) × WritesPageText (option_map whole rows) (state_of out into.now) (state_of out after) result
written out rest whole rows text now into after walked result is_open begins ends walks =
    let by = text_walks out rest rows text now walked walks in
    let page = same_page (page_state out rest text).rest whole rows begins.whole_page in
    (by.0 ∙ begins.sink, rw (page, begins.kept) at (ends (page_state out rest text) rows is_open begins.fresh by.1))

-- the walk over the rows of a page that is always there, as one of a page that may be missing
abbrev pub found : Result (Unit {0}) WalkEnd → Result Bool WalkEnd
found (Ok done) = Ok true
found (Err end) = Err end

pub root_walks : {K R : Type 0} (takes stops : K → R → K → Type 0) (rows : List R) (before after : K) (walked : Result (Unit {0}) WalkEnd)
    → Walks takes stops rows before after walked → WalksProject takes stops (Some rows) before after (found walked)
root_walks takes stops rows before after (Ok done) walks = (walks, refl)
root_walks takes stops rows before after (Err walk.Stopped) walks = (walks, tt)
root_walks takes stops rows before after (Err walk.OutOfMemory) walks = (walks, tt)
root_walks takes stops rows before after (Err walk.Store) walks = (walks, tt)

pub root_fault : (walked : Result (Unit {0}) WalkEnd) → fault_of (found walked) ≡ fault_of walked
root_fault (Ok done) = refl
root_fault (Err walk.Stopped) = refl
root_fault (Err walk.OutOfMemory) = refl
root_fault (Err walk.Store) = refl

right : {A : Type 0} (walked : Result A WalkEnd) → fault_of walked ≡ None → has_fault walked ≡ false
right (Ok done) none = refl
right (Err walk.Stopped) none = refl
right (Err walk.OutOfMemory) none = cc none
right (Err walk.Store) none = cc none

kept : {A : Type 0} (walked : Result A WalkEnd) (result : Result (Option ℕ) TextEnd) (Kept : Type 0) → fault_in result ≡ fault_of walked
    → (has_fault walked ≡ false → Kept) → OnOk (look_of_text result) Kept
kept walked (Ok size) Kept same keeps = keeps (right walked (sym same))
kept walked (Err (Walk fault count)) Kept same keeps = tt
kept walked (Err (Page end)) Kept same keeps = keeps (right walked (sym same))

told : {A : Type 0} (walked : Result A WalkEnd) (result : Result (Option ℕ) TextEnd) (Cause : Type 0) → fault_in result ≡ fault_of walked
    → IfErr walked (λ end. end ≡ walk.Store → Cause) → IfErr (look_of_text result) (λ told. told ≡ fault.Store → Cause)
told walked (Ok size) Cause same causes = tt
told walked (Err (Page end)) Cause same causes = tt
told (Ok done) (Err (Walk fault count)) Cause same causes = cc same
told (Err walk.Stopped) (Err (Walk fault count)) Cause same causes = cc same
told (Err walk.OutOfMemory) (Err (Walk fault count)) Cause same causes = λ is. cc (same, is)
told (Err walk.Store) (Err (Walk fault count)) Cause same causes = λ is. causes refl

by_store : {A : Type 0} (walked : Result A WalkEnd) (result : Result (Option ℕ) TextEnd) → fault_in result ≡ fault_of walked
    → ends_by_store walked ≡ fails_by_store (look_of_text result)
by_store (Ok done) (Ok size) same = refl
by_store (Ok done) (Err (Walk fault count)) same = cc same
by_store (Ok done) (Err (Page end)) same = refl
by_store (Err walk.Stopped) (Ok size) same = refl
by_store (Err walk.Stopped) (Err (Walk fault count)) same = cc same
by_store (Err walk.Stopped) (Err (Page end)) same = refl
by_store (Err walk.OutOfMemory) (Ok size) same = cc same
by_store (Err walk.OutOfMemory) (Err (Walk told count)) same = let e : told ≡ fault.OutOfMemory = cc same in rw e refl
by_store (Err walk.OutOfMemory) (Err (Page end)) same = cc same
by_store (Err walk.Store) (Ok size) same = cc same
by_store (Err walk.Store) (Err (Walk told count)) same = let e : told ≡ fault.Store = cc same in rw e refl
by_store (Err walk.Store) (Err (Page end)) same = cc same

-- the look at the tables of a walk
pub reads : {S A : Type 0} (g : Ghosts S) (old new : S) (walked : Result A WalkEnd) (result : Result (Option ℕ) TextEnd)
    → fault_in result ≡ fault_of walked
    → WalksTables g old new walked → ReadsTables g old new (look_of_text result)
reads g old new walked result same look = record {
  unchanged = look.unchanged;
  kept = kept walked result (g.failures new ≡ g.failures old) same look.kept;
  store = told walked result (HasFailed (g.failures old) (g.failures new)) same look.store;
  stores = subst (CountsStoreFault (g.stores old) (g.stores new)) (by_store walked result same) look.stores;
  once = look.once;
  honest = look.honest;
  clean = look.clean;
  lasts = kept walked result (g.IsHonest old → g.IsClean new → g.IsHonest new) same look.lasts;
  crash = look.crash;
}

-- ---- what the passes make of it

lasts_in : {A : Type 0} (read : Result A Fault) (Kept : Type 0) → OnOk read Kept → is_err read ≡ false → Kept
lasts_in (Ok found) Kept kept ok = kept
lasts_in (Err fault) Kept kept ok = cc ok

-- a look leaves the tables, if it has a fault only if the pass has one
keeps : {S A : Type 0} (g : Ghosts S) (old new : S) (read : Result A Fault) (has_fault : Bool) → (has_fault ≡ false → is_err read ≡ false)
    → ReadsTables g old new read → KeepsTables g old new has_fault
keeps g old new read has_fault same look = record {
  unchanged = look.unchanged;
  kept = λ ok. lasts_in read (g.failures new ≡ g.failures old) look.kept (same ok);
  once = look.once;
  honest = look.honest;
  clean = look.clean;
  lasts = λ ok. lasts_in read (g.IsHonest old → g.IsClean new → g.IsHonest new) look.lasts (same ok);
  crash = look.crash;
  counted = never_falls _ _ _ look.stores;
}

-- so a pass leaves them
pub keeps_leaves : {S : Type 0} (g : Ghosts S) (old new : S) (has_fault : Bool) → KeepsTables g old new has_fault → LeavesTables g old new
keeps_leaves g old new has_fault it = record {
  unchanged = it.unchanged;
  honest = it.honest;
  clean = it.clean;
  crash = it.crash;
  counted = it.counted;
}

is_measured : (result : Result (Option ℕ) TextEnd) → is_err (measured_by result) ≡ false → is_err (look_of_text result) ≡ false
is_measured (Ok size) ok = refl
is_measured (Err (Walk fault count)) ok = cc ok
is_measured (Err (Page end)) ok = refl

measured_text : (pages : Option Bytes) (before after : SinkState) (old new : ℕ) (result : Result (Option ℕ) TextEnd)
    → IfErr (look_of_text result) (λ told. told ≡ fault.Store → HasFailed old new) → WritesPageText pages before after result
    → MeasuresPage pages old new (measured_by result)
measured_text None before after old new (Ok size) store wrote = wrote.0
measured_text None before after old new (Err (Walk fault.OutOfMemory count)) store wrote = tt
measured_text None before after old new (Err (Walk fault.Store count)) store wrote = store refl
measured_text None before after old new (Err (Page end)) store wrote = absurd wrote
measured_text (Some page) before after old new (Ok None) store wrote = wrote
measured_text (Some page) before after old new (Ok (Some size)) store wrote = (wrote.size, wrote.within)
measured_text (Some page) before after old new (Err (Walk fault.OutOfMemory count)) store wrote = tt
measured_text (Some page) before after old new (Err (Walk fault.Store count)) store wrote = inl (store refl)
measured_text (Some page) before after old new (Err (Page (page_end.OutOfMemory count))) store wrote = tt
measured_text (Some page) before after old new (Err (Page (page_end.Store count))) store wrote = inr (wrote.past count refl)
measured_text (Some page) before after old new (Err (Page (page_end.WriteFault count))) store wrote = tt

stores_kept : (result : Result (Option ℕ) TextEnd) (old new : ℕ) → CountsStoreFault old new (fails_by_store (look_of_text result))
    → measured_by result ≡ Err fault.OutOfMemory → new ≡ old
stores_kept (Ok size) old new counts is = counts
stores_kept (Err (Walk told count)) old new counts is = let e : told ≡ fault.OutOfMemory = cc is in rw e at counts
stores_kept (Err (Page end)) old new counts is = counts

-- the first pass
pub measures : {S K : Type 0} (page_of : Tables → Option Bytes) (desk : DeskStep S) (sink : SinkStep K) (result : Result (Option ℕ) TextEnd)
    → WritesPageIn page_of desk sink result → MeasuresText desk.books desk.old desk.new (measured_by result) page_of
measures page_of desk sink result wrote = record {
  measured = λ honest clean. measured_text (page_of (desk.books.tables desk.old)) _ _ _ _ result wrote.look.store
      (wrote.written honest clean);
  keeps = keeps desk.books desk.old desk.new (look_of_text result) _ (is_measured result) wrote.look;
  stores = stores_kept result _ _ wrote.look.stores;
}

sent_text : (page : Bytes) (before after : SinkState) (result : Result (Option ℕ) TextEnd) → WritesPageText (Some page) before after result
    → SendsText page before.contents after.contents (sent_by result)
sent_text page before after (Ok None) wrote = absurd wrote
sent_text page before after (Ok (Some size)) wrote = wrote.wrote
sent_text page before after (Err (Walk fault count)) wrote = (omega (arith, wrote.within), wrote.wrote)
sent_text page before after (Err (Page (page_end.OutOfMemory count))) wrote = (wrote.within, wrote.wrote)
sent_text page before after (Err (Page (page_end.Store count))) wrote = (wrote.within, wrote.wrote)
sent_text page before after (Err (Page (page_end.WriteFault count))) wrote = (wrote.within, wrote.wrote)

none_sent : (before after : SinkState) (result : Result (Option ℕ) TextEnd) → WritesPageText None before after result
    → Keeps before.contents after.contents × (sent_by result ≡ Err (Cut 0))
none_sent before after (Ok size) wrote = (rw wrote.1 (Keeps-refl before.contents), rw wrote.0 refl)
none_sent before after (Err (Walk fault count)) wrote = (rw wrote.1 (Keeps-refl before.contents), rw wrote.0 refl)
none_sent before after (Err (Page end)) wrote = absurd wrote

failed : (pages : Option Bytes) (before after : SinkState) (result : Result (Option ℕ) TextEnd) → WritesPageText pages before after result
    → is_write_fault (sent_by result) ≡ true → HasFailed before.failures after.failures
failed pages before after (Ok None) wrote is = cc is
failed pages before after (Ok (Some size)) wrote is = cc is
failed pages before after (Err (Walk fault count)) wrote is = cc is
failed pages before after (Err (Page (page_end.OutOfMemory count))) wrote is = cc is
failed pages before after (Err (Page (page_end.Store count))) wrote is = cc is
failed None before after (Err (Page (page_end.WriteFault count))) wrote is = absurd wrote
failed (Some page) before after (Err (Page (page_end.WriteFault count))) wrote is = wrote.caused

steady : (pages : Option Bytes) (before after : SinkState) (result : Result (Option ℕ) TextEnd) → WritesPageText pages before after result
    → is_write_fault (sent_by result) ≡ false → after.failures ≡ before.failures
steady None before after (Ok size) wrote ok = ap (λ s. s.failures) wrote.1
steady None before after (Err (Walk fault count)) wrote ok = ap (λ s. s.failures) wrote.1
steady None before after (Err (Page end)) wrote ok = absurd wrote
steady (Some page) before after (Ok None) wrote ok = absurd wrote
steady (Some page) before after (Ok (Some size)) wrote ok = wrote.steady
steady (Some page) before after (Err (Walk fault count)) wrote ok = wrote.steady
steady (Some page) before after (Err (Page (page_end.OutOfMemory count))) wrote ok = wrote.caused
steady (Some page) before after (Err (Page (page_end.Store count))) wrote ok = wrote.caused
steady (Some page) before after (Err (Page (page_end.WriteFault count))) wrote ok = cc ok

is_told : (result : Result (Option ℕ) TextEnd) → is_silent (sent_by result) ≡ false
is_told (Ok None) = refl
is_told (Ok (Some size)) = refl
is_told (Err (Walk fault count)) = refl
is_told (Err (Page (page_end.OutOfMemory count))) = refl
is_told (Err (Page (page_end.Store count))) = refl
is_told (Err (Page (page_end.WriteFault count))) = refl

is_sent : (result : Result (Option ℕ) TextEnd) → is_cut (sent_by result) ≡ false → is_err (look_of_text result) ≡ false
is_sent (Ok size) ok = refl
is_sent (Err (Walk fault count)) ok = cc ok
is_sent (Err (Page end)) ok = refl

less : {S K : Type 0} (page_of : Tables → Option Bytes) (desk : DeskStep S) (sink : SinkStep K) (result : Result (Option ℕ) TextEnd)
    → WritesPageIn page_of desk sink result → desk.books.IsHonest desk.old → desk.books.IsClean desk.new → StaysHonest desk
    ⊎ ((page : Bytes) → page_of (desk.books.tables desk.old) ≡ Some page
    → SendsLessThanText page (sink.out.contents sink.old) (sink.out.contents sink.new))
less page_of desk sink (Ok size) wrote honest clean = inl (wrote.look.lasts honest clean, wrote.look.kept)
less page_of desk sink (Err (Page end)) wrote honest clean = inl (wrote.look.lasts honest clean, wrote.look.kept)
less page_of desk sink (Err (Walk fault count)) wrote honest clean =
    inr (λ page is. let short = subst (λ p. WritesPageText p (state_of sink.out sink.old) (state_of sink.out sink.new)
    (Err (Walk fault count))) is (wrote.written honest clean) in
    (count, short.within, short.wrote))

-- the second pass
pub sends : {S K : Type 0} (page_of : Tables → Option Bytes) (desk : DeskStep S) (sink : SinkStep K) (result : Result (Option ℕ) TextEnd)
    → WritesPageIn page_of desk sink result → SendsPage page_of desk sink (sent_by result)
sends page_of desk sink result wrote =
    let before = state_of sink.out sink.old in
    let after = state_of sink.out sink.new in
    let given = wrote.given in
    record {
      sent = λ honest clean page is. sent_text page before after result
          (subst (λ p. WritesPageText p before after result) is (wrote.written honest clean));
      none = λ honest clean is. none_sent before after result
          (subst (λ p. WritesPageText p before after result) is (wrote.written honest clean));
      sends = record {
        write_fault = failed given.0 before after result given.1;
        writes = steady given.0 before after result given.1;
        no_read_fault = λ is. let silent : is_silent (sent_by result) ≡ true = rw is refl in cc (silent, is_told result);
        whole = λ ok. cc ok;
      };
      told = is_told result;
      lasts = less page_of desk sink result wrote;
      keeps = keeps desk.books desk.old desk.new (look_of_text result) _ (is_sent result) wrote.look;
    }

-- what was sent whole to a sink with nothing in it is what it has
pub gathered : (pages : Option Bytes) (before after : SinkState) (size : ℕ) (had has : Bytes) → before.contents ≡ Some had → had ≡ []
    → after.contents ≡ Some has
    → WritesPageText pages before after (Ok (Some size)) → pages ≡ Some has
gathered None before after size had has nothing none all wrote = cc wrote.0
gathered (Some page) before after size had has nothing none all wrote =
    let whole : has ≡ had ++ page = rw (nothing, all) at wrote.wrote in ap Some (sym (rw none at whole))
