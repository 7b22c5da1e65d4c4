-- The text of a page, in one pass over its rows. Of a long page a first pass counts the bytes, and
-- a second sends them.
use Rattle.std.specs.Prelude.{Bool, Err, IfOk, IfSome, List, None, Ok, Option, Result, Some, []}
use Rattle.std.specs.Prelude.{false, is_err, length, option_map, take, true, ℕ, ⊤, ◌++◌, ◌<◌, ◌∷◌}
use Rattle.std.specs.Prelude.{◌≡◌, ◌≤◌, ◌⊎◌}
use Rattle.std.specs.Global.{Vec}
use Rattle.std.specs.Io.KnownBytes.{Appends, Keeps}
use Rattle.index_io.specs.Counts.{FailsAtMostOnce, HasFailed}
use Rattle.index_io.specs.declared.sink.Sink.{Ghosts as Outs}
use Rattle.index_rules.specs.Maps.{Bytes}
use Rattle.index_rules.specs.Tables.{Tables}
use Rattle.index_rules.specs.declared.answer.Fault.{Fault}
use Rattle.index_rules.specs.declared.answer.Fault.TheVariants as fault
use Rattle.index_rules.specs.declared.books.Books.{Ghosts}
use Rattle.index_rules.specs.declared.rows.WalkEnd.{WalkEnd}
use Rattle.index_rules.specs.declared.rows.WalkEnd.TheVariants as walk_end
use Rattle.index_desk.specs.Looks.{NeverFalls, ReadsTables}
use Rattle.index_desk.specs.Projects.{WalksProject}
use Rattle.index_pages.specs.Ends.{IsCut, IsWhole, SinkState, most_bytes}
use Rattle.index_pages.specs.Rest.{Rest}
use Rattle.index_pages.specs.States.{IsFresh, RowTextIsTaken, StopsText, TextState, page_state}
use Rattle.index_pages.specs.States.{state_of}
use Rattle.index_pages.specs.declared.end.PageEnd.TheVariants as page_end
use Rattle.index_pages.specs.declared.text.PageText.{PageText}
use Rattle.index_http.specs.Sends.{ReplyFailsOnly, SendsLessThanText, SendsText, is_cut, is_silent}
use Rattle.index_http.specs.Steps.{DeskStep, SinkStep, StaysHonest}
use Rattle.index_http.specs.declared.connection.IoEnd.{IoEnd}
use Rattle.index_http.specs.declared.connection.IoEnd.TheVariants.{WriteFault, Cut}
use Rattle.index_http.specs.declared.page_text.TextEnd.{TextEnd}
use Rattle.index_http.specs.declared.page_text.TextEnd.TheVariants.{Page, Walk}

-- ---- the text of a page

-- the first bytes of a page were written, this many, and not all
pub record IsCutShort (page : Bytes) (before after : SinkState) (count : ℕ) : Type 0 where
  pub wrote : Appends before.contents after.contents (take count page)
  pub within : count < length page
  pub steady : after.failures ≡ before.failures

-- the page was written whole, or its first bytes, as many as the end says; or there is no page, and
-- nothing was written
abbrev pub WritesPageText : Option Bytes → SinkState → SinkState → Result (Option ℕ) TextEnd
    → Type 0
WritesPageText None before after (Ok size) = (size ≡ None) × (after ≡ before)
WritesPageText None before after (Err (Walk fault count)) = (count ≡ 0) × (after ≡ before)
WritesPageText None before after (Err (Page end)) = ⊥
WritesPageText (Some page) before after (Ok None) = ⊥
WritesPageText (Some page) before after (Ok (Some size)) = IsWhole page before after size
WritesPageText (Some page) before after (Err (Walk fault count)) =
    IsCutShort page before after count
WritesPageText (Some page) before after (Err (Page end)) = IsCut page before after end

-- with this row more, no page begins with what it was without it
pub record IsOpen {R : Type 0} (rest : Rest R) : Type 0 where
  pub row : R
  pub grows : (rows : List R) (left : Bytes) → rest (rows ++ row ∷ []) ≡ rest rows ++ left → ⊥

-- the text of a page that was not begun before this walk is written, or its first bytes
abbrev pub EndsText : {K P R X : Type 0} → Outs K → (P → Bytes → Rest X) → PageText K P R → K
    → Result Bool WalkEnd → Result (Option ℕ) TextEnd → Type 0
EndsText {K} {P} {R} {X} out rest text after walked result =
    (start : TextState X) (rows : Option (List X)) → IsOpen start.rest → IsFresh start
    → WalksProject RowTextIsTaken StopsText rows start (page_state out rest text) walked
    → WritesPageText (option_map start.rest rows) start.sink (state_of out after) result

-- the fault that ended a walk; a taker that stopped it is none
abbrev pub fault_of : {A : Type 0} → Result A WalkEnd → Option Fault
fault_of (Ok done) = None
fault_of (Err walk_end.Stopped) = None
fault_of (Err walk_end.OutOfMemory) = Some fault.OutOfMemory
fault_of (Err walk_end.Store) = Some fault.Store

-- the fault that ended the walk over the rows of a text
abbrev pub fault_in : Result (Option ℕ) TextEnd → Option Fault
fault_in (Ok size) = None
fault_in (Err (Walk fault count)) = Some fault
fault_in (Err (Page end)) = None

-- the look at the tables of a pass over the rows of a page
abbrev pub look_of_text : Result (Option ℕ) TextEnd → Result (Option ℕ) Fault
look_of_text (Ok size) = Ok size
look_of_text (Err (Walk fault count)) = Err fault
look_of_text (Err (Page end)) = Ok None

-- the tables' page is written
pub record WritesPageIn {S K : Type 0} (page_of : Tables → Option Bytes)
    (desk : DeskStep S) (sink : SinkStep K) (result : Result (Option ℕ) TextEnd) : Type 0 where
  -- if the store was honest before and is clean after
  pub written : desk.books.IsHonest desk.old → desk.books.IsClean desk.new
      → WritesPageText (page_of (desk.books.tables desk.old))
      (state_of sink.out sink.old) (state_of sink.out sink.new) result
  -- else some page is written in this way, or none
  pub given : (page : Option Bytes)
      × WritesPageText page (state_of sink.out sink.old) (state_of sink.out sink.new) result
  pub look : ReadsTables desk.books desk.old desk.new (look_of_text result)

-- the length of a page, from the end of its text
abbrev pub measured_by : Result (Option ℕ) TextEnd → Result (Option ℕ) Fault
measured_by (Ok size) = Ok size
measured_by (Err (Walk fault count)) = Err fault
measured_by (Err (Page (page_end.OutOfMemory count))) = Err fault.OutOfMemory
measured_by (Err (Page (page_end.Store count))) = Err fault.Store
measured_by (Err (Page (page_end.WriteFault count))) = Err fault.OutOfMemory

-- the end of a connection, from the end of its page's text
abbrev pub sent_by : Result (Option ℕ) TextEnd → Result (Unit {0}) IoEnd
sent_by (Ok None) = Err (Cut 0)
sent_by (Ok (Some size)) = Ok tt
sent_by (Err (Walk fault count)) = Err (Cut count)
sent_by (Err (Page (page_end.OutOfMemory count))) = Err (Cut count)
sent_by (Err (Page (page_end.Store count))) = Err (Cut count)
sent_by (Err (Page (page_end.WriteFault count))) = Err (WriteFault count)

-- ---- the passes over a long page

-- the length of a page is returned, or `None` if there is none, or `Store` if the store failed or
-- the page is too long
abbrev pub MeasuresPage : Option Bytes → ℕ → ℕ → Result (Option ℕ) Fault → Type 0
MeasuresPage None before after (Ok count) = count ≡ None
MeasuresPage None before after (Err fault.Store) = HasFailed before after
MeasuresPage None before after (Err fault.OutOfMemory) = ⊤
MeasuresPage (Some page) before after (Ok None) = ⊥
MeasuresPage (Some page) before after (Ok (Some count)) =
    (count ≡ length page) × (count ≤ most_bytes)
MeasuresPage (Some page) before after (Err fault.Store) =
    HasFailed before after ⊎ (most_bytes < length page)
MeasuresPage (Some page) before after (Err fault.OutOfMemory) = ⊤

-- a look leaves the tables
pub record KeepsTables {S : Type 0} (g : Ghosts S) (old new : S) (has_fault : Bool) : Type 0 where
  -- no table changes
  pub unchanged : g.IsHonest new → g.tables new ≡ g.tables old
  -- without a fault, no call of the store failed
  pub kept : has_fault ≡ false → g.failures new ≡ g.failures old
  -- at most one call of the store failed
  pub once : FailsAtMostOnce (g.failures old) (g.failures new)
  -- the store is honest only if it was before
  pub honest : g.IsHonest new → g.IsHonest old
  -- the store is clean only if it was before
  pub clean : g.IsClean new → g.IsClean old
  -- without a fault, an honest store whose disk stays clean is still honest
  pub lasts : has_fault ≡ false → g.IsHonest old → g.IsClean new → g.IsHonest new
  -- a crash leaves only what it could have left before
  pub crash : (T : Tables) → g.may_leave new T → g.may_leave old T
  -- the count of failed stores does not fall
  pub counted : NeverFalls (g.stores old) (g.stores new)

-- ---- what each pass does, if the store was honest before and is clean after

-- the first pass returns the length of the tables' page
pub record MeasuresText {S : Type 0} (g : Ghosts S) (old new : S)
    (result : Result (Option ℕ) Fault) (page_of : Tables → Option Bytes) : Type 0 where
  pub measured : g.IsHonest old → g.IsClean new
      → MeasuresPage (page_of (g.tables old)) (g.failures old) (g.failures new) result
  -- no table changes
  pub keeps : KeepsTables g old new (is_err result)
  -- a failed store is never reported as out of memory
  pub stores : result ≡ Err fault.OutOfMemory → g.stores new ≡ g.stores old

-- a measured page exists, and has this length
pub record IsMeasured (page : Option Bytes) (count : ℕ) : Type 0 where
  pub bytes : Bytes
  pub is : page ≡ Some bytes
  pub size : count ≡ length bytes
  pub within : count ≤ most_bytes

-- the second pass sends the tables' page
pub record SendsPage {S K : Type 0} (page_of : Tables → Option Bytes)
    (desk : DeskStep S) (sink : SinkStep K) (result : Result (Unit {0}) IoEnd) : Type 0 where
  -- the page is sent, or its first bytes, as many as the end says
  pub sent : desk.books.IsHonest desk.old → desk.books.IsClean desk.new
      → (page : Bytes) → page_of (desk.books.tables desk.old) ≡ Some page
      → SendsText page (sink.out.contents sink.old) (sink.out.contents sink.new) result
  -- if there is no page, nothing is sent
  pub none : desk.books.IsHonest desk.old → desk.books.IsClean desk.new
      → page_of (desk.books.tables desk.old) ≡ None
      → Keeps (sink.out.contents sink.old) (sink.out.contents sink.new) × (result ≡ Err (Cut 0))
  pub sends : ReplyFailsOnly sink.out sink.old sink.new true result
  -- the end says how much was sent
  pub told : is_silent result ≡ false
  -- if the store failed, less than the whole page was sent
  pub lasts : desk.books.IsHonest desk.old → desk.books.IsClean desk.new → StaysHonest desk
      ⊎ ((page : Bytes) → page_of (desk.books.tables desk.old) ≡ Some page
      → SendsLessThanText page (sink.out.contents sink.old) (sink.out.contents sink.new))
  -- no table changes
  pub keeps : KeepsTables desk.books desk.old desk.new (is_cut result)

-- A gathered text is the tables' page. No table changes.
pub record Gathers {S : Type 0} (g : Ghosts S) (old new : S)
    (result : Result (Option (Vec ℕ)) Fault) (page_of : Tables → Option Bytes) : Type 0 where
  pub text : g.IsHonest old → g.IsClean new
      → IfOk result (λ found. IfSome found (λ text. page_of (g.tables old) ≡ Some text.items))
  pub look : ReadsTables g old new result
