-- Wrong readings of an input, and wrong pages, which the contracts exclude.
use Rattle.std.specs.Prelude.{Bool, Err, None, Ok, Option, Result, Some, [], length, ℕ, ◌+◌, ◌<◌}
use Rattle.std.specs.Prelude.{◌≡◌, ◌≤◌}
use Rattle.index_io.specs.declared.sink.Sink.{Ghosts as Outs}
use Rattle.index_desk.specs.Rules.{by_tables}
use Rattle.index_desk.specs.Standings.{AreOwnersAfter, IsStandingAfter}
use Rattle.index_rules.specs.declared.standing.HeldName.{HeldName}
use Rattle.index_rules.specs.declared.standing.Standing.TheVariants as standing
use Rattle.index_message.specs.Heads.{HasNoHead, longest_head}
use Rattle.index_message.specs.Messages.{EndsUnfinished, IsMessage, MayHaveHead}
use Rattle.index_message.specs.Reads.{BytesTakenAtMost}
use Rattle.index_message.specs.Requests.{HttpRequest}
use Rattle.index_message.specs.declared.message.Message.TheVariants.{Whole}
use Rattle.index_http.specs.Asks.{AsksDesk}
use Rattle.index_http.specs.Ends.{DeskRepliesByHistory, DeskRepliesByTables}
use Rattle.index_http.specs.Exchanges.{InputGetsText, refusal_reply, store_reply}
use Rattle.index_http.specs.PagePasses.{MeasuresText, SendsPage}
use Rattle.index_http.specs.PageShows.{PageShown}
use Rattle.index_http.specs.Replies.{Reply, reply_text}
use Rattle.index_http.specs.Shows.{GivesMessage, LookFails, asks_page, is_look}
use Rattle.index_http.specs.Steps.{at_desk, to_sink}
use Rattle.index_http.specs.declared.connection.IoEnd.{IoEnd}
use Rattle.index_http.specs.declared.connection.IoEnd.TheVariants as io_end
use Rattle.index_rules.specs.declared.answer.Fault.{Fault}
use Rattle.index_rules.specs.declared.answer.Fault.TheVariants as fault
use Rattle.index_rules.specs.declared.answer.Refusal.TheVariants.{NoProject}
use Rattle.index_rules.specs.declared.books.Books.{Ghosts}
use Rattle.index_rules.specs.Facts.{HasOneBearer}
use Rattle.index_rules.specs.History.{History}
use Rattle.index_rules.specs.Legal.{IsLegal}
use Rattle.index_rules.specs.Maps.{Bytes}
use Rattle.index_rules.specs.PastNames.{state_after}
use Rattle.index_rules.specs.PastNames as past
use Rattle.index_rules.specs.StandsFor.{StandsFor, case_record_after, project_after}
use Rattle.index_rules.specs.Tables.{Tables}
use Rattle.index.specs.RefutedLines.{RefutesLineCounts}
use Rattle.index.specs.RefutedReplies.{IsMissing, RefutesReplies, bad_head_text}

-- ---- what was read of an input

-- no connection ends in one of these ways after all of this input was read
pub record RefutesReads (input : Bytes) : Type 0 where
  -- a read failed, though a whole request was read
  pub whole : (request : HttpRequest) (body : Bytes) → IsMessage input (Whole request body)
      → ¬ EndsUnfinished (Some input) (Some [])
  -- a read failed, though the input has no head and is as long as the longest one
  pub long : HasNoHead input → longest_head ≤ length input → ¬ EndsUnfinished (Some input) (Some [])
  -- memory ran out, though the input has no head and is as long as the longest one
  pub memory : HasNoHead input → longest_head ≤ length input → ¬ MayHaveHead (Some input) (Some [])
  -- the input gave a message that only reads, or one that asks for a page, though it has no head
  pub look : HasNoHead input → ¬ GivesMessage is_look (Some input)
  pub page : HasNoHead input → ¬ GivesMessage asks_page (Some input)
  -- more was read than may be
  pub most : (most : ℕ) (rest : Bytes) → most + length rest < length input
      → ¬ BytesTakenAtMost most (Some input) (Some rest)

-- no input without a head gets another reply than a malformed head, or changes a table
pub record RefutesInput {S K : Type 0} (g : Ghosts S) (out : Outs K) (old new : S)
    (before after : K) (at : ℕ) (input : Bytes) : Type 0 where
  -- another reply by the tables
  pub tables : HasOneBearer (g.tables old) → IsMissing out before after (bad_head_text input)
      → ¬ DeskRepliesByTables (λ cause T. InputGetsText by_tables cause at T (Some input))
      (at_desk g old new) (to_sink out before after) (Ok tt)
  -- another reply by a history
  pub history : (h : History) → IsLegal h → StandsFor (g.tables old) h
      → IsMissing out before after (bad_head_text input)
      → ¬ DeskRepliesByHistory at (Some input) (at_desk g old new) (to_sink out before after)
      (Ok tt)
  -- a call was asked of the desk
  pub asks : (result : Result (Unit {0}) IoEnd) → (¬ (g.tables new ≡ g.tables old))
      → ¬ AsksDesk at (Some input) (at_desk g old new) (to_sink out before after) result

-- ---- pages

-- no pass over the rows of a page counts another length, sends another text or changes a table
pub record RefutesPasses {S K : Type 0} (g : Ghosts S) (out : Outs K) (old new : S)
    (before after : K) : Type 0 where
  -- another length of a page
  pub size : (page_of : Tables → Option Bytes) (page : Bytes) (count : ℕ)
      → page_of (g.tables old) ≡ Some page → (¬ (count ≡ length page))
      → ¬ MeasuresText g old new (Ok (Some count)) page_of
  -- a length of a page that is not there
  pub none : (page_of : Tables → Option Bytes) (count : ℕ) → page_of (g.tables old) ≡ None
      → ¬ MeasuresText g old new (Ok (Some count)) page_of
  -- no page, though it is there
  pub some : (page_of : Tables → Option Bytes) (page : Bytes) → page_of (g.tables old) ≡ Some page
      → ¬ MeasuresText g old new (Ok None) page_of
  -- the store failed, but the pass says that memory ran out
  pub memory : (page_of : Tables → Option Bytes) → (¬ (g.stores new ≡ g.stores old))
      → ¬ MeasuresText g old new (Err fault.OutOfMemory) page_of
  -- a page was not sent
  pub text : (page_of : Tables → Option Bytes) (page : Bytes) → page_of (g.tables old) ≡ Some page
      → IsMissing out before after page
      → ¬ SendsPage page_of (at_desk g old new) (to_sink out before after) (Ok tt)
  -- a page was sent that is not there
  pub sent : (page_of : Tables → Option Bytes) → page_of (g.tables old) ≡ None
      → ¬ SendsPage page_of (at_desk g old new) (to_sink out before after) (Ok tt)
  -- memory ran out before a byte was sent
  pub silent : (page_of : Tables → Option Bytes)
      → ¬ SendsPage page_of (at_desk g old new) (to_sink out before after) (Err io_end.OutOfMemory)
  -- a table changed
  pub measured : (result : Result (Option ℕ) Fault) (page_of : Tables → Option Bytes)
      → (¬ (g.tables new ≡ g.tables old)) → ¬ MeasuresText g old new result page_of
  pub changed : (result : Result (Unit {0}) IoEnd) (page_of : Tables → Option Bytes)
      → (¬ (g.tables new ≡ g.tables old))
      → ¬ SendsPage page_of (at_desk g old new) (to_sink out before after) result

-- ---- what is shown

-- no standing of a name is that of another one, or says what the history does not
pub record RefutesStandings (h : History) (name : Bytes) : Type 0 where
  -- the standing of another name
  pub free_of : (other : Bytes) → (¬ (other ≡ name))
      → ¬ IsStandingAfter h name (standing.Free other)
  pub prohibited_of : (other : Bytes) → (¬ (other ≡ name))
      → ¬ IsStandingAfter h name (standing.Prohibited other)
  pub held_of : (held : HeldName) → (¬ (held.name ≡ name))
      → ¬ IsStandingAfter h name (standing.Held held)
  -- free, prohibited or held, though the name is not
  pub free : (other : Bytes) → (¬ (state_after h name ≡ past.Free))
      → ¬ IsStandingAfter h name (standing.Free other)
  pub prohibited : (other : Bytes) → (¬ (state_after h name ≡ past.Prohibited))
      → ¬ IsStandingAfter h name (standing.Prohibited other)
  pub held : (held : HeldName) → (¬ (state_after h name ≡ past.Held))
      → ¬ IsStandingAfter h name (standing.Held held)
  -- a held name with another spelling, quota, charge, number of files or last upload
  pub project : (held : HeldName) → (¬ (held.project ≡ project_after h name))
      → ¬ IsStandingAfter h name (standing.Held held)
  -- other owners
  pub owners : (held : HeldName) → (¬ AreOwnersAfter h name held.owners)
      → ¬ IsStandingAfter h name (standing.Held held)
  -- another case, or none though one is open
  pub cases : (held : HeldName) → (¬ (held.case ≡ case_record_after h name))
      → ¬ IsStandingAfter h name (standing.Held held)

-- no failed look, no page and no standing is shown in one of these wrong ways
pub record RefutesShown : Type 0 where
  -- a failed look ends well, though memory ran out
  pub memory : (is_head : Bool) (before after : Option Bytes)
      → ¬ LookFails is_head fault.OutOfMemory before after (Ok tt)
  -- another reply than that to a failed store was sent
  pub store : (is_head : Bool) (sent : Bytes) → (¬ (sent ≡ reply_text is_head store_reply))
      → ¬ LookFails is_head fault.Store (Some []) (Some sent) (Ok tt)
  -- another reply than that there is no such project
  pub none : (served : _) (reply : Reply) → (¬ (reply ≡ refusal_reply NoProject))
      → ¬ PageShown served None reply
  pub standings : (h : History) (name : Bytes) → RefutesStandings h name

-- ---- all of them

-- all wrong replies, readings, pages and answers to lines that the contracts exclude
pub record RefutesExchanges {S K : Type 0} (g : Ghosts S) (out : Outs K) : Type 0 where
  pub replies : RefutesReplies g out
  pub reads : (input : Bytes) → RefutesReads input
  pub inputs : (old new : S) (before after : K) → g.IsHonest new → g.IsHonest old → g.IsClean new
      → (at : ℕ) (input : Bytes) → HasNoHead input
      → RefutesInput g out old new before after at input
  pub passes : (old new : S) (before after : K) → g.IsHonest new → g.IsHonest old → g.IsClean new
      → RefutesPasses g out old new before after
  pub shown : RefutesShown
  pub lines : RefutesLineCounts
