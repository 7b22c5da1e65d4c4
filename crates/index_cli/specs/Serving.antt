-- The state after the messages of connections, one after the other, by rules over any state.
use Rattle.std.specs.Prelude.{Err, IfSome, List, Ok, Option, Result, [], ℕ, ◌<◌, ◌∷◌}
use Rattle.std.specs.Prelude.{⊤, ◌≡◌, ◌⊎◌}
use Rattle.index_io.specs.Counts.{HasFailed}
use Rattle.index_rules.specs.declared.answer.Answer.{Answer}
use Rattle.index_rules.specs.declared.books.Books.{Ghosts}
use Rattle.index_rules.specs.declared.call.Call.{Call}
use Rattle.index_rules.specs.Facts.{HasOneBearer}
use Rattle.index_desk.specs.ByRules.{StandsAfter}
use Rattle.index_desk.specs.Invariants.{KeepsInvariants}
use Rattle.index_desk.specs.Looks.{LeavesTables}
use Rattle.index_desk.specs.Rules.{Rules, by_history, by_tables}
use Rattle.index_desk.specs.Takes.{ByHistory, ByTables, Takes}
use Rattle.index_http.specs.Asks.{Asks}
use Rattle.index_http.specs.Ends.{ReplyEnds, SentBytesShowFailure}
use Rattle.index_http.specs.Exchanges.{HasRequest, InputGetsText, IsFaultless}
use Rattle.index_http.specs.Shows.{GivesMessage, asks_page}
use Rattle.index_http.specs.declared.connection.IoEnd.{IoEnd}
use Rattle.index_http.specs.declared.connection.IoEnd.TheVariants.{Cut, OutOfMemory}
use Rattle.index_http.specs.declared.connection.IoEnd.TheVariants.{ReadFault, WriteFault}
use Rattle.index_http.specs.Steps.{DeskStep, StaysHonest, at_desk}
use Rattle.index_cli.specs.Connections.{AddsReply, ClientTaken, Exchange, IsUnsent}
use Rattle.index_cli.specs.Steps.{ConnectionsStep}
use Rattle.index_cli.specs.declared.end.ServeEnd.{ServeEnd}

-- An exchange ended early only for a read or a write that failed on it, or for want of memory. A
-- page may be cut short too.
abbrev pub EndHasCause : Exchange → Result (Unit {0}) IoEnd → Type 0
EndHasCause exchange (Ok done) = ⊤
EndHasCause exchange (Err ReadFault) = 0 < exchange.faults.reads
EndHasCause exchange (Err OutOfMemory) = ⊤
EndHasCause exchange (Err (WriteFault count)) = 0 < exchange.faults.writes
EndHasCause exchange (Err (Cut count)) = GivesMessage asks_page exchange.given

-- A connection was answered: the reply to its message was sent. Or a first part of it, and a write
-- failed or the reply is a page; or nothing was sent, nothing changed, and a read failed or memory
-- ran out.
pub record ExchangeIsAnswered {S : Type 0} (rules : Rules S) (exchange : Exchange) (s s' : S)
    : Type 0 where
  pub failures : ℕ
  pub later_failures : ℕ
  pub ended : Result (Unit {0}) IoEnd
  pub ends : ReplyEnds (λ text.
      InputGetsText rules (HasFailed failures later_failures) exchange.at s exchange.given text s')
      (s' ≡ s) exchange.had exchange.has ended
  pub cause : EndHasCause exchange ended

-- a connection with a whole request was answered, and the bytes that were sent show a failure: they
-- are the reply to a fault or its first bytes, or less than the whole reply
pub record ExchangeShowsFailure {S : Type 0} (rules : Rules S) (exchange : Exchange) (s : S)
    : Type 0 where
  pub later : S
  pub answers : ExchangeIsAnswered rules exchange s later
  pub asked : HasRequest exchange.given
  pub shows : SentBytesShowFailure (IsFaultless rules exchange.at exchange.given s)
      exchange.had exchange.has

-- exchanges, newest first, were answered one after the other
abbrev pub ExchangesAreAnswered : {S : Type 0} → Rules S → List Exchange → S → S → Type 0
ExchangesAreAnswered rules [] s s' = s' ≡ s
ExchangesAreAnswered {S} rules (exchange ∷ earlier) s s' =
    (between : S) × ExchangesAreAnswered rules earlier s between
    × ExchangeIsAnswered rules exchange between s'

-- what a connection asked of a desk: no call, or one call, whose answer is in its reply
pub record AsksOne (exchange : Exchange) (Looked : Type 0) (Took : Call → Answer → Type 0)
    : Type 0 where
  pub ended : Result (Unit {0}) IoEnd
  pub asks : Asks exchange.at exchange.given Looked Took exchange.had exchange.has ended
  pub cause : EndHasCause exchange ended

-- the message of a connection was answered
pub record DeskAnswersExchange {S : Type 0} (g : Ghosts S) (old new : S) (exchange : Exchange)
    : Type 0 where
  -- the tables follow the reply
  pub tables : ByTables g old new (ExchangeIsAnswered by_tables exchange)
  -- a legal history of the tables goes on with the accepted call
  pub history : ByHistory g old new
      (λ h. StandsAfter by_history (ExchangeIsAnswered by_history exchange h))
  -- at most one call was asked of the desk
  pub asks : AsksOne exchange (LeavesTables g old new) (Takes g old new)
  -- a store that was honest and is clean is still honest and none of its calls failed, or the
  -- connection shows a failure
  pub lasts : g.IsHonest old → g.IsClean new → HasOneBearer (g.tables old)
      → StaysHonest (at_desk g old new) ⊎ ExchangeShowsFailure by_tables exchange (g.tables old)
  pub keeps : KeepsInvariants g old new

-- the message of the next connection was answered, at the given moment, and the connection closed
pub record NextConnectionIsAnswered {S C : Type 0} (given : Option ℕ) (desk : DeskStep S)
    (connections : ConnectionsStep C) : Type 0 where
  pub exchange : Exchange
  pub is_given : IfSome given (λ it. exchange.at ≡ it)
  pub came : ClientTaken (connections.coming connections.old)
      (connections.coming connections.new) exchange.given
  pub unsent : IsUnsent (connections.replies connections.old) exchange.had
  pub closed : AddsReply (connections.replies connections.old)
      (connections.replies connections.new) exchange.has exchange.faults
  pub answers : DeskAnswersExchange desk.books desk.old desk.new exchange

-- all of the requested connections, or fewer if the run ended early
abbrev pub IsCount : ℕ → Result (Unit {0}) ServeEnd → ℕ → Type 0
IsCount requests (Ok done) count = count ≡ requests
IsCount requests (Err early) count = count < requests
