-- Wrong replies to messages, to lines and on connections, which the contracts exclude.
use Rattle.std.specs.Prelude.{Bool, Err, List, None, Ok, Option, Result, Some, [], false, is_some}
use Rattle.std.specs.Prelude.{length, take, true, ℕ, ◌++◌, ◌<◌, ◌≡◌, ◌≤◌}
use Rattle.std.specs.FinMap.{get}
use Rattle.std.specs.Global.{Vec}
use Rattle.std.specs.Io.KnownBytes.{Appends}
use Rattle.index_io.specs.Counts.{HasFailed, last_count}
use Rattle.index_io.specs.declared.sink.Sink.{Ghosts as Outs}
use Rattle.index_names.specs.FileName.{read_file_name}
use Rattle.index_desk.specs.Looks.{LeavesTables}
use Rattle.index_desk.specs.Rules.{by_history, by_tables}
use Rattle.index_desk.specs.Standings.{standing_in}
use Rattle.index_desk.specs.Takes.{Takes}
use Rattle.index_json.specs.AnswerText.{answer_text_of, bad_body_text}
use Rattle.index_json.specs.Line.{line_of}
use Rattle.index_json.specs.StandingText.{standing_text_of}
use Rattle.index_json.specs.declared.line.Line.TheVariants as line
use Rattle.index_message.specs.Heads.{HasNoHead}
use Rattle.index_message.specs.Messages.{begins_with_head}
use Rattle.index_message.specs.Requests.{HttpRequest}
use Rattle.index_message.specs.Resources.{is_head, is_reading}
use Rattle.index_message.specs.declared.fault.MessageFault.{MessageFault}
use Rattle.index_message.specs.declared.fault.MessageFault.TheVariants.{BadHead}
use Rattle.index_message.specs.declared.message.Message.{Message}
use Rattle.index_message.specs.declared.message.Message.TheVariants.{Faulty, Whole}
use Rattle.index_message.specs.declared.resource.Resource.TheVariants as resource
use Rattle.index_http.specs.Asks.{MessageIsAnswered, text_of_answer}
use Rattle.index_http.specs.Ends.{EndsBy, LastsOrFails, SentBytesShowFailure}
use Rattle.index_desk.specs.ByRules.{StandsAfter}
use Rattle.index_http.specs.Exchanges.{IsFaultless, body_reply, call_of}
use Rattle.index_http.specs.PagePasses.{Gathers}
use Rattle.index_http.specs.Replies.{Reply, message_reply, reply_head, reply_text}
use Rattle.index_http.specs.Sends.{SendsHead}
use Rattle.index_http.specs.Shows.{Look, LookShows}
use Rattle.index_http.specs.Steps.{at_desk, to_sink}
use Rattle.index_http.specs.declared.connection.IoEnd.{IoEnd}
use Rattle.index_http.specs.declared.connection.IoEnd.TheVariants as io_end
use Rattle.index_cli.specs.Connections.{KnownList, KnownReplies, StreamFaults, exchange_of}
use Rattle.index_cli.specs.Lines.{longest_line}
use Rattle.index_cli.specs.Replies.{KeptLineIsAnswered, LineFailsOnly, LineReportsStoreFault}
use Rattle.index_cli.specs.Replies.{RepliesStanding, RepliesToLine}
use Rattle.index_cli.specs.Replies.{line_reply_text, memory_fault_text}
use Rattle.index_cli.specs.Serving.{AsksOne, DeskAnswersExchange, ExchangeIsAnswered}
use Rattle.index_cli.specs.Serving.{ExchangeShowsFailure, NextConnectionIsAnswered}
use Rattle.index_cli.specs.Steps.{on_connections}
use Rattle.index_cli.specs.LineCalls.{AsksKept}
use Rattle.index_cli.specs.declared.end.LineEnd.{LineEnd}
use Rattle.index_cli.specs.declared.end.LineEnd.TheVariants as line_end
use Rattle.index_cli.specs.declared.reply.LineReply.{LineReply}
use Rattle.index_rules.specs.declared.answer.Answer.{Answer}
use Rattle.index_rules.specs.declared.answer.Answer.TheVariants as answer
use Rattle.index_rules.specs.declared.answer.Fault.{Fault}
use Rattle.index_rules.specs.declared.answer.Fault.TheVariants.{Store}
use Rattle.index_rules.specs.declared.answer.Refusal.TheVariants.{BadName}
use Rattle.index_rules.specs.declared.books.Books.{Ghosts}
use Rattle.index_rules.specs.declared.call.Call.{Call}
use Rattle.index_rules.specs.Facts.{HasOneBearer}
use Rattle.index_rules.specs.History.{History}
use Rattle.index_rules.specs.Maps.{Bytes}
use Rattle.index_rules.specs.Runs.{Answers}
use Rattle.index_rules.specs.StandsFor.{StandsFor}
use Rattle.index_rules.specs.Tables.{Tables}
use Rattle.index_rules.specs.Verdict.{verdict_now}
use Rattle.index.specs.RefutedLooks.{RefutesBytes, RefutesLooks, RefutesReports}

-- ---- messages

-- a sink did not get this text
abbrev pub IsMissing : {K : Type 0} → Outs K → K → K → Bytes → Type 0
IsMissing out before after text = ¬ Appends (out.contents before) (out.contents after) text

-- no message is answered with the wrong reply, and no answer ends with the wrong fault
pub record RefutesMessages {S K : Type 0} (g : Ghosts S) (out : Outs K) (old new : S)
    (before after : K) : Type 0 where
  -- a malformed message got another reply than its fault has
  pub faulty : (at : ℕ) (why : MessageFault) (to_head : Bool)
      → IsMissing out before after (reply_text to_head (message_reply why))
      → ¬ MessageIsAnswered at (Faulty why to_head) (at_desk g old new) (to_sink out before after)
      (Ok tt)
  -- a call got a reply with no answer of its verdict
  pub call : (at : ℕ) (request : HttpRequest) (body : Bytes) (call : Call)
      → is_reading request.method ≡ false → call_of at request body ≡ Some call
      → ((it : Answer) → Answers (verdict_now (g.tables old) call) it
      → IsMissing out before after (text_of_answer (Whole request body) it))
      → ¬ MessageIsAnswered at (Whole request body) (at_desk g old new) (to_sink out before after)
      (Ok tt)
  -- a file was replied with other bytes than its own
  pub file : (at : ℕ) (request : HttpRequest) (body name : Bytes)
      → is_reading request.method ≡ true → request.resource ≡ resource.File name
      → is_some (read_file_name name) ≡ true → (¬ HasFailed (g.failures old) (g.failures new))
      → IsMissing out before after
      (reply_text (is_head request.method) (body_reply (get (g.tables old).bodies name)))
      → ¬ MessageIsAnswered at (Whole request body) (at_desk g old new) (to_sink out before after)
      (Ok tt)
  -- memory ran out, though the call was taken
  pub memory : (at : ℕ) (request : HttpRequest) (body : Bytes)
      → is_reading request.method ≡ false → (¬ (new ≡ old))
      → ¬ MessageIsAnswered at (Whole request body) (at_desk g old new) (to_sink out before after)
      (Err io_end.OutOfMemory)
  -- a read failed after the whole message was read
  pub read : (at : ℕ) (message : Message)
      → ¬ MessageIsAnswered at message (at_desk g old new) (to_sink out before after)
      (Err io_end.ReadFault)

-- no look at the tables shows the wrong reply, changes a table or gathers the wrong page
pub record RefutesShows {S K : Type 0} (g : Ghosts S) (out : Outs K) (old new : S)
    (before after : K) : Type 0 where
  -- another reply was sent than the tables have, though no call of the store failed
  pub shown : (look : Look) (what : Tables → Reply)
      → (¬ HasFailed (g.failures old) (g.failures new))
      → IsMissing out before after (reply_text look.is_head (what (g.tables old)))
      → ¬ LookShows look (λ T reply. reply ≡ what T) (at_desk g old new) (to_sink out before after)
      (Ok tt)
  -- a table changed
  pub changed : (look : Look) (what : Tables → Reply) (result : Result (Unit {0}) IoEnd)
      → (¬ (g.tables new ≡ g.tables old))
      → ¬ LookShows look (λ T reply. reply ≡ what T) (at_desk g old new) (to_sink out before after)
      result
  -- another page was gathered than the tables have
  pub page : (page_of : Tables → Option Bytes) (text : Vec ℕ)
      → (¬ (page_of (g.tables old) ≡ Some text.items))
      → ¬ Gathers g old new (Ok (Some text)) page_of

-- no other head of a reply is sent, and no other length of it is returned
pub record RefutesHeads {K : Type 0} (out : Outs K) (before after : K) : Type 0 where
  pub text : (head text : Bytes) (count : ℕ) → IsMissing out before after text
      → ¬ SendsHead out before after head text (Ok count)
  pub size : (head text : Bytes) (count : ℕ) → (¬ (count ≡ length head))
      → ¬ SendsHead out before after head text (Ok count)
  pub status : (had fields lines : Bytes) (status other size more count : ℕ)
      → status < 1000 → other < 1000 → (¬ (other ≡ status))
      → out.contents before ≡ Some had
      → out.contents after ≡ Some (had ++ reply_head other lines more)
      → ¬ SendsHead out before after (reply_head status fields size)
      (reply_head status fields size) (Ok count)

-- ---- an input without a head

-- the reply to an input that does not begin with a head
abbrev pub bad_head_text : Bytes → Bytes
bad_head_text input = reply_text (begins_with_head input) (message_reply BadHead)

-- no input without a head gets the wrong reply or changes a table
pub record RefutesHeadless (at : ℕ) (input : Bytes) (had has : Option Bytes)
    (faults : StreamFaults) : Type 0 where
  -- its reply is not the one to a malformed head
  pub text : (before after : ℕ) (h : History) (T' : Tables)
      → (¬ Appends had has (bad_head_text input))
      → ¬ StandsAfter by_history
      (EndsBy by_history (HasFailed before after) at (Some input) had has (Ok tt) h) T'
  -- the tables do not stand for the history before
  pub stands : (before after : ℕ) (h : History) (result : Result (Unit {0}) IoEnd) (T' : Tables)
      → (¬ StandsFor T' h)
      → ¬ StandsAfter by_history
      (EndsBy by_history (HasFailed before after) at (Some input) had has result h) T'
  -- the input changed a table
  pub tables : (T T' : Tables) → (¬ (T' ≡ T))
      → ¬ ExchangeIsAnswered by_tables (exchange_of at (Some input) had has faults) T T'
  -- what was sent is not the start of the reply
  pub front : (T T' : Tables) → ((count : ℕ) → ¬ Appends had has (take count (bad_head_text input)))
      → ¬ ExchangeIsAnswered by_tables (exchange_of at (Some input) had has faults) T T'
  -- the tables do not stand for the one history
  pub history : (h : History) (T' : Tables) → (¬ StandsFor T' h)
      → ¬ StandsAfter by_history
      (ExchangeIsAnswered by_history (exchange_of at (Some input) had has faults) h) T'
  -- its whole reply shows no failure
  pub whole : (T : Tables) → ¬ SentBytesShowFailure (IsFaultless by_tables at (Some input) T)
      (Some []) (Some (bad_head_text input))
  -- a failure, whatever was sent: only the reply to a request tells of one
  pub fails : (T : Tables)
      → ¬ ExchangeShowsFailure by_tables (exchange_of at (Some input) had has faults) T

-- no input without a head changes the tables of a desk or makes a call of it
pub record RefutesAsks {S : Type 0} (g : Ghosts S) (old new : S) (at : ℕ) (input : Bytes)
    (had has : Option Bytes) (faults : StreamFaults) : Type 0 where
  pub message : ¬ DeskAnswersExchange g old new (exchange_of at (Some input) had has faults)
  pub asks : ¬ AsksOne (exchange_of at (Some input) had has faults) (LeavesTables g old new)
      (Takes g old new)

-- the next connection was answered, but as many are to come as before
abbrev pub RefutesNext : {S : Type 0} → Ghosts S → S → S → Type 0
RefutesNext g old new = (given : Option ℕ) (inputs : List Bytes) (replies later : KnownReplies)
    → ¬ NextConnectionIsAnswered given (at_desk g old new)
    (on_connections (λ (known : KnownList × KnownReplies). known.0) (λ known. known.1)
    (Some inputs, replies) (Some inputs, later))

-- ---- lines

-- the reply to this line
abbrev pub IsReplyTo : {S : Type 0} → Ghosts S → S → S → LineReply → Bytes → Type 0
IsReplyTo g old new reply given = RepliesToLine g old new (Ok reply)
    (KeptLineIsAnswered (length given) (take longest_line given))
    (AsksKept (length given) (take longest_line given))

-- no line gets the wrong reply, and no look for a line changes a table
pub record RefutesLineReplies {S : Type 0} (g : Ghosts S) (old new : S) : Type 0 where
  -- a line that is too long got another reply than that to a malformed line
  pub long : (reply : LineReply) (given : Bytes) → longest_line < length given
      → (¬ (line_reply_text reply ≡ bad_body_text)) → ¬ IsReplyTo g old new reply given
  -- a call got a reply that is no answer of its verdict
  pub call : (reply : LineReply) (given : Bytes) (call : Call) → length given ≤ longest_line
      → line_of given ≡ Some (line.Call call)
      → ((it : Answer) → Answers (verdict_now (g.tables old) call) it
      → ¬ (line_reply_text reply ≡ answer_text_of it))
      → ¬ IsReplyTo g old new reply given
  -- an invalid name got another reply than `BadName`
  pub bad_name : (reply : LineReply)
      → (¬ (line_reply_text reply ≡ answer_text_of (answer.Refused BadName)))
      → ¬ RepliesStanding g old new (Ok reply) None
  -- a name got neither its standing nor a fault
  pub standing : (reply : LineReply) (name : Bytes)
      → (¬ (line_reply_text reply ≡ standing_text_of (standing_in (g.tables old) name)))
      → ((why : Fault) → ¬ (line_reply_text reply ≡ answer_text_of (answer.Fault why)))
      → ¬ RepliesStanding g old new (Ok reply) (Some name)
  -- a look changed a table
  pub changed : (result : Result LineReply LineEnd) (name : Option Bytes)
      → (¬ (g.tables new ≡ g.tables old)) → ¬ RepliesStanding g old new result name

-- no reply to a line reports the wrong fault
pub record RefutesLineFaults (before after : ℕ) : Type 0 where
  -- a failed read, though the reply reads nothing
  pub read : ¬ LineFailsOnly before after (Err line_end.ReadFault)
  -- an end without a reply, though a call of the store failed
  pub only : (¬ (after ≡ before)) → (end : LineEnd) → ¬ LineFailsOnly before after (Err end)
  pub store : (¬ (after ≡ before)) → (end : LineEnd)
      → ¬ LineReportsStoreFault before after (Err end)
  -- a reply that memory ran out, though a call of the store failed
  pub memory : (¬ (after ≡ before)) → (reply : LineReply)
      → line_reply_text reply ≡ memory_fault_text
      → ¬ LineReportsStoreFault before after (Ok reply)
  -- a reply that the store failed, though no call of it did
  pub cause : before < last_count → after ≡ before → (reply : LineReply)
      → line_reply_text reply ≡ answer_text_of (answer.Fault Store)
      → ¬ LineFailsOnly before after (Ok reply)

-- ---- all of them

-- the wrong replies that are excluded for books that are honest at the end
pub record RefutesHonest {S K : Type 0} (g : Ghosts S) (out : Outs K) (old new : S)
    (before after : K) : Type 0 where
  pub looks : RefutesLooks g old new
  pub messages : HasOneBearer (g.tables old) → RefutesMessages g out old new before after
  pub shows : RefutesShows g out old new before after
  pub lines : HasOneBearer (g.tables old) → RefutesLineReplies g old new
  -- a call of the store failed for an input without a head, whatever was sent
  pub lasts : (at : ℕ) (input : Bytes) → HasNoHead input → g.IsHonest old
      → (¬ (g.failures new ≡ g.failures old))
      → ¬ LastsOrFails at (Some input) (at_desk g old new) (to_sink out before after)
  pub asks : HasOneBearer (g.tables old) → (at : ℕ) (input : Bytes) (had has : Option Bytes)
      (faults : StreamFaults) → HasNoHead input → (¬ (g.tables new ≡ g.tables old))
      → RefutesAsks g old new at input had has faults

-- all wrong replies that the contracts exclude
pub record RefutesReplies {S K : Type 0} (g : Ghosts S) (out : Outs K) : Type 0 where
  pub honest : (old new : S) (before after : K) → g.IsHonest new → g.IsClean new
      → RefutesHonest g out old new before after
  pub next : (old new : S) → RefutesNext g old new
  pub reports : (old new : S) (before after : K) → RefutesReports g out old new before after
  pub heads : (before after : K) → RefutesHeads out before after
  pub headless : (at : ℕ) (input : Bytes) (had has : Option Bytes) (faults : StreamFaults)
      → HasNoHead input → RefutesHeadless at input had has faults
  pub faults : (before after : ℕ) → RefutesLineFaults before after
  pub bytes : RefutesBytes
