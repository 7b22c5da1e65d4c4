-- The call that a message makes, and what a crash may leave once the call was taken.
use Rattle.std.specs.Prelude.{Err, None, Option, Result, Some, [], false, if◌then◌else◌, true, ℕ}
use Rattle.std.specs.Prelude.{◌+◌, ◌≡◌, ◌⊎◌}
use Rattle.std.specs.Io.KnownBytes.{Keeps}
use Rattle.index_io.specs.Bytes.{IsInput}
use Rattle.index_rules.specs.declared.answer.Answer.{Answer}
use Rattle.index_rules.specs.declared.call.Call.{Call}
use Rattle.index_rules.specs.Maps.{Bytes}
use Rattle.index_rules.specs.Tables.{Tables}
use Rattle.index_desk.specs.Invariants.{KeepsInvariants}
use Rattle.index_desk.specs.Looks.{LeavesTables}
use Rattle.index_desk.specs.Rules.{by_tables}
use Rattle.index_desk.specs.Takes.{Takes}
use Rattle.index_message.specs.Heads.{longest_head}
use Rattle.index_message.specs.Lengths.{longest_upload}
use Rattle.index_message.specs.Messages.{EndsUnfinished, IsMessage, MayHaveHead, is_faulty}
use Rattle.index_message.specs.Reads.{BytesTakenAtMost, SourceStep}
use Rattle.index_message.specs.Resources.{is_head, is_put, is_reading}
use Rattle.index_message.specs.declared.message.Message.{Message}
use Rattle.index_message.specs.declared.message.Message.TheVariants.{Faulty, Whole}
use Rattle.index_http.specs.Ends.{DeskRepliesByHistory, DeskRepliesByTables, LastsOrFails}
use Rattle.index_http.specs.Ends.{LastsOrShows, ReplyEnds}
use Rattle.index_http.specs.Exchanges.{InputGetsText, MessageGetsText, call_of}
use Rattle.index_http.specs.Replies.{answer_reply, reply_text}
use Rattle.index_http.specs.Sends.{ReplyFailsOnly, StreamFailsOnly, is_cut, is_silent}
use Rattle.index_http.specs.Shows.{GivesMessage, asks_page, is_look}
use Rattle.index_http.specs.Steps.{DeskStep, SinkStep}
use Rattle.index_http.specs.declared.connection.IoEnd.{IoEnd}
use Rattle.index_http.specs.declared.connection.IoEnd.TheVariants.{OutOfMemory, ReadFault}

-- the call that a message makes at a moment: none if it only reads, or if its body is not a valid
-- request
abbrev pub call_in : ℕ → Message → Option Call
call_in at (Faulty fault is_head) = None
call_in at (Whole request body) =
    if is_reading request.method then None else call_of at request body

-- the text of the reply to an answer; empty for a message that makes no call
abbrev pub text_of_answer : Message → Answer → Bytes
text_of_answer (Faulty fault is_head) answer = []
text_of_answer (Whole request body) answer =
    reply_text (is_head request.method) (answer_reply (is_put request.method) answer)

-- A call was taken, and the text of its answer or a first part of it was sent; or nothing was taken
-- or sent. `Looked` holds if no call was made.
abbrev pub AsksFor : Option Call → (Answer → Bytes) → Type 0 → (Call → Answer → Type 0)
    → Option Bytes → Option Bytes → Result (Unit {0}) IoEnd → Type 0
AsksFor None text_of Looked Took before after result = Looked
AsksFor (Some call) text_of Looked Took before after result =
    ReplyEnds (λ text. (answer : Answer) × (text ≡ text_of answer) × Took call answer) Looked
    before after result

-- `AsksFor` of the message that an input begins with. If no message could be read, nothing was
-- sent.
abbrev pub Asks : ℕ → Option Bytes → Type 0 → (Call → Answer → Type 0) → Option Bytes → Option Bytes
    → Result (Unit {0}) IoEnd → Type 0
Asks at given Looked Took before after result =
    (Looked × (is_silent result ≡ true) × Keeps before after)
    ⊎ ((input : Bytes) × (message : Message) × IsInput given input × IsMessage input message
    × AsksFor (call_in at message) (text_of_answer message) Looked Took before after result)

-- `Asks` of a desk: it takes the message's call, or it changes no table and a crash leaves nothing
-- new
abbrev pub AsksDesk : {S K : Type 0} → ℕ → Option Bytes
    → DeskStep S → SinkStep K → Result (Unit {0}) IoEnd → Type 0
AsksDesk at given desk sink result = Asks at given
    (LeavesTables desk.books desk.old desk.new) (Takes desk.books desk.old desk.new)
    (sink.out.contents sink.old) (sink.out.contents sink.new) result

-- a message was answered
pub record MessageIsAnswered {S K : Type 0} (at : ℕ) (message : Message) (desk : DeskStep S)
    (sink : SinkStep K)
    (result : Result (Unit {0}) IoEnd) : Type 0 where
  -- the reply is the message's by the tables
  pub tables : DeskRepliesByTables (λ cause T. MessageGetsText by_tables cause at T message) desk
      sink result
  -- the reply has the answer to the message's call, which the desk took; or nothing was taken
  pub asks : AsksFor (call_in at message) (text_of_answer message)
      (LeavesTables desk.books desk.old desk.new) (Takes desk.books desk.old desk.new)
      (sink.out.contents sink.old) (sink.out.contents sink.new) result
  -- if memory ran out, the desk is as before or the message only reads
  pub memory : result ≡ Err OutOfMemory → (desk.new ≡ desk.old) ⊎ (is_look message ≡ true)
  -- a malformed message never ends as out of memory
  pub whole : result ≡ Err OutOfMemory → is_faulty message ≡ false
  -- a malformed message asks nothing of the desk
  pub unasked : is_faulty message ≡ true → desk.new ≡ desk.old
  -- a failed store never ends as out of memory
  pub stores : result ≡ Err OutOfMemory → desk.books.stores desk.new ≡ desk.books.stores desk.old
  -- if the store failed, the bytes that were sent show it
  pub lasts : LastsOrShows
      (λ T text. (later : Tables) × MessageGetsText by_tables ⊥ at T message text later) desk sink
  -- only a page is cut short, and no table changed then
  pub cut : is_cut result ≡ true → LeavesTables desk.books desk.old desk.new
  pub sends : ReplyFailsOnly sink.out sink.old sink.new (asks_page message) result
  pub keeps : KeepsInvariants desk.books desk.old desk.new

-- ---- a message of a source

-- the bytes that a source had before a call
abbrev pub given_by : {I : Type 0} → SourceStep I → Option Bytes
given_by source = source.input.remaining source.old

-- the bytes that it has left
abbrev pub unread_of : {I : Type 0} → SourceStep I → Option Bytes
unread_of source = source.input.remaining source.new

-- a message was read from a source and answered on a sink, or the connection ended earlier
pub record AnswersOne {I S K : Type 0} (at : ℕ) (source : SourceStep I) (desk : DeskStep S)
    (sink : SinkStep K) (result : Result (Unit {0}) IoEnd) : Type 0 where
  -- by the tables: the reply is that to the message that the input begins with, or a fault, and
  -- these tables follow
  pub tables : DeskRepliesByTables
      (λ cause T. InputGetsText by_tables cause at T (given_by source)) desk sink result
  -- by a legal history for which the tables stood: the reply is that to the message, and the
  -- history with the accepted call has the new tables
  pub history : DeskRepliesByHistory at (given_by source) desk sink result
  -- the desk takes at most one call, the message's, and the reply has its answer; otherwise no
  -- table changes, and a crash leaves nothing new
  pub asks : AsksDesk at (given_by source) desk sink result
  -- if memory ran out, nothing was asked of the desk or the message only reads: the answer to a
  -- call is always replied
  pub memory : result ≡ Err OutOfMemory
      → (desk.new ≡ desk.old) ⊎ GivesMessage is_look (given_by source)
  -- a message whose head can't be read, or whose path has no route, never ends as out of memory
  pub readable : result ≡ Err OutOfMemory → MayHaveHead (given_by source) (unread_of source)
  -- if a fault shuts the store or a call of the books fails, a whole request came, and the bytes
  -- that were sent show it
  pub lasts : LastsOrFails at (given_by source) desk sink
  -- a failed store never ends as out of memory
  pub stores : result ≡ Err OutOfMemory → desk.books.stores desk.new ≡ desk.books.stores desk.old
  -- a fault is returned only for its cause, and nothing else failed
  pub fails : StreamFailsOnly source.input sink.out source.old source.new sink.old sink.new result
  -- a read fails only if the message is not whole yet, and then the desk was not asked: nothing is
  -- read beyond a message
  pub prompt : result ≡ Err ReadFault
      → (desk.new ≡ desk.old) × EndsUnfinished (given_by source) (unread_of source)
  -- only a page is cut short, and no table changed then
  pub cut : is_cut result ≡ true
      → LeavesTables desk.books desk.old desk.new × GivesMessage asks_page (given_by source)
  -- no more is read than the longest head and the longest upload
  pub limit : BytesTakenAtMost (longest_head + longest_upload) (given_by source) (unread_of source)
  -- however it ends: at most one user still has each token's digest, and charges that add up still
  -- add up
  pub keeps : KeepsInvariants desk.books desk.old desk.new
