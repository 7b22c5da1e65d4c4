-- How a connection ends.
use Rattle.std.specs.Prelude.{◌≡◌, ◌⊎◌, ℕ, Bool, take, Option, Result, Ok, Err}
use Rattle.std.specs.Io.KnownBytes.{Appends, Keeps}
use Rattle.index_io.specs.Counts.{HasFailed}
use Rattle.index_rules.specs.declared.answer.Answer.TheVariants as answer
use Rattle.index_rules.specs.declared.answer.Fault.{Fault}
use Rattle.index_rules.specs.Facts.{HasOneBearer}
use Rattle.index_rules.specs.Maps.{Bytes}
use Rattle.index_rules.specs.Tables.{Tables}
use Rattle.index_desk.specs.ByRules.{StandsAfter}
use Rattle.index_desk.specs.Rules.{Rules, by_history, by_tables}
use Rattle.index_desk.specs.Takes.{ByHistory}
use Rattle.index_http.specs.Exchanges.{HasRequest, InputGetsText, IsFaultless}
use Rattle.index_http.specs.Replies.{answer_reply, reply_text}
use Rattle.index_http.specs.Sends.{SendsLessThanText, SendsText}
use Rattle.index_http.specs.Steps.{DeskStep, SinkStep, StaysHonest}
use Rattle.index_http.specs.declared.connection.IoEnd.{IoEnd}
use Rattle.index_http.specs.declared.connection.IoEnd.TheVariants.{ReadFault, OutOfMemory}
use Rattle.index_http.specs.declared.connection.IoEnd.TheVariants.{WriteFault, Cut}

-- a reply of this kind was sent, or its first bytes, as many as the end says
abbrev pub SendsReply : (Bytes → Type 0) → Option Bytes → Option Bytes → Result (Unit {0}) IoEnd
    → Type 0
SendsReply IsReply before after result =
    (text : Bytes) × IsReply text × SendsText text before after result

-- A reply of this kind was sent, or a first part of it. If the connection ended before its reply,
-- nothing was sent and `Unchanged` holds.
abbrev pub ReplyEnds : (Bytes → Type 0) → Type 0 → Option Bytes → Option Bytes
    → Result (Unit {0}) IoEnd → Type 0
ReplyEnds IsReply Unchanged before after (Ok done) = SendsReply IsReply before after (Ok done)
ReplyEnds IsReply Unchanged before after (Err (WriteFault count)) =
    SendsReply IsReply before after (Err (WriteFault count))
ReplyEnds IsReply Unchanged before after (Err (Cut count)) =
    SendsReply IsReply before after (Err (Cut count))
ReplyEnds IsReply Unchanged before after (Err ReadFault) = Unchanged × Keeps before after
ReplyEnds IsReply Unchanged before after (Err OutOfMemory) = Unchanged × Keeps before after

-- the tables are these, if the store is honest
abbrev pub Stands : {S : Type 0} → (S → Type 0) → (S → Tables) → S → Tables → Type 0
Stands is_honest tables s T = is_honest s → tables s ≡ T

-- For a store that was honest before and is clean after: a reply of this kind, or a first part of
-- it, was sent, by the tables before and after, which stand if the store is still honest. Or
-- nothing was sent, and the tables are as before.
abbrev pub DeskRepliesByTables : {S K : Type 0} → (Type 0 → Tables → Bytes → Tables → Type 0)
    → DeskStep S → SinkStep K → Result (Unit {0}) IoEnd → Type 0
DeskRepliesByTables IsReply desk sink result =
    desk.books.IsHonest desk.old → desk.books.IsClean desk.new
    → HasOneBearer (desk.books.tables desk.old) →
    ReplyEnds (λ text. (later : Tables)
    × IsReply (HasFailed (desk.books.failures desk.old) (desk.books.failures desk.new))
    (desk.books.tables desk.old) text later
    × Stands desk.books.IsHonest desk.books.tables desk.new later)
    (Stands desk.books.IsHonest desk.books.tables desk.new (desk.books.tables desk.old))
    (sink.out.contents sink.old) (sink.out.contents sink.new) result

-- a connection ends as the state before it and the one after it say
abbrev pub EndsBy : {S : Type 0} → Rules S → (Cause : Type 0) → ℕ
    → (given before after : Option Bytes) → Result (Unit {0}) IoEnd → S → S → Type 0
EndsBy rules Cause at given before after result s later =
    ReplyEnds (λ text. InputGetsText rules Cause at s given text later) (later ≡ s)
    before after result

-- each legal history for which the tables stood has a later one for which they stand, and the
-- connection ends as the two say, if the store is honest at the end
abbrev pub DeskRepliesByHistory : {S K : Type 0} → ℕ → Option Bytes
    → DeskStep S → SinkStep K → Result (Unit {0}) IoEnd → Type 0
DeskRepliesByHistory at given desk sink result =
    ByHistory desk.books desk.old desk.new (λ h. StandsAfter by_history (EndsBy by_history
    (HasFailed (desk.books.failures desk.old) (desk.books.failures desk.new)) at given
    (sink.out.contents sink.old) (sink.out.contents sink.new) result h))

-- ---- failures

-- the text of the reply to a fault
abbrev pub IsFaultReply : Bytes → Type 0
IsFaultReply text = (is_head : Bool) × (by_put : Bool) × (fault : Fault)
    × (text ≡ reply_text is_head (answer_reply by_put (answer.Fault fault)))

-- the bytes that were sent show a failure: they are the reply to a fault or its first bytes, or
-- less than the whole of a reply of this kind
abbrev pub SentBytesShowFailure : (Bytes → Type 0) → Option Bytes → Option Bytes → Type 0
SentBytesShowFailure IsReply before after =
    ((text : Bytes) × IsFaultReply text × (count : ℕ) × Appends before after (take count text))
    ⊎ ((text : Bytes) × IsReply text × SendsLessThanText text before after)

-- A store that was honest and is clean is still honest, and none of its calls failed; or the bytes
-- that were sent show a failure. `IsReply` are the replies if nothing fails.
abbrev pub LastsOrShows : {S K : Type 0} → (Tables → Bytes → Type 0) → DeskStep S → SinkStep K
    → Type 0
LastsOrShows IsReply desk sink =
    desk.books.IsHonest desk.old → desk.books.IsClean desk.new → StaysHonest desk
    ⊎ SentBytesShowFailure (IsReply (desk.books.tables desk.old))
    (sink.out.contents sink.old) (sink.out.contents sink.new)

-- `LastsOrShows` of an input: only a whole request can get a fault in place of its reply
abbrev pub LastsOrFails : {S K : Type 0} → ℕ → Option Bytes → DeskStep S → SinkStep K → Type 0
LastsOrFails at given desk sink =
    desk.books.IsHonest desk.old → desk.books.IsClean desk.new → StaysHonest desk
    ⊎ (HasRequest given
    × SentBytesShowFailure (IsFaultless by_tables at given (desk.books.tables desk.old))
    (sink.out.contents sink.old) (sink.out.contents sink.new))
