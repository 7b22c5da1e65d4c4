-- How a look at a resource ends.
use Rattle.std.specs.Prelude.{◌≡◌, ◌⊎◌, ◌&&◌, Bool, true, false, not, Option, Result, Err}
use Rattle.std.specs.Io.KnownBytes.{Keeps}
use Rattle.index_io.specs.Bytes.{IsInput}
use Rattle.index_io.specs.Counts.{HasFailed}
use Rattle.index_message.specs.Messages.{IsMessage}
use Rattle.index_message.specs.Requests.{HttpRequest}
use Rattle.index_message.specs.Resources.{is_head, is_reading}
use Rattle.index_message.specs.declared.message.Message.{Message}
use Rattle.index_message.specs.declared.message.Message.TheVariants.{Faulty, Whole}
use Rattle.index_message.specs.declared.resource.Resource.{Resource}
use Rattle.index_message.specs.declared.resource.Resource.TheVariants.{File, Name, Project}
use Rattle.index_message.specs.declared.resource.Resource.TheVariants.{ProjectPage, Requests, Root}
use Rattle.index_message.specs.declared.resource.Resource.TheVariants.{Simple}
use Rattle.index_rules.specs.Maps.{Bytes}
use Rattle.index_rules.specs.Tables.{Tables}
use Rattle.index_rules.specs.declared.answer.Fault.{Fault}
use Rattle.index_rules.specs.declared.answer.Fault.TheVariants.{Store, OutOfMemory as NoMemory}
use Rattle.index_desk.specs.Looks.{LeavesTables}
use Rattle.index_http.specs.Ends.{ReplyEnds, LastsOrShows}
use Rattle.index_http.specs.Exchanges.{store_reply}
use Rattle.index_http.specs.Replies.{Reply, reply_text}
use Rattle.index_http.specs.Sends.{ReplyFailsOnly, SendsText}
use Rattle.index_http.specs.Steps.{DeskStep, SinkStep}
use Rattle.index_http.specs.declared.connection.IoEnd.{IoEnd}
use Rattle.index_http.specs.declared.connection.IoEnd.TheVariants.{OutOfMemory}

-- the text of a reply of this kind, or of the one to a look that failed for this cause
abbrev pub IsTextOfLook : Bool → (Reply → Type 0) → Type 0 → Bytes → Type 0
IsTextOfLook is_head IsReply Cause text =
    (reply : Reply) × (text ≡ reply_text is_head reply)
    × (IsReply reply ⊎ ((reply ≡ store_reply) × Cause))

-- a look ended with a reply as in `IsTextOfLook`, a first part of it, or nothing
abbrev pub LookEnds : Bool → (Reply → Type 0) → Type 0 → Option Bytes → Option Bytes
    → Result (Unit {0}) IoEnd → Type 0
LookEnds is_head IsReply Cause before after result =
    ReplyEnds (IsTextOfLook is_head IsReply Cause) (Unit {0}) before after result

-- the resource is a page
abbrev pub is_page : Resource → Bool
is_page Root = true
is_page (ProjectPage name) = true
is_page Simple = false
is_page (Project name) = false
is_page (File file) = false
is_page (Name name) = false
is_page Requests = false

-- a look: whether it is at a page, and whether its method is `HEAD`, whose reply has no body
pub record Look : Type 0 where
  pub is_page : Bool
  pub is_head : Bool

-- a look at a page
abbrev pub look_at_page : Bool → Look
look_at_page is_head = record { is_page = true; is_head = is_head }

-- a look at a resource that is not a page
abbrev pub look_at_no_page : Bool → Look
look_at_no_page is_head = record { is_page = false; is_head = is_head }

-- the look that a request makes
abbrev pub look_of : HttpRequest → Look
look_of request = record { is_page = is_page request.resource; is_head = is_head request.method }

-- a look at the desk, and the reply that went to the sink
pub record LookShows {S K : Type 0} (look : Look) (IsReply : Tables → Reply → Type 0)
    (desk : DeskStep S) (sink : SinkStep K) (result : Result (Unit {0}) IoEnd) : Type 0 where
  -- for a store that was honest before and is clean after, the reply is of this kind by the tables
  pub shown : desk.books.IsHonest desk.old → desk.books.IsClean desk.new
      → LookEnds look.is_head (IsReply (desk.books.tables desk.old))
      (HasFailed (desk.books.failures desk.old) (desk.books.failures desk.new))
      (sink.out.contents sink.old) (sink.out.contents sink.new) result
  -- no table changed
  pub leaves : LeavesTables desk.books desk.old desk.new
  -- only a page can be cut short, and never in a reply to `HEAD`
  pub sends : ReplyFailsOnly sink.out sink.old sink.new (look.is_page && not look.is_head) result
  -- a failed store is not reported as out of memory
  pub stores : result ≡ Err OutOfMemory → desk.books.stores desk.new ≡ desk.books.stores desk.old
  -- if the store failed, the bytes that were sent show it
  pub lasts : LastsOrShows (λ T. IsTextOfLook look.is_head (IsReply T) ⊥) desk sink

-- a failed look: a failed store is replied, and if memory ran out nothing is sent
abbrev pub LookFails : Bool → Fault → Option Bytes → Option Bytes → Result (Unit {0}) IoEnd → Type 0
LookFails is_head Store before after result =
    SendsText (reply_text is_head store_reply) before after result
LookFails is_head NoMemory before after result = (result ≡ Err OutOfMemory) × Keeps before after

-- a request whose reply has a page in it; one with `HEAD` has none
abbrev pub shows_page : HttpRequest → Bool
shows_page request =
    is_reading request.method && (is_page request.resource && not (is_head request.method))

-- a message whose reply has a page in it
abbrev pub asks_page : Message → Bool
asks_page (Faulty fault is_head) = false
asks_page (Whole request body) = shows_page request

-- a message that only reads
abbrev pub is_look : Message → Bool
is_look (Faulty fault is_head) = false
is_look (Whole request body) = is_reading request.method

-- the input begins with a message that passes a test
abbrev pub GivesMessage : (Message → Bool) → Option Bytes → Type 0
GivesMessage passes given =
    (input : Bytes) × (message : Message) × IsInput given input × IsMessage input message
    × (passes message ≡ true)
