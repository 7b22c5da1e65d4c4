-- The reply to a message, by rules over any state: the tables or a history.
use Rattle.std.specs.Prelude.{Bool, List, None, Option, Some, bytes_eq, codes, false, is_some}
use Rattle.std.specs.Prelude.{length, map, option_map, true, ℕ, ◌<◌, ◌≡◌, ◌⊎◌}
use Rattle.std.specs.Borrow.{Bor}
use Rattle.index_digest.specs.Digest.{sha256}
use Rattle.index_names.specs.FileName.{read_file_name}
use Rattle.index_names.specs.Project.{read_name}
use Rattle.index_rules.specs.Maps.{Bytes}
use Rattle.index_rules.specs.Runs.{Answers}
use Rattle.index_rules.specs.declared.answer.Answer.{Answer}
use Rattle.index_rules.specs.declared.answer.Answer.TheVariants as answer
use Rattle.index_rules.specs.declared.answer.Fault.TheVariants.{Store}
use Rattle.index_rules.specs.declared.answer.Refusal.{Refusal}
use Rattle.index_rules.specs.declared.answer.Refusal.TheVariants.{BadName, NoFile, NoProject}
use Rattle.index_rules.specs.declared.call.Call.{Call}
use Rattle.index_rules.specs.declared.call.Request.{Request}
use Rattle.index_rules.specs.declared.call.Request.TheVariants.{Delete as DeleteFile, Upload}
use Rattle.index_rules.specs.declared.rows.FileRow.{FileRow}
use Rattle.index_rules.specs.declared.rows.NameRow.{NameRow}
use Rattle.index_desk.specs.Rules.{Rules}
use Rattle.index_rules.specs.declared.standing.Standing.{Standing}
use Rattle.index_json.specs.Requests.{request_of}
use Rattle.index_json.specs.StandingText.{standing_text_of}
use Rattle.index_io.specs.Bytes.{IsInput}
use Rattle.index_message.specs.Fields.{Field, value_of, values_of}
use Rattle.index_message.specs.Messages.{IsMessage}
use Rattle.index_message.specs.Requests.{HttpRequest}
use Rattle.index_message.specs.Resources.{is_head, is_put, is_reading}
use Rattle.index_message.specs.declared.fault.Allowed.TheVariants as allowed
use Rattle.index_message.specs.declared.fault.MessageFault.TheVariants.{BadBody, BadMethod}
use Rattle.index_message.specs.declared.fault.MessageFault.TheVariants.{NotAcceptable}
use Rattle.index_message.specs.declared.message.Message.{Message}
use Rattle.index_message.specs.declared.message.Message.TheVariants.{Faulty, Whole}
use Rattle.index_message.specs.declared.resource.Method.{Method}
use Rattle.index_message.specs.declared.resource.Method.TheVariants.{Delete, Get, Head, Post, Put}
use Rattle.index_message.specs.declared.resource.Resource.{Resource}
use Rattle.index_message.specs.declared.resource.Resource.TheVariants as resource
use Rattle.index_pages.specs.Accept.{IsChosen}
use Rattle.index_pages.specs.Ends.{most_bytes}
use Rattle.index_pages.specs.Pages.{project_page_of, root_page_of}
use Rattle.index_pages.specs.declared.served.Served.{Served}
use Rattle.index_http.specs.Replies.{Reply, answer_reply, file_reply, json_reply, message_reply}
use Rattle.index_http.specs.Replies.{page_reply, redirect_to_project, redirect_to_root, reply_text}

-- ---- what is shown

-- the reply to a refused request
abbrev pub refusal_reply : Refusal → Reply
refusal_reply refusal = answer_reply false (answer.Refused refusal)

-- the reply to a request that only reads, if the tables could not be read
abbrev pub store_reply : Reply
store_reply = answer_reply false (answer.Fault Store)

-- the type that the values of the `Accept` fields choose
abbrev pub IsAccepted : List Field → Option Served → Type 0
IsAccepted fields chosen =
    (values : List (Bor Bytes))
    × (map (λ value. value.now) values ≡ values_of (codes "accept") fields)
    × IsChosen values chosen

-- the reply with a page in a type, if the page is not too long
abbrev pub ShowsPage : Served → Bytes → Reply → Type 0
ShowsPage served page reply =
    (reply ≡ page_reply served page) ⊎ ((reply ≡ store_reply) × (most_bytes < length page))

-- the reply with the root page, if a type can be chosen
abbrev pub ShowsRoot : {S : Type 0} → Rules S → S → Option Served → Reply → Type 0
ShowsRoot rules s None reply = reply ≡ message_reply NotAcceptable
ShowsRoot rules s (Some served) reply =
    (rows : List NameRow) × rules.HeldRows s rows
    × ShowsPage served (root_page_of served rows) reply

-- the reply with a project's page of these rows, if the project is held and a type can be chosen
abbrev pub ShowsRows : Bytes → Option Served → Option (List FileRow) → Reply → Type 0
ShowsRows name chosen None reply = reply ≡ refusal_reply NoProject
ShowsRows name None (Some rows) reply = reply ≡ message_reply NotAcceptable
ShowsRows name (Some served) (Some rows) reply =
    ShowsPage served (project_page_of served name rows) reply

-- the reply with a project's page
abbrev pub ShowsProject : {S : Type 0} → Rules S → S → Bytes → Option Served → Reply → Type 0
ShowsProject rules s name chosen reply =
    (rows : Option (List FileRow)) × rules.ProjectRows s name rows
    × ShowsRows name chosen rows reply

-- a redirect to the page of a project's normal name (PEP 503)
abbrev pub RedirectsToProject : Option Bytes → Reply → Type 0
RedirectsToProject None reply = reply ≡ refusal_reply NoProject
RedirectsToProject (Some name) reply = reply ≡ redirect_to_project name

-- the reply with a project's page, or a redirect to it if the name is not in its normal form (PEP
-- 503)
abbrev pub ShowsSpelling : {S : Type 0} → Rules S → S → List Field → Bytes → Bool → Reply → Type 0
ShowsSpelling rules s fields name true reply =
    (chosen : Option Served) × IsAccepted fields chosen × ShowsProject rules s name chosen reply
ShowsSpelling rules s fields name false reply = reply ≡ redirect_to_project name

-- the reply at a path that may be a project's name
abbrev pub ShowsPath : {S : Type 0} → Rules S → S → List Field → Bytes → Option Bytes → Reply
    → Type 0
ShowsPath rules s fields given None reply = reply ≡ refusal_reply NoProject
ShowsPath rules s fields given (Some name) reply =
    ShowsSpelling rules s fields name (bytes_eq name given) reply

-- the reply with the bytes of a file, or that there is none
abbrev pub body_reply : Option Bytes → Reply
body_reply None = refusal_reply NoFile
body_reply (Some bytes) = file_reply bytes

-- the reply at a path that may be a file's name
abbrev pub ShowsFile : {S : Type 0} → Rules S → S → Bytes → Bool → Reply → Type 0
ShowsFile rules s file true reply =
    (body : Option Bytes) × rules.Body s file body × (reply ≡ body_reply body)
ShowsFile rules s file false reply = reply ≡ refusal_reply NoFile

-- the reply with the standing of a name, if the name is valid
abbrev pub ShowsName : {S : Type 0} → Rules S → S → Option Bytes → Reply → Type 0
ShowsName rules s None reply = reply ≡ refusal_reply BadName
ShowsName rules s (Some name) reply =
    (standing : Standing) × rules.Stands s name standing
    × (reply ≡ json_reply (standing_text_of standing))

-- the reply that a resource shows
abbrev pub ShowsResource : {S : Type 0} → Rules S → S → List Field → Resource → Reply → Type 0
ShowsResource rules s fields resource.Simple reply = reply ≡ redirect_to_root
ShowsResource rules s fields resource.Root reply =
    (chosen : Option Served) × IsAccepted fields chosen × ShowsRoot rules s chosen reply
ShowsResource rules s fields (resource.Project name) reply =
    RedirectsToProject (read_name name) reply
ShowsResource rules s fields (resource.ProjectPage name) reply =
    ShowsPath rules s fields name (read_name name) reply
ShowsResource rules s fields (resource.File file) reply =
    ShowsFile rules s file (is_some (read_file_name file)) reply
ShowsResource rules s fields (resource.Name name) reply = ShowsName rules s (read_name name) reply
ShowsResource rules s fields resource.Requests reply =
    reply ≡ message_reply (BadMethod allowed.Requests)

-- ---- what is asked

-- the change that a method asks of a file
abbrev pub asked_of_file : Method → Bytes → List Field → Bytes → Option Request
asked_of_file Put file fields body =
    Some (Upload file (value_of (codes "x-index-sha256") fields) body
    (value_of (codes "x-requires-python") fields))
asked_of_file Delete file fields body = Some (DeleteFile file)
asked_of_file Get file fields body = None
asked_of_file Head file fields body = None
asked_of_file Post file fields body = None

-- the change that a request with this body asks for
abbrev pub asked_by : Method → Resource → List Field → Bytes → Option Request
asked_by method (resource.File file) fields body = asked_of_file method file fields body
asked_by method resource.Requests fields body = request_of body
asked_by method resource.Simple fields body = None
asked_by method resource.Root fields body = None
asked_by method (resource.Project name) fields body = None
asked_by method (resource.ProjectPage name) fields body = None
asked_by method (resource.Name name) fields body = None

-- the call at a moment, by the bearer of the request's token
abbrev pub call_at : ℕ → List Field → Request → Call
call_at at fields asked =
    record { at = at; token = sha256 (value_of (codes "x-index-token") fields); request = asked }

-- The reply to a call, and the state after it. Without a call the body was malformed.
abbrev pub Acts : {S : Type 0} → Rules S → Type 0 → Bool → S → Option Call → Reply → S → Type 0
Acts rules Cause by_put s None reply s' = (reply ≡ message_reply BadBody) × (s' ≡ s)
Acts rules Cause by_put s (Some call) reply s' =
    (a : Answer) × (reply ≡ answer_reply by_put a) × Answers (rules.verdict s call) a
    × (s' ≡ rules.next s call a)
    × (a ≡ answer.Fault Store → Cause)

-- the call that a request with this body makes
abbrev pub call_of : ℕ → HttpRequest → Bytes → Option Call
call_of at request body =
    option_map (call_at at request.fields)
    (asked_by request.method request.resource request.fields body)

-- The reply to a request, and the state after it. A request that only reads is shown what it asks
-- for, unless the tables could not be read.
abbrev pub RequestGetsReply : {S : Type 0} → Rules S → Type 0 → ℕ → S → HttpRequest → Bytes → Bool
    → Reply
    → S → Type 0
RequestGetsReply rules Cause at s request body true reply s' =
    (ShowsResource rules s request.fields request.resource reply ⊎ ((reply ≡ store_reply) × Cause))
    × (s' ≡ s)
RequestGetsReply rules Cause at s request body false reply s' =
    Acts rules Cause (is_put request.method) s (call_of at request body) reply s'

-- the text of `RequestGetsReply`, by whether the request only reads
abbrev pub RequestGetsText : {S : Type 0} → Rules S → Type 0 → ℕ → S → HttpRequest → Bytes → Bool
    → Bytes → S → Type 0
RequestGetsText rules Cause at s request body reads text s' =
    (reply : Reply) × (text ≡ reply_text (is_head request.method) reply)
    × RequestGetsReply rules Cause at s request body reads reply s'

-- ---- messages

-- the text of the reply to a message, and the state after it
abbrev pub MessageGetsText : {S : Type 0} → Rules S → Type 0 → ℕ → S → Message → Bytes → S → Type 0
MessageGetsText rules Cause at s (Faulty fault is_head) text s' =
    (text ≡ reply_text is_head (message_reply fault)) × (s' ≡ s)
MessageGetsText rules Cause at s (Whole request body) text s' =
    RequestGetsText rules Cause at s request body (is_reading request.method) text s'

-- the text of the reply to the message that an input begins with, and the state after it
abbrev pub InputGetsText : {S : Type 0} → Rules S → Type 0 → ℕ → S → Option Bytes → Bytes → S
    → Type 0
InputGetsText rules Cause at s given text s' =
    (input : Bytes) × (message : Message) × IsInput given input × IsMessage input message
    × MessageGetsText rules Cause at s message text s'

-- the text of the reply to the message that an input begins with, if nothing fails
abbrev pub IsFaultless : {S : Type 0} → Rules S → ℕ → Option Bytes → S → Bytes → Type 0
IsFaultless {S} rules at given s text = (s' : S) × InputGetsText rules ⊥ at s given text s'

-- the input begins with a whole request, which has no fault
abbrev pub HasRequest : Option Bytes → Type 0
HasRequest given = (input : Bytes) × (request : HttpRequest) × (body : Bytes)
    × IsInput given input × IsMessage input (Whole request body)
