-- The replies of the index, and their bytes (RFC 9112).
use Rattle.std.specs.Prelude.{◌≡◌, ℕ, ◌==◌, ◌≤◌, ◌++◌, Bool, [], ◌∷◌, length, decimal, codes}
use Rattle.std.specs.Prelude.{if◌then◌else◌, unwrap_or, ⊤}
use Rattle.std.specs.List.{concat}
use Rattle.http.specs.StatusCode.{code_digits, reason_phrase}
use Rattle.index_rules.specs.Maps.{Bytes}
use Rattle.index_rules.specs.declared.answer.Answer.{Answer}
use Rattle.index_json.specs.AnswerText.{answer_text_of, message_text_of}
use Rattle.index_pages.specs.declared.served.Served.{Served}
use Rattle.index_pages.specs.declared.served.Served.TheVariants as served
use Rattle.index_http.specs.Statuses.{status_of_answer, status_of_fault}
use Rattle.index_message.specs.declared.fault.Allowed.{Allowed}
use Rattle.index_message.specs.declared.fault.Allowed.TheVariants as allowed
use Rattle.index_message.specs.declared.fault.MessageFault.{MessageFault}
use Rattle.index_message.specs.declared.fault.MessageFault.TheVariants.{BadHead, NoRoute, BadMethod}
use Rattle.index_message.specs.declared.fault.MessageFault.TheVariants.{BadLength, NoLength}
use Rattle.index_message.specs.declared.fault.MessageFault.TheVariants.{BodyTooLarge, ShortBody}
use Rattle.index_message.specs.declared.fault.MessageFault.TheVariants.{BadBody, NotAcceptable}
use Rattle.index_http.specs.declared.reply.Fields.{Fields}
use Rattle.index_http.specs.declared.reply.Fields.TheVariants.{Page, File, Json, Challenge, Allow}
use Rattle.index_http.specs.declared.reply.Fields.TheVariants.{ToRoot, ToProject}
use Rattle.index_http.specs.declared.reply.Reply.{Reply as Parts}

-- a reply: its status, its header lines between the status line and the length, and its body
pub record Reply : Type 0 where
  pub status : ℕ
  pub fields : Bytes
  pub body : Bytes

-- ---- the bytes of a reply

-- the bytes are this text, and at most this many
pub record IsShortText (most : ℕ) (text bytes : Bytes) : Type 0 where
  pub is : bytes ≡ text
  pub short : length bytes ≤ most

-- the phrase of a status, or nothing if it has none (RFC 9112, section 4)
unfoldable pub phrase_of : ℕ → Bytes
phrase_of status = unwrap_or (reason_phrase status) []

-- the head of a reply, from the digits of its status, its phrase, its header lines and the digits
-- of its length (RFC 9112, sections 2.1 and 4)
unfoldable pub head_text : Bytes → Bytes → Bytes → Bytes → Bytes
head_text code phrase fields digits = concat (
    codes "HTTP/1.1 " ∷ code ∷ codes " " ∷ phrase ∷ codes "\r\n"
    ∷ fields
    ∷ codes "Content-Length: " ∷ digits ∷ codes "\r\nConnection: close\r\n\r\n" ∷ [])

-- the head of a reply whose body has this many bytes (RFC 9110, section 8.6)
unfoldable pub reply_head : ℕ → Bytes → ℕ → Bytes
reply_head status fields size =
    head_text (code_digits status) (phrase_of status) fields (decimal size)

-- The bytes of a reply. A reply to `HEAD` has the length of the body, and no body (RFC 9110,
-- section 9.3.2).
abbrev pub reply_text : Bool → Reply → Bytes
reply_text is_head reply =
    reply_head reply.status reply.fields (length reply.body) ++ (if is_head then [] else reply.body)

-- ---- header lines

-- a header line (RFC 9112, section 5)
abbrev pub field_line : Bytes → Bytes → Bytes
field_line name value = name ++ (codes ": " ++ (value ++ codes "\r\n"))

-- the header line with the type of a body (RFC 9110, section 8.3)
abbrev pub type_text : Bytes → Bytes
type_text value = field_line (codes "Content-Type") value

-- the header line with the type of a page (PEP 691, "Content-Types")
abbrev pub page_text : Served → Bytes
page_text served.PlainHtml = type_text (codes "text/html")
page_text served.Html = type_text (codes "application/vnd.pypi.simple.v1+html")
page_text served.Json = type_text (codes "application/vnd.pypi.simple.v1+json")

-- the header line with the methods that a path allows (RFC 9110, section 10.2.1)
abbrev pub allow_text : Allowed → Bytes
allow_text allowed.Reading = field_line (codes "Allow") (codes "GET, HEAD")
allow_text allowed.Files = field_line (codes "Allow") (codes "DELETE, GET, HEAD, PUT")
allow_text allowed.Requests = field_line (codes "Allow") (codes "POST")

-- the header line with the page that a redirect leads to (RFC 9110, section 10.2.2)
abbrev pub location_text : Bytes → Bytes
location_text path = field_line (codes "Location") path

-- the header line of a redirect to a project's page (PEP 503)
abbrev pub project_location : Bytes → Bytes
project_location name = location_text (codes "/simple/" ++ (name ++ codes "/"))

-- The header lines of a reply. A challenge names the scheme of tokens (RFC 9110, section 11.6.1),
-- and a redirect has no type.
unfoldable pub fields_text : Fields → Bytes
fields_text (Page served) = page_text served
fields_text File = type_text (codes "application/octet-stream")
fields_text Json = type_text (codes "application/json")
fields_text Challenge =
    type_text (codes "application/json")
    ++ field_line (codes "WWW-Authenticate") (codes "Index-Token")
fields_text (Allow allowed) = type_text (codes "application/json") ++ allow_text allowed
fields_text ToRoot = location_text (codes "/simple/")
fields_text (ToProject name) = project_location name.now

-- the header lines contain no name
abbrev pub IsFixed : Fields → Type 0
IsFixed (ToProject name) = ⊥
IsFixed (Page served) = ⊤
IsFixed File = ⊤
IsFixed Json = ⊤
IsFixed Challenge = ⊤
IsFixed (Allow allowed) = ⊤
IsFixed ToRoot = ⊤

-- the reply of these parts
abbrev pub reply_of : Parts → Reply
reply_of parts =
    record { status = parts.status; fields = fields_text parts.fields; body = parts.body.now }

-- ---- the replies to messages and calls

-- the name of a message's fault
abbrev pub message_fault_name : MessageFault → Bytes
message_fault_name BadHead = codes "BadHead"
message_fault_name NoRoute = codes "NoRoute"
message_fault_name (BadMethod allowed) = codes "BadMethod"
message_fault_name BadLength = codes "BadLength"
message_fault_name NoLength = codes "NoLength"
message_fault_name BodyTooLarge = codes "BodyTooLarge"
message_fault_name ShortBody = codes "ShortBody"
message_fault_name BadBody = codes "BadBody"
message_fault_name NotAcceptable = codes "NotAcceptable"

-- the header lines of the reply to a malformed message: for a bad method they list the others (RFC
-- 9110, section 15.5.6)
abbrev pub fields_of_fault : MessageFault → Fields
fields_of_fault BadHead = Json
fields_of_fault NoRoute = Json
fields_of_fault (BadMethod allowed) = Allow allowed
fields_of_fault BadLength = Json
fields_of_fault NoLength = Json
fields_of_fault BodyTooLarge = Json
fields_of_fault ShortBody = Json
fields_of_fault BadBody = Json
fields_of_fault NotAcceptable = Json

-- the reply to a message that the index does not serve
unfoldable pub message_reply : MessageFault → Reply
message_reply fault = record {
  status = status_of_fault fault;
  fields = fields_text (fields_of_fault fault);
  body = message_text_of (message_fault_name fault);
}

-- the header lines of the reply to a call: only 401 has a challenge (RFC 9110, section 15.5.2)
abbrev pub answer_fields : ℕ → Fields
answer_fields status = if status == 401 then Challenge else Json

-- the reply to a call with this answer, by whether its method is `PUT`
unfoldable pub answer_reply : Bool → Answer → Reply
answer_reply is_put answer =
    let status = status_of_answer is_put answer in
    record {
      status = status;
      fields = fields_text (answer_fields status);
      body = answer_text_of answer;
    }

-- ---- the replies to looks

-- the reply with a page in a type
abbrev pub page_reply : Served → Bytes → Reply
page_reply served page = record { status = 200; fields = fields_text (Page served); body = page }

-- the reply with the bytes of a file
abbrev pub file_reply : Bytes → Reply
file_reply bytes = record { status = 200; fields = fields_text File; body = bytes }

-- the reply with JSON
abbrev pub json_reply : Bytes → Reply
json_reply text = record { status = 200; fields = fields_text Json; body = text }

-- a redirect to the root page (RFC 9110, section 15.4.2)
abbrev pub redirect_to_root : Reply
redirect_to_root = record { status = 301; fields = fields_text ToRoot; body = [] }

-- a redirect to a project's page (PEP 503)
abbrev pub redirect_to_project : Bytes → Reply
redirect_to_project name = record { status = 301; fields = project_location name; body = [] }
