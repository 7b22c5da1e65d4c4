-- The message at the front of a connection's input.
use Rattle.std.specs.Prelude.{Bool, List, None, Option, Some, bytes_eq, codes, drop, false}
use Rattle.std.specs.Prelude.{Err, IfOk, Ok, Result, if◌then◌else◌, length, nat_eq, nat_le, take}
use Rattle.std.specs.Prelude.{true, ℕ, ◌++◌, ◌+◌, ◌<◌, ◌≡◌, ◌≤◌, ◌⊎◌}
use Rattle.std.specs.List.{starts_with}
use Rattle.std.specs.Global.{Vec}
use Rattle.std.specs.Io.KnownBytes.{Consumes, IsAtEnd}
use Rattle.httparse.specs.Grammar.{RequestHead}
use Rattle.httparse.specs.declared.spans.HeaderSpan.{HeaderSpan}
use Rattle.httparse.specs.declared.spans.RequestSpans.{RequestSpans}
use Rattle.index_io.specs.Bytes.{IsInput}
use Rattle.index_io.specs.declared.source.Source.{Ghosts}
use Rattle.index_rules.specs.Maps.{Bytes}
use Rattle.index_message.specs.Heads.{AwaitsHead, HasHead, HasNoHead, IsHeadAt, longest_head}
use Rattle.index_message.specs.Fields.{Field, fields_of}
use Rattle.index_message.specs.Lengths.{body_length, longest_upload}
use Rattle.index_message.specs.Reads.{GivesBytes, SourceReadsWithin, SourceStep, and_left}
use Rattle.index_message.specs.Requests.{HeadParts, HttpRequest}
use Rattle.index_message.specs.Resources.{allowed_of, allows, has_route, method_of, resource_of}
use Rattle.index_message.specs.declared.fault.MessageFault.{MessageFault}
use Rattle.index_message.specs.declared.fault.MessageFault.TheVariants.{BadHead, BadMethod, NoRoute}
use Rattle.index_message.specs.declared.fault.MessageFault.TheVariants.{ShortBody}
use Rattle.index_message.specs.declared.head.ReadEnd.{ReadEnd}
use Rattle.index_message.specs.declared.head.ReadEnd.TheVariants.{OutOfMemory, ReadFault}
use Rattle.index_message.specs.declared.message.Asked.{Asked}
use Rattle.index_message.specs.declared.message.Message.{Message}
use Rattle.index_message.specs.declared.message.Message.TheVariants.{Faulty, Whole}
use Rattle.index_message.specs.declared.resource.Method.{Method}
use Rattle.index_message.specs.declared.resource.Resource.{Resource}

-- a resource and one of its methods
abbrev pub Target : Type 0
Target = Resource × Method

-- a resource with a method, or why there is none
abbrev pub to_resource : Resource → Result Method MessageFault → Result Target MessageFault
to_resource resource (Err fault) = Err fault
to_resource resource (Ok method) = Ok (resource, method)

-- a resource with the method of this name, if it has that
abbrev pub with_method : Resource → Option Method → Result Target MessageFault
with_method resource None = Err (BadMethod (allowed_of resource))
with_method resource (Some method) =
    if allows (allowed_of resource) method
    then Ok (resource, method)
    else Err (BadMethod (allowed_of resource))

-- the target of a resource and the name of a method
abbrev pub target_by : Bytes → Option Resource → Result Target MessageFault
target_by name None = Err NoRoute
target_by name (Some resource) = with_method resource (method_of name)

-- a target with the length of its body
abbrev pub with_length : Target → Result ℕ MessageFault → Result Asked MessageFault
with_length target (Err fault) = Err fault
with_length target (Ok n) = Ok (record { resource = target.0; method = target.1; length = n })

-- a target with the length of its body, as the fields give it
abbrev pub with_fields : List Field → Result Target MessageFault → Result Asked MessageFault
with_fields fields (Err fault) = Err fault
with_fields fields (Ok target) = with_length target (body_length target.1 fields)

-- what the name of a method, a target and fields ask for, or their first fault in this order
abbrev pub asked_by_head : Bytes → Bytes → List Field → Result Asked MessageFault
asked_by_head name target fields = with_fields fields (target_by name (resource_of target))

-- what the parts of a head ask for
abbrev pub asked_in : HeadParts → Result Asked MessageFault
asked_in head = asked_by_head head.method head.target head.fields

-- what a head asks for
abbrev pub asked_of : RequestHead → Result Asked MessageFault
asked_of head = asked_by_head head.method head.target (fields_of head)

-- the name of the method is `HEAD`, whose reply has no body (RFC 9110, section 9.3.2)
abbrev pub is_head_name : Bytes → Bool
is_head_name name = bytes_eq name (codes "HEAD")

-- the head of a request, from what it asks for and its fields
abbrev pub request_asked : Asked → List Field → HttpRequest
request_asked asked fields =
    record { method = asked.method; resource = asked.resource; fields = fields }

-- the bytes begin with the method `HEAD`, whatever follows it
abbrev pub begins_with_head : Bytes → Bool
begins_with_head bytes = starts_with nat_eq bytes (codes "HEAD ")

-- the message of a request with these fields and this body
abbrev pub whole_of : Asked → List Field → Bytes → Message
whole_of asked fields body = Whole (request_asked asked fields) body

-- the message of a head and the bytes behind it, from what the head asks for
abbrev pub message_by : RequestHead → Bytes → Result Asked MessageFault → Message
message_by head rest (Err fault) = Faulty fault (is_head_name head.method)
message_by head rest (Ok asked) =
    if nat_le asked.length (length rest) then whole_of asked (fields_of head)
    (take asked.length rest) else Faulty ShortBody (is_head_name head.method)

-- the message of a head and the bytes behind it
abbrev pub message_of : RequestHead → Bytes → Message
message_of head rest = message_by head rest (asked_of head)

-- the most bytes that are read of a message
abbrev pub longest_message : ℕ
longest_message = longest_head + longest_upload

-- The message at the front of an input. Bytes behind it do not matter.
abbrev pub IsMessage : Bytes → Message → Type 0
IsMessage input message =
    (HasNoHead input × (message ≡ Faulty BadHead (begins_with_head input)))
    ⊎ ((head : RequestHead) × (rest : Bytes) × HasHead input head rest
    × (message ≡ message_of head rest))

-- the message has a fault
abbrev pub is_faulty : Message → Bool
is_faulty (Faulty fault is_head) = true
is_faulty (Whole request body) = false

-- the message at the front of the bytes that are left, if they are known
abbrev pub BeginsWith : Option Bytes → Message → Type 0
BeginsWith left message = (input : Bytes) × IsInput left input × IsMessage input message

-- the head asks for a body, and the bytes are only a part of it
abbrev pub AwaitsBody : RequestHead → Bytes → Type 0
AwaitsBody head front = (asked : Asked) × (asked_of head ≡ Ok asked) × (length front < asked.length)

-- the bytes are not a whole message yet: their head or its body is not whole
abbrev pub IsUnfinished : Bytes → Type 0
IsUnfinished taken = AwaitsHead taken
    ⊎ ((head : RequestHead) × (front : Bytes) × HasHead taken head front × AwaitsBody head front)

-- the bytes that were taken are not a whole message yet
abbrev pub EndsUnfinished : Option Bytes → Option Bytes → Type 0
EndsUnfinished old new = (taken : Bytes) × Consumes old new taken × IsUnfinished taken

-- if a read failed, the bytes that the source gave are not a whole message yet
abbrev pub ReadFailsInMessage : {S A : Type 0} → Ghosts S → S → S → Result A ReadEnd → Type 0
ReadFailsInMessage g old new result =
    result ≡ Err ReadFault → EndsUnfinished (g.remaining old) (g.remaining new)

-- the input begins with a head whose path has a route, or the bytes that were taken are not a head
-- yet and may become one
abbrev pub MayHaveHead : Option Bytes → Option Bytes → Type 0
MayHaveHead old new = ((taken : Bytes) × Consumes old new taken × AwaitsHead taken)
    ⊎ ((input : Bytes) × (head : RequestHead) × (rest : Bytes)
    × IsInput old input × HasHead input head rest × (has_route head.target ≡ true))

-- ---- how a message is read

-- a body of this length, from the front that was there and the bytes that came; or the input ended
-- before it was whole
abbrev pub BodyIsTaken : ℕ → Bytes → Bytes → Option Bytes → Option Bytes → Type 0
BodyIsTaken n front more left (Some body) =
    (n ≤ length (front ++ more)) × (body ≡ take n (front ++ more))
BodyIsTaken n front more left None = (length (front ++ more) < n) × IsAtEnd left

-- the message of a head, from the front behind it, the bytes that came and those that are left
abbrev pub FollowsHead : RequestHead → Bytes → Option Bytes → Option Bytes → Message → Type 0
FollowsHead head front old new message =
    (more : Bytes) × Consumes old new more
    × (message ≡ message_of head (and_left (front ++ more) new))

-- the rest of a message was read, behind the head that these bytes begin with
pub record ReadsRest {S : Type 0} (source : SourceStep S) (bytes : Vec ℕ)
    (fields : List HeaderSpan) (spans : RequestSpans)
    (result : Result Message ReadEnd) : Type 0 where
  -- the bytes are this message
  pub message : IfOk result (λ message. (found : IsHeadAt bytes.items fields spans)
      → FollowsHead found.head (drop spans.len bytes.items) (source.input.remaining source.old)
      (source.input.remaining source.new) message)
  -- if a read failed, the body is not whole yet
  pub prompt : result ≡ Err ReadFault → (found : IsHeadAt bytes.items fields spans)
      → (more : Bytes) × AwaitsBody found.head (drop spans.len bytes.items ++ more)
      × GivesBytes source.input source.old source.new more
  -- if memory ran out, the path has a route
  pub memory : result ≡ Err OutOfMemory → (found : IsHeadAt bytes.items fields spans)
      → has_route found.head.target ≡ true
  pub reads : SourceReadsWithin source.input source.old source.new longest_upload result

-- a body of this length, from the front that was there and the bytes that a source gave
abbrev pub GivesBody : {S : Type 0} → Ghosts S → S → S → ℕ → Bytes → Option Bytes → Type 0
GivesBody g old new n front body =
    (more : Bytes) × GivesBytes g old new more × BodyIsTaken n front more (g.remaining new) body
