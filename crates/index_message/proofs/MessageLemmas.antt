-- What was read is the message that the input begins with.
use Rattle.std.proofs.Common.{◌≡◌, ℕ, ◌<◌, ◌≤◌, inl, inr, List, [], ◌++◌, length, drop, map, take, Option, Some, None, Result, Ok, Err}
use Rattle.std.proofs.Common.{refl, sym, ap, ◌∙◌, arith, append_assoc, length-append, Bool, true, false}
use Rattle.std.specs.Prelude.{if◌then◌else◌, is_some, nat_le, unwrap_or}
use Rattle.std.specs.Str.{is_utf8}
use Rattle.std.specs.Io.KnownBytes.{Consumes, IsAtEnd}
use Rattle.std.proofs.lemmas.Bool.Decides.{nat_tests}
use Rattle.std.proofs.lemmas.List.{append-nil, take-append-le}
use Rattle.httparse.specs.Grammar.{RequestHead}
use Rattle.std.proofs.KnownBytes.{Consumes-trans}
use Rattle.httparse.specs.Spans.{header_bytes, span_bytes}
use Rattle.httparse.specs.declared.spans.HeaderSpan.{HeaderSpan}
use Rattle.httparse.specs.declared.spans.RequestSpans.{RequestSpans}
use Rattle.httparse.proofs.GrammarLemmas.{ReadsRequest-append, request_unique}
use Rattle.index_io.specs.Bytes.{IsInput}
use Rattle.index_message.specs.Heads.{HasHead, IsHeadAt}
use Rattle.index_message.specs.Messages.{AwaitsBody, EndsUnfinished, FollowsHead, IsMessage, MayHaveHead, asked_by_head, asked_of}
use Rattle.index_message.specs.Messages.{is_faulty, is_head_name, message_by, message_of, whole_of}
use Rattle.index_message.specs.Fields.{Field, fields_of}
use Rattle.index_message.specs.Resources.{has_route, path_of, resource_of}
use Rattle.index_message.specs.Routes.{route_of}
use Rattle.index_message.specs.declared.resource.Resource.{Resource}
use Rattle.index_message.specs.declared.resource.Route.{Route}
use Rattle.index_message.specs.declared.fault.MessageFault.{MessageFault}
use Rattle.index_message.specs.declared.fault.MessageFault.TheVariants.{ShortBody}
use Rattle.index_message.specs.declared.message.Message.TheVariants.{Faulty}
use Rattle.index_message.specs.declared.message.Asked.{Asked}
use Rattle.index_message.specs.declared.message.Message.{Message}

-- what a source gave and what it has left are its input
pub input_is : (old new : Option (List ℕ)) (held : List ℕ) → Consumes old new held → IsInput old (held ++ unwrap_or new [])
input_is None new held c = tt
input_is (Some xs) None held c = absurd c
input_is (Some xs) (Some ys) held c = sym c

-- a head at the front of what was read is at the front of any input that begins so
pub head_is : (held more : List ℕ) (fields : List HeaderSpan) (spans : RequestSpans) (found : IsHeadAt held fields spans)
    → length held ≤ 16384
    → HasHead (held ++ more) found.head (drop spans.len held ++ more)
head_is held more fields spans found short = record {
  reads = ReadsRequest-append held found.head (drop spans.len held) more found.at.reads;
  short = omega (arith, found.at.len, found.within.section.len_fits);
  few = found.few;
}

behind : (held more rest : List ℕ) (fields : List HeaderSpan) (spans : RequestSpans) (found : IsHeadAt held fields spans)
    → length held ≤ 16384
    → HasHead ((held ++ more) ++ rest) found.head ((drop spans.len held ++ more) ++ rest)
behind held more rest fields spans found short =
    rw (append_assoc held more rest, append_assoc (drop spans.len held) more rest) (head_is held (more ++ rest) fields spans found short)

-- a head that awaits its body, as it was read, is no message yet
pub unfinished : (old mid new : Option (List ℕ)) (held more : List ℕ) (fields : List HeaderSpan) (spans : RequestSpans)
    (found : IsHeadAt held fields spans)
    → length held ≤ 16384 → Consumes old mid held → Consumes mid new more → AwaitsBody found.head (drop spans.len held ++ more)
    → EndsUnfinished old new
unfinished old mid new held more fields spans found short first second awaits = (
  held ++ more,
  Consumes-trans old mid new held more first second,
  inr (found.head, drop spans.len held ++ more, head_is held more fields spans found short, awaits),
)

-- what the spans of a head ask for is what the head does
pub asked_is : (held : List ℕ) (fields : List HeaderSpan) (spans : RequestSpans) (found : IsHeadAt held fields spans)
    → asked_by_head (span_bytes held spans.method) (span_bytes held spans.path) (map (header_bytes held) (take spans.headers fields))
    ≡ asked_of found.head
asked_is held fields spans found =
    ap (λ m. asked_by_head m (span_bytes held spans.path) (map (header_bytes held) (take spans.headers fields))) found.at.method
    ∙ ap (λ t. asked_by_head found.head.method t (map (header_bytes held) (take spans.headers fields))) found.at.path
    ∙ ap (asked_by_head found.head.method found.head.target) found.at.fields

both_same : (b : Bool) (found : Option Resource) → (if b then found else found) ≡ found
both_same true found = refl
both_same false found = refl

-- a path with no route leads to nothing
no_route : (target : List ℕ) → route_of (path_of target) ≡ None → resource_of target ≡ None
unfolding resource_of
no_route target none = rw none (both_same (is_utf8 target) None)

with_route : (name target : List ℕ) (fields : List Field) (asked : Asked) (route : Option Route) → route_of (path_of target) ≡ route
    → asked_by_head name target fields ≡ Ok asked → is_some route ≡ true
with_route name target fields asked None none is = let no = rw (no_route target none) at is in absurd (cc no)
with_route name target fields asked (Some route) some is = refl

-- what is asked for has a route
pub asked_has_route : (head : RequestHead) (asked : Asked) → asked_of head ≡ Ok asked → has_route head.target ≡ true
asked_has_route head asked is = with_route head.method head.target (fields_of head) asked (route_of (path_of head.target)) refl is

-- a whole body makes a request
with_enough : (head : RequestHead) (rest body : List ℕ) (asked : Asked) → asked.length ≤ length rest → take asked.length rest ≡ body
    → message_by head rest (Ok asked) ≡ whole_of asked (fields_of head) body
with_enough head rest body asked enough is =
    let yes : nat_le asked.length (length rest) ≡ true = grind (arith, nat_tests) in rw (yes, is) refl

-- a part of it makes none
with_less : (head : RequestHead) (rest : List ℕ) (asked : Asked) → length rest < asked.length
    → message_by head rest (Ok asked) ≡ Faulty ShortBody (is_head_name head.method)
with_less head rest asked less =
    let short : nat_le asked.length (length rest) ≡ false = grind (arith, nat_tests) in rw short refl

-- the request whose body came, whatever is left
pub follows_whole : (held more rest body : List ℕ) (fields : List HeaderSpan) (spans : RequestSpans) (found : IsHeadAt held fields spans)
    (asked : Asked)
    → asked_of found.head ≡ Ok asked → asked.length ≤ length (drop spans.len held ++ more)
    → body ≡ take asked.length (drop spans.len held ++ more)
    → whole_of asked (map (header_bytes held) (take spans.headers fields)) body
    ≡ message_of found.head ((drop spans.len held ++ more) ++ rest)
follows_whole held more rest body fields spans found asked is enough taken =
    let front = drop spans.len held ++ more in
    let longer : asked.length ≤ length (front ++ rest) = rw length-append (omega arith) in
    ap (λ f. whole_of asked f body) found.at.fields
    ∙ sym (ap (message_by found.head (front ++ rest)) is
    ∙ with_enough found.head (front ++ rest) body asked longer (take-append-le asked.length front rest enough ∙ sym taken))

at_end : (new : Option (List ℕ)) → IsAtEnd new → unwrap_or new [] ≡ []
at_end None end = refl
at_end (Some left) end = end

-- the fault of a body that did not come whole
pub follows_short : (held more : List ℕ) (new : Option (List ℕ)) (fields : List HeaderSpan) (spans : RequestSpans)
    (found : IsHeadAt held fields spans) (asked : Asked)
    → asked_of found.head ≡ Ok asked → length (drop spans.len held ++ more) < asked.length → IsAtEnd new
    → Faulty ShortBody (is_head_name found.head.method) ≡ message_of found.head ((drop spans.len held ++ more) ++ unwrap_or new [])
follows_short held more new fields spans found asked is less end =
    let front = drop spans.len held ++ more in
    let all : front ++ unwrap_or new [] ≡ front = ap (λ rest. front ++ rest) (at_end new end) ∙ append-nil front in
    sym (ap (message_of found.head) all ∙ ap (message_by found.head front) is ∙ with_less found.head front asked less)

-- a head and what follows it are the message of the input
pub message_read : (old mid new : Option (List ℕ)) (held : List ℕ) (fields : List HeaderSpan) (spans : RequestSpans)
    (found : IsHeadAt held fields spans) (message : Message)
    → length held ≤ 16384 → Consumes old mid held → FollowsHead found.head (drop spans.len held) mid new message
    → (input : List ℕ) × IsInput old input × IsMessage input message
message_read old mid new held fields spans found message short taken follows =
    let rest = unwrap_or new [] in
    let more = follows.0 in (
      (held ++ more) ++ rest,
      input_is old new (held ++ more) (Consumes-trans old mid new held more taken follows.1),
      inr (found.head, (drop spans.len held ++ more) ++ rest, behind held more rest fields spans found short, follows.2),
    )

asked_when_whole : (head : RequestHead) (rest : List ℕ) (result : Result Asked MessageFault)
    → is_faulty (message_by head rest result) ≡ false
    → (asked : Asked) × (result ≡ Ok asked)
asked_when_whole head rest (Err fault) whole = absurd (cc whole)
asked_when_whole head rest (Ok asked) whole = (asked, refl)

-- a message with no fault has a head, whose path has a route
pub whole_has_head : (old new : Option (List ℕ)) (input : List ℕ) (message : Message) → IsInput old input → IsMessage input message
    → is_faulty message ≡ false
    → MayHaveHead old new
whole_has_head old new input message given (inl none) whole = let is = none.1 in absurd (cc (is, whole))
whole_has_head old new input message given (inr read) whole =
    let asked = asked_when_whole read.0 read.1 (asked_of read.0) (rw read.3 at whole) in
    inr (input, read.0, read.1, given, read.2, asked_has_route read.0 asked.0 asked.1)

-- an input begins with at most one message
pub at_most_one : (input : List ℕ) (m k : Message) → IsMessage input m → IsMessage input k → m ≡ k
at_most_one input m k (inl x) (inl y) = x.1 ∙ sym y.1
at_most_one input m k (inl x) (inr y) = absurd (x.0 y.0 y.1 y.2)
at_most_one input m k (inr x) (inl y) = absurd (y.0 x.0 x.1 x.2)
at_most_one input m k (inr x) (inr y) =
    let same = request_unique input x.0 y.0 x.1 y.1 x.2.reads y.2.reads in
    x.3 ∙ ap (λ head. message_of head x.1) same.0 ∙ ap (message_of y.0) same.1 ∙ sym y.3
