-- What a client is sent for a file name is what the history has of it.
use Rattle.index_cli.proofs.Words.{◌≡◌, ◌∙◌, ◌<◌, ◌≤◌, ◌+◌, ◌⊎◌, ℕ, Bool, true, false, cond, nat_lt, List, [], ◌∷◌, ◌++◌, Option, Some}
use Rattle.index_cli.proofs.Words.{None, refl, sym, ap, subst, inl, inr, arith, append_assoc, length-append, length, take, Result, Ok, Err}
use Rattle.index_cli.proofs.Words.{ne_eqb, HasFailed, History, IsLegal, history_after, Bytes, Accept, Call, by_history, ReplyEnds, Acts}
use Rattle.index_cli.proofs.Words.{InputGetsText, MessageGetsText, asks_page, IoEnd, Cut, OutOfMemory, IsInput, HttpRequest, Message}
use Rattle.index_cli.proofs.Words.{Faulty, Whole, Answer, Accepted, Already, Refused, Fault, Exchange, no_faults}
use Rattle.index_cli.proofs.Words.{EndHasCause, ExchangeIsAnswered, ExchangesAreAnswered, Reply, reply_text}
use Rattle.std.proofs.Common.{◌/◌, ◌%◌, ◌^◌, eqb}
use Rattle.std.proofs.Common.{codes, decimal, drop}
use Rattle.std.proofs.Common.{is_some, ltb-false}
use Rattle.std.proofs.lemmas.Fmt.{decimal_by_steps, length-decimal-le_succ}
use Rattle.index_digest.specs.Digest.{sha256}
use Rattle.index_names.specs.FileName.{read_file_name}
use Rattle.index_rules.specs.History.{begins, more}
use Rattle.index_rules.specs.Laws.{HasUpload, IsFrontOf, IsUploadOf}
use Rattle.index_rules.specs.Legal.{facts_after, verdict_after}
use Rattle.index_rules.specs.StandsFor.{body_after}
use Rattle.index_rules.specs.Verdict.{largest_body}
use Rattle.index_rules.specs.declared.answer.Refusal.TheVariants.{NoFile, TooLarge}
use Rattle.index_rules.specs.declared.call.Request.{Request}
use Rattle.index_rules.specs.declared.call.Request.TheVariants.{Upload}
use Rattle.index_rules.proofs.Accepted.{accepted}
use Rattle.index_rules.proofs.ServeLemmas.{serves_bound, serves_uploads}
use Rattle.index_http.specs.Exchanges.{RequestGetsReply, ShowsFile, body_reply, refusal_reply}
use Rattle.index_http.specs.Exchanges.{store_reply}
use Rattle.index_http.specs.declared.connection.IoEnd.TheVariants.{ReadFault, WriteFault}
use Rattle.index_message.specs.Messages.{IsMessage}
use Rattle.index_message.proofs.MessageLemmas.{at_most_one}
use Rattle.index_cli.specs.Connections.{StreamFaults}
use Rattle.index_cli.specs.FilesServed.{GotFile, IsAmong, IsServedAt, get_of_file}
use Rattle.index_http.specs.Replies.{answer_reply, fields_text, file_reply, head_text, phrase_of, reply_head}

-- ---- fronts

pub itself : (h : History) → IsFrontOf h h
itself (begins user token) = refl
itself (more h e) = inl refl

pub longer : (a b c : History) → IsFrontOf a b → IsFrontOf b c → IsFrontOf a c
longer a b (begins user token) front is = subst (IsFrontOf a) is front
longer a b (more h e) front (inl is) = subst (IsFrontOf a) is front
longer a b (more h e) front (inr earlier) = inr (longer a b h front earlier)

pub as_is : (h h' : History) → h' ≡ h → IsFrontOf h h'
as_is h h' is = subst (IsFrontOf h) (sym is) (itself h)

pub after_call : (h : History) (call : Call) (answer : Answer) → IsFrontOf h (history_after h call answer)
after_call h call Accepted = inr (itself h)
after_call h call Already = itself h
after_call h call (Refused refusal) = itself h
after_call h call (Fault fault) = itself h

pub after_call_is : (h : History) (call : Call) (answer : Answer) (h' : History) → h' ≡ history_after h call answer → IsFrontOf h h'
after_call_is h call answer h' is = subst (IsFrontOf h) (sym is) (after_call h call answer)

-- ---- exchanges carry a history on

pub acted : (Cause : Type 0) (by_put : Bool) (h : History) (call : Option Call) (reply : Reply) (h' : History)
    → Acts by_history Cause by_put h call reply h' → IsFrontOf h h'
acted Cause by_put h None reply h' it = as_is h h' it.1
acted Cause by_put h (Some call) reply h' it = after_call_is h call it.0 h' it.3

replied : (Cause : Type 0) (at : ℕ) (h : History) (request : HttpRequest) (body : Bytes) (reads : Bool) (reply : Reply) (h' : History)
    → RequestGetsReply by_history Cause at h request body reads reply h' → IsFrontOf h h'
replied Cause at h request body true reply h' it = as_is h h' it.1
replied Cause at h request body false reply h' it = acted Cause _ h _ reply h' it

replied_to : (Cause : Type 0) (at : ℕ) (h : History) (message : Message) (text : Bytes) (h' : History)
    → MessageGetsText by_history Cause at h message text h' → IsFrontOf h h'
replied_to Cause at h (Faulty fault is_head) text h' it = as_is h h' it.1
replied_to Cause at h (Whole request body) text h' it = replied Cause at h request body _ it.0 h' it.2

sent : (IsReply : Bytes → Type 0) (h h' : History) → ((text : Bytes) → IsReply text → IsFrontOf h h')
    → (before after : Option Bytes) (result : Result (Unit {0}) IoEnd)
    → ReplyEnds IsReply (h' ≡ h) before after result → IsFrontOf h h'
sent IsReply h h' front before after (Ok done) it = front it.0 it.1
sent IsReply h h' front before after (Err (WriteFault count)) it = front it.0 it.1
sent IsReply h h' front before after (Err (Cut count)) it = front it.0 it.1
sent IsReply h h' front before after (Err ReadFault) it = as_is h h' it.0
sent IsReply h h' front before after (Err OutOfMemory) it = as_is h h' it.0

pub answered_each : (exchanges : List Exchange) (h h' : History) → ExchangesAreAnswered by_history exchanges h h' → IsFrontOf h h'
answered_each [] h h' it = as_is h h' it
answered_each (exchange ∷ earlier) h h' it =
    longer h it.0 h' (answered_each earlier h it.0 it.1)
    (sent _ it.0 h' (λ text is. replied_to _ exchange.at it.0 is.1 text h' is.4) exchange.had exchange.has it.2.ended it.2.ends)

-- ---- the digits of a status

abbrev pub first_of : List ℕ → ℕ
first_of [] = 0
first_of (x ∷ xs) = x

abbrev pub rest_of : List ℕ → List ℕ
rest_of [] = []
rest_of (x ∷ xs) = xs

-- the three digits of a status
abbrev pub digits_of : ℕ → List ℕ
digits_of n = (48 + n / 100) ∷ (48 + n / 10 % 10) ∷ (48 + n % 10) ∷ []

-- the digits of a status
pub same_digits : (status other : ℕ) → status < 1000 → other < 1000 → digits_of other ≡ digits_of status → other ≡ status
same_digits status other low below same =
    let hundreds : 48 + other / 100 ≡ 48 + status / 100 = ap first_of same in
    let tens : 48 + other / 10 % 10 ≡ 48 + status / 10 % 10 = ap (λ (it : List ℕ). first_of (rest_of it)) same in
    let ones : 48 + other % 10 ≡ 48 + status % 10 = ap (λ (it : List ℕ). first_of (rest_of (rest_of it))) same in
    omega (arith, low, below, hundreds, tens, ones)

-- ---- the bytes behind a head

-- no byte is a carriage return
abbrev HasNoReturn : List ℕ → Type 0
HasNoReturn [] = Unit {0}
HasNoReturn (byte ∷ rest) = (¬ (byte ≡ 13)) × HasNoReturn rest

one_more : (front : List ℕ) (byte : ℕ) → HasNoReturn front → ¬ (byte ≡ 13) → HasNoReturn (front ++ (byte ∷ []))
one_more [] byte none other = (other, tt)
one_more (x ∷ front) byte none other = (none.0, one_more front byte none.1 other)

no_decimal : (n : ℕ) → n < 2 ^ 64 → HasNoReturn (decimal n)
no_decimal = decimal_by_steps (λ m digits. HasNoReturn digits)
    (λ m low. ((λ is. omega (arith, is)), tt))
    (λ m digits low none. one_more digits (48 + m % 10) none (λ is. omega (arith, is)))

-- what is behind the first carriage return
abbrev behind_return : List ℕ → List ℕ
behind_return [] = []
behind_return (byte ∷ rest) = cond (eqb byte 13) rest (behind_return rest)

behind_digits : (front rest : List ℕ) → HasNoReturn front → behind_return (front ++ 13 ∷ rest) ≡ rest
behind_digits [] rest none = refl
behind_digits (byte ∷ front) rest none =
    ap (λ b. cond b (front ++ 13 ∷ rest) (behind_return (front ++ 13 ∷ rest))) (ne_eqb byte 13 none.0) ∙ behind_digits front rest none.1

-- what stands between the digits and the bytes
abbrev end_of_head : Bytes
end_of_head = codes "\r\nConnection: close\r\n\r\n" ++ []

-- what is behind the first carriage return behind the digits
abbrev behind_both : Bytes → Bytes
behind_both bytes = (codes "\nConnection: close\r\n\r\n" ++ []) ++ bytes

behind_head : (n : ℕ) (bytes : Bytes) → n < 2 ^ 64 → drop 22 (behind_return ((decimal n ++ end_of_head) ++ bytes)) ≡ bytes
behind_head n bytes small =
    ap (λ it. drop 22 (behind_return it)) (append_assoc (decimal n) end_of_head bytes)
    ∙ ap (λ it. drop 22 it) (behind_digits (decimal n) (behind_both bytes) (no_decimal n small))

same_behind : (first second : Bytes) → length second ≤ largest_body
    → (decimal (length first) ++ end_of_head) ++ first ≡ (decimal (length second) ++ end_of_head) ++ second → first ≡ second
same_behind first second short is =
    let lengths = ap length is in
    let one = length-append (decimal (length first) ++ end_of_head) first in
    let other = length-append (decimal (length second) ++ end_of_head) second in
    let one_digits = length-append (decimal (length first)) end_of_head in
    let other_digits = length-append (decimal (length second)) end_of_head in
    let small : length second < 2 ^ 64 = omega (arith, short) in
    let few = length-decimal-le_succ (length second) small in
    let also_small : length first < 2 ^ 64 = omega (arith, lengths, one, other, one_digits, other_digits, few, short) in
    sym (behind_head (length first) first also_small) ∙ ap (λ it. drop 22 (behind_return it)) is ∙ behind_head (length second) second small

-- the head of a reply with a file has 73 bytes before its digits
pieces : (bytes : Bytes) → drop 73 (reply_text false (file_reply bytes)) ≡ (decimal (length bytes) ++ end_of_head) ++ bytes
unfolding reply_head head_text phrase_of fields_text
pieces bytes = refl

same_bytes : (first second : Bytes) → length second ≤ largest_body
    → reply_text false (file_reply first) ≡ reply_text false (file_reply second) → first ≡ second
same_bytes first second short is = same_behind first second short (sym (pieces first) ∙ ap (λ it. drop 73 it) is ∙ pieces second)

-- ---- the status in a head

status_in : (reply : Reply) → take 3 (drop 9 (reply_text false reply)) ≡ digits_of reply.status
unfolding reply_head head_text
status_in reply = refl

same_status : (reply : Reply) (bytes : Bytes) → reply.status < 1000 → reply_text false (file_reply bytes) ≡ reply_text false reply
    → reply.status ≡ 200
same_status reply bytes low is =
    same_digits 200 reply.status (omega arith) low
    (sym (status_in reply) ∙ ap (λ it. take 3 (drop 9 it)) (sym is) ∙ status_in (file_reply bytes))

no_refusal : (bytes : Bytes) → ¬ (reply_text false (file_reply bytes) ≡ reply_text false (refusal_reply NoFile))
unfolding answer_reply
no_refusal bytes is =
    let low : 404 < 1000 = omega arith in
    let same : 404 ≡ 200 = same_status (refusal_reply NoFile) bytes low is in
    omega (arith, same)

no_fault : (bytes : Bytes) → ¬ (reply_text false (file_reply bytes) ≡ reply_text false store_reply)
unfolding answer_reply
no_fault bytes is =
    let low : 500 < 1000 = omega arith in
    let same : 500 ≡ 200 = same_status store_reply bytes low is in
    omega (arith, same)

-- ---- the size of a file

pub legal_front : (one h : History) → IsFrontOf one h → IsLegal h → IsLegal one
legal_front one (begins user token) front legal = subst IsLegal (sym front) legal
legal_front one (more h e) (inl is) legal = subst IsLegal (sym is) legal
legal_front one (more h e) (inr earlier) legal = legal_front one h earlier legal.0

short_upload : (h : History) (at : ℕ) (token : Bytes) (r : Request)
    → verdict_after h (record { at = at; token = token; request = r }) ≡ Accept
    → (file : Bytes) (first : Bytes × ℕ) → IsUploadOf r file first → first.1 ≤ largest_body
short_upload h at token (Upload name declared body requires) accepts file first is =
    let c : Call = record { at = at; token = token; request = Upload name declared body requires } in
    let no : nat_lt largest_body (length body) ≡ false = (accepted c (facts_after h c) accepts).not_refused TooLarge refl in
    let size : first.1 ≡ length body = ap (λ it. it.1) is.1 in
    omega (arith, size, ltb-false largest_body (length body) no)
short_upload h at token r accepts file first is = absurd is

short_files : (h : History) → IsLegal h → (file : Bytes) (first : Bytes × ℕ) → HasUpload h file first → first.1 ≤ largest_body
short_files (begins user token) legal file first has = absurd has
short_files (more h e) legal file first (inl is) = short_upload h e.call.at e.call.token e.call.request legal.1 file first is
short_files (more h e) legal file first (inr has) = short_files h legal.0 file first has

-- ---- the bytes of a file

module _ (h : History) (legal : IsLegal h) (file bytes : Bytes) (reply : Reply)
    (is : reply_text false (file_reply bytes) ≡ reply_text false reply) where
  found : (body : Option Bytes) → body ≡ body_after h file → reply ≡ body_reply body → body_after h file ≡ Some bytes
  found None has shows = absurd (no_refusal bytes (is ∙ ap (λ it. reply_text false it) shows))
  found (Some body) has shows =
      let short : length body ≤ largest_body =
      short_files h legal file (sha256 body, length body) (serves_uploads h h (itself h) file body (sym has)) in
      sym has ∙ ap (λ it. Some it) (sym (same_bytes bytes body short (is ∙ ap (λ it. reply_text false it) shows)))

  shown : (is_name : Bool) → ShowsFile by_history h file is_name reply → body_after h file ≡ Some bytes
  shown true (body, has, shows) = found body has shows
  shown false shows = absurd (no_refusal bytes (is ∙ ap (λ it. reply_text false it) shows))

-- ---- the reply to a `GET` of a file name

pub by_reply : (h : History) → IsLegal h → (file bytes : Bytes) (Cause : Type 0) (reply : Reply)
    → reply_text false (file_reply bytes) ≡ reply_text false reply
    → ShowsFile by_history h file (is_some (read_file_name file)) reply ⊎ ((reply ≡ store_reply) × Cause) → body_after h file ≡ Some bytes
by_reply h legal file bytes Cause reply is (inl shows) = shown h legal file bytes reply is (is_some (read_file_name file)) shows
by_reply h legal file bytes Cause reply is (inr failed) = absurd (no_fault bytes (is ∙ ap (λ it. reply_text false it) failed.0))

not_silent : (bytes : Bytes) → ¬ (reply_text false (file_reply bytes) ≡ [])
unfolding reply_head head_text
not_silent bytes is = absurd cc

no_read_fault : (faults : StreamFaults) → faults ≡ no_faults → ¬ (0 < faults.reads)
no_read_fault faults is some = let none : faults.reads ≡ 0 = ap (λ (it : StreamFaults). it.reads) is in omega (arith, none, some)

no_write_fault : (faults : StreamFaults) → faults ≡ no_faults → ¬ (0 < faults.writes)
no_write_fault faults is some = let none : faults.writes ≡ 0 = ap (λ (it : StreamFaults). it.writes) is in omega (arith, none, some)

module _ (h h' : History) (legal : IsLegal h) (exchange : Exchange) (file bytes : Bytes) (got : GotFile exchange file bytes) where
  -- the message that was read is the one that was sent
  same_message : (input : Bytes) (message : Message) → IsInput exchange.given input → IsMessage input message
      → message ≡ Whole (get_of_file file got.fields) got.sent
  same_message input message is_input is_message =
      let is : input ≡ got.input = subst (λ given. IsInput given input) got.given is_input in
      at_most_one got.input message (Whole (get_of_file file got.fields) got.sent) (subst (λ it. IsMessage it message) is is_message)
      got.message

  whole : (Cause : Type 0) (text : Bytes) → reply_text false (file_reply bytes) ≡ text
      → InputGetsText by_history Cause exchange.at h exchange.given text h' → body_after h file ≡ Some bytes
  whole Cause text is (input, message, is_input, is_message, gets) =
      let replies = subst (λ it. MessageGetsText by_history Cause exchange.at h it text h') (same_message input message is_input is_message)
      gets in
      by_reply h legal file bytes Cause replies.0 (is ∙ replies.1) replies.2.0

  by_end : (ended : Result (Unit {0}) IoEnd) (Cause : Type 0) → EndHasCause exchange ended
      → ReplyEnds (λ text. InputGetsText by_history Cause exchange.at h exchange.given text h') (h' ≡ h) (Some [])
      (Some (reply_text false (file_reply bytes))) ended
      → body_after h file ≡ Some bytes
  by_end (Ok done) Cause cause (text, gets, sends) = whole Cause text sends gets
  by_end (Err ReadFault) Cause cause ends = absurd (no_read_fault exchange.faults got.unfailed cause)
  by_end (Err OutOfMemory) Cause cause (same, kept) = absurd (not_silent bytes kept)
  by_end (Err (WriteFault count)) Cause cause ends = absurd (no_write_fault exchange.faults got.unfailed cause)
  by_end (Err (Cut count)) Cause (input, message, is_input, is_message, is_page) ends =
      let no : true ≡ false = sym is_page ∙ ap asks_page (same_message input message is_input is_message) in
      absurd cc

  -- the bytes that were sent are those that the history has of the file
  pub sent_is_served : ExchangeIsAnswered by_history exchange h h' → body_after h file ≡ Some bytes
  sent_is_served one =
      by_end one.ended _ one.cause
      (subst (λ has. ReplyEnds (λ text. InputGetsText by_history (HasFailed one.failures one.later_failures)
      exchange.at h exchange.given text h') (h' ≡ h) (Some []) has one.ended) got.has
      (subst (λ had. ReplyEnds (λ text. InputGetsText by_history (HasFailed one.failures one.later_failures)
      exchange.at h exchange.given text h') (h' ≡ h) had exchange.has one.ended) got.had one.ends))

-- ---- exchanges

-- each of them is of some point of the history that they make
pub sent_at_some_point : (exchanges : List Exchange) (h later : History) → IsLegal later → ExchangesAreAnswered by_history exchanges h later
    → (one : Exchange) → IsAmong one exchanges → (file bytes : Bytes) → GotFile one file bytes → IsServedAt later file bytes
sent_at_some_point [] h later legal answered one among file bytes got = absurd among
sent_at_some_point (exchange ∷ earlier) h later legal (between, each, answers) one (inl is) file bytes got =
    let front = answered_each (exchange ∷ []) between later (between, refl, answers) in (
      between,
      front,
      sent_is_served between later (legal_front between later front legal) exchange file bytes
          (subst (λ it. GotFile it file bytes) is got) answers,
    )
sent_at_some_point (exchange ∷ earlier) h later legal (between, each, answers) one (inr among) file bytes got =
    let front = answered_each (exchange ∷ []) between later (between, refl, answers) in
    let it = sent_at_some_point earlier h between (legal_front between later front legal) each one among file bytes got in
    (it.0, longer it.0 between later it.1 front, it.2)

-- bytes of one file name at any two points have one digest and one size
pub points_agree : (h : History) → IsLegal h → (file first second : Bytes) → IsServedAt h file first → IsServedAt h file second
    → (sha256 first ≡ sha256 second) × (length first ≡ length second)
points_agree h legal file first second one other = serves_bound h legal one.0 other.0 one.1 other.1 file first second one.2 other.2

-- a point of a history is one of each that goes on from it
pub served_later : (h later : History) → IsFrontOf h later → (file bytes : Bytes) → IsServedAt h file bytes → IsServedAt later file bytes
served_later h later front file bytes it = (it.0, longer it.0 h later it.1 front, it.2)
