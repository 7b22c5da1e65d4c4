-- A store that stays honest, or a failure that what went out shows.
use Rattle.index_http.proofs.Words.{◌≡◌, ◌∙◌, ◌⊎◌, ℕ, Bool, true, false, inl, inr, refl, sym, length, take, append-nil, Option, Some, None}
use Rattle.index_http.proofs.Words.{Result, Ok, Err, Appends, Keeps, Bytes, Tables, Answer, Fault, Store, Lasts, by_tables, HttpRequest}
use Rattle.index_http.proofs.Words.{is_head, is_reading, Whole, ReplyEnds, MessageGetsText, ShowsResource, store_reply, Reply, answer_reply}
use Rattle.index_http.proofs.Words.{reply_text, SendsLessThanText, SendsText, LookFails, IsTextOfLook, IoEnd, ReadFault, OutOfMemory}
use Rattle.index_http.proofs.Words.{WriteFault, Cut}
use Rattle.std.proofs.Common.{le_refl, take_all}
use Rattle.index_rules.specs.declared.answer.Answer.TheVariants as answer
use Rattle.index_rules.specs.declared.answer.Fault.TheVariants.{OutOfMemory as NoMemory}
use Rattle.index_desk.specs.Takes.{answers_fault}
use Rattle.index_http.specs.Ends.{SentBytesShowFailure}

-- ---- the reply to a fault

-- nothing went out, which is the shortest front of a text
none_sent : (text : Bytes) (before after : Option Bytes) → Keeps before after → Appends before after (take 0 text)
none_sent text None after kept = tt
none_sent text (Some had) None kept = absurd kept
none_sent text (Some had) (Some has) kept = kept ∙ sym (append-nil had)

-- a text that was sent, or a front of it
front_sent : (text : Bytes) (before after : Option Bytes) (result : Result (Unit {0}) IoEnd) → SendsText text before after result
    → (count : ℕ) × Appends before after (take count text)
front_sent text before after (Ok done) sends = (length text, rw (take_all (length text) text (le_refl (length text))) sends)
front_sent text before after (Err ReadFault) sends = absurd sends
front_sent text before after (Err OutOfMemory) sends = absurd sends
front_sent text before after (Err (WriteFault count)) sends = (count, sends.1)
front_sent text before after (Err (Cut count)) sends = (count, sends.1)

fault_sent : (IsReply : Bytes → Type 0) (is_head by_put : Bool) (fault : Fault) (before after : Option Bytes)
    (result : Result (Unit {0}) IoEnd)
    → SendsText (reply_text is_head (answer_reply by_put (answer.Fault fault))) before after result
    → SentBytesShowFailure IsReply before after
fault_sent IsReply is_head by_put fault before after result sends =
    let text = reply_text is_head (answer_reply by_put (answer.Fault fault)) in
    let front = front_sent text before after result sends in
    inl (text, (is_head, by_put, fault, refl), front.0, front.1)

-- a look that failed
pub look_failed : (IsReply : Bytes → Type 0) (is_head : Bool) (fault : Fault) (before after : Option Bytes)
    (result : Result (Unit {0}) IoEnd)
    → LookFails is_head fault before after result → SentBytesShowFailure IsReply before after
look_failed IsReply is_head Store before after result sends = fault_sent IsReply is_head false Store before after result sends
look_failed IsReply is_head NoMemory before after result none =
    let text = reply_text is_head store_reply in
    inl (text, (is_head, false, Store, refl), 0, none_sent text before after none.1)

-- an answer that was sent
pub answer_lasts : (IsReply : Bytes → Type 0) (is_head by_put : Bool) (it : Answer) (Honest Honest' : Type 0) (old new : ℕ)
    (before after : Option Bytes) (result : Result (Unit {0}) IoEnd)
    → Lasts it Honest Honest' → Honest → (answers_fault it ≡ false → new ≡ old)
    → SendsText (reply_text is_head (answer_reply by_put it)) before after result
    → (Honest' × (new ≡ old)) ⊎ SentBytesShowFailure IsReply before after
answer_lasts IsReply is_head by_put answer.Accepted Honest Honest' old new before after result lasts honest kept sends =
    inl (lasts, kept refl)
answer_lasts IsReply is_head by_put answer.Already Honest Honest' old new before after result lasts honest kept sends =
    inl (lasts honest, kept refl)
answer_lasts IsReply is_head by_put (answer.Refused refusal) Honest Honest' old new before after result lasts honest kept sends =
    inl (lasts honest, kept refl)
answer_lasts IsReply is_head by_put (answer.Fault fault) Honest Honest' old new before after result lasts honest kept sends =
    inr (fault_sent IsReply is_head by_put fault before after result sends)

-- ---- a reply of one kind is one of another

module _ (P Q : Bytes → Type 0) (before after : Option Bytes) (f : (text : Bytes) → P text → Q text) where
  pub failure_map : SentBytesShowFailure P before after → SentBytesShowFailure Q before after
  failure_map (inl fault) = inl fault
  failure_map (inr less) = inr (less.0, f less.0 less.1, less.2)

  pub lasts_map : (Stays : Type 0) → Stays ⊎ SentBytesShowFailure P before after → Stays ⊎ SentBytesShowFailure Q before after
  lasts_map Stays (inl stays) = inl stays
  lasts_map Stays (inr shows) = inr (failure_map shows)

-- a reply of which not all was sent
pub less_shows : (is_head : Bool) (IsReply : Reply → Type 0) (reply : Reply) (before after : Option Bytes) → IsReply reply
    → SendsLessThanText (reply_text is_head reply) before after → SentBytesShowFailure (IsTextOfLook is_head IsReply ⊥) before after
less_shows is_head IsReply reply before after is less = inr (reply_text is_head reply, (reply, refl, inl is), less)

-- what a look shows is the reply to its request
pub look_lasts : (Stays : Type 0) (at : ℕ) (T : Tables) (request : HttpRequest) (body : Bytes) (before after : Option Bytes)
    → is_reading request.method ≡ true
    → Stays ⊎ SentBytesShowFailure (IsTextOfLook (is_head request.method) (ShowsResource by_tables T request.fields request.resource) ⊥)
    before after
    → Stays ⊎ SentBytesShowFailure (λ text. (later : Tables) × MessageGetsText by_tables ⊥ at T (Whole request body) text later)
    before after
look_lasts Stays at T request body before after reads =
    lasts_map _ (λ text. (later : Tables) × MessageGetsText by_tables ⊥ at T (Whole request body) text later) before after
    (λ text shown. (T, (shown.0, shown.1, rw reads (shown.2, refl)))) Stays

-- ---- the tables after a reply

-- some tables stand, however the reply ends
pub one_later : (IsReply : Bytes → Tables → Type 0) (Is : Tables
    → Type 0) (T : Tables) (Unchanged : Type 0) (before after : Option Bytes) (result : Result (Unit {0}) IoEnd)
    → ReplyEnds (λ text. (later : Tables) × IsReply text later × Is later) Unchanged before after result
    → (later : Tables) × ReplyEnds (λ text. IsReply text later) (later ≡ T) before after result
one_later IsReply Is T Unchanged before after (Ok done) ends = (ends.1.0, (ends.0, ends.1.1, ends.2))
one_later IsReply Is T Unchanged before after (Err (WriteFault count)) ends = (ends.1.0, (ends.0, ends.1.1, ends.2))
one_later IsReply Is T Unchanged before after (Err (Cut count)) ends = (ends.1.0, (ends.0, ends.1.1, ends.2))
one_later IsReply Is T Unchanged before after (Err ReadFault) ends = (T, (refl, ends.1))
one_later IsReply Is T Unchanged before after (Err OutOfMemory) ends = (T, (refl, ends.1))
