-- A reply that was sent ends a connection.
use Rattle.index_http.proofs.Words.{◌≡◌, ◌⊎◌, ℕ, Bool, true, false, inl, inr, refl, sym, subst, Option, Result, Ok, Err, HttpRequest}
use Rattle.index_http.proofs.Words.{Message, Faulty, Whole, Bytes, Tables, CountsStoreFault, Fault, Store, ReplyEnds, store_reply, Reply}
use Rattle.index_http.proofs.Words.{reply_text, SendsText, LookFails, LookEnds, IsTextOfLook, IoEnd, ReadFault, OutOfMemory, WriteFault}
use Rattle.index_http.proofs.Words.{Cut}
use Rattle.index_message.specs.Messages.{is_faulty}
use Rattle.index_rules.specs.StoreFaults.{is_store_fault}
use Rattle.index_rules.specs.declared.answer.Fault.TheVariants.{OutOfMemory as NoMemory}

-- a text that was sent and is a reply
pub sent_ends : (IsReply : Bytes → Type 0) (Unchanged : Type 0) (text : Bytes) (before after : Option Bytes)
    (result : Result (Unit {0}) IoEnd)
    → IsReply text → SendsText text before after result → ReplyEnds IsReply Unchanged before after result
sent_ends IsReply Unchanged text before after (Ok done) is sends = (text, is, sends)
sent_ends IsReply Unchanged text before after (Err ReadFault) is sends = absurd sends
sent_ends IsReply Unchanged text before after (Err OutOfMemory) is sends = absurd sends
sent_ends IsReply Unchanged text before after (Err (WriteFault count)) is sends = (text, is, sends)
sent_ends IsReply Unchanged text before after (Err (Cut count)) is sends = (text, is, sends)

-- a reply that shows what is asked for
pub shown_ends : (is_head : Bool) (IsReply : Reply
    → Type 0) (Cause : Type 0) (given reply : Reply) (before after : Option Bytes) (result : Result (Unit {0}) IoEnd)
    → given ≡ reply → IsReply reply → SendsText (reply_text is_head given) before after result
    → LookEnds is_head IsReply Cause before after result
shown_ends is_head IsReply Cause given reply before after result same is sends =
    sent_ends (IsTextOfLook is_head IsReply Cause) (Unit {0}) (reply_text is_head given) before after result
    (given, refl, inl (subst IsReply (sym same) is)) sends

-- a look that failed
pub fault_ends : (is_head : Bool) (IsReply : Reply
    → Type 0) (Cause : Type 0) (fault : Fault) (before after : Option Bytes) (result : Result (Unit {0}) IoEnd)
    → (fault ≡ Store → IsReply store_reply ⊎ Cause) → LookFails is_head fault before after result
    → LookEnds is_head IsReply Cause before after result
fault_ends is_head IsReply Cause Store before after result caused sends =
    sent_ends (IsTextOfLook is_head IsReply Cause) (Unit {0}) (reply_text is_head store_reply) before after result (
      store_reply,
      refl,
      told (caused refl),
    ) sends
  where
    told : IsReply store_reply ⊎ Cause → IsReply store_reply ⊎ ((store_reply ≡ store_reply) × Cause)
    told (inl is) = inl is
    told (inr cause) = inr (refl, cause)
fault_ends is_head IsReply Cause NoMemory before after result caused (is, kept) =
    subst (λ r. LookEnds is_head IsReply Cause before after r) (sym is) (tt, kept)

-- a reply that was sent does not end because memory ran out
pub sent_memory : (text : Bytes) (before after : Option Bytes) (result : Result (Unit {0}) IoEnd) → SendsText text before after result
    → result ≡ Err OutOfMemory → ⊥
sent_memory text before after result sends is = subst (λ r. SendsText text before after r) is sends

-- a fault of the store is replied, so only memory that ran out ends as `OutOfMemory`
pub fault_memory : (is_head : Bool) (fault : Fault) (before after : Option Bytes) (result : Result (Unit {0}) IoEnd)
    → LookFails is_head fault before after result
    → result ≡ Err OutOfMemory → fault ≡ NoMemory
fault_memory is_head Store before after result sends is = absurd (sent_memory _ before after result sends is)
fault_memory is_head NoMemory before after result none is = refl

-- and then no fault of the store was counted
pub fault_stores : (is_head : Bool) (fault : Fault) (before after : Option Bytes) (result : Result (Unit {0}) IoEnd) (old new : ℕ)
    → LookFails is_head fault before after result
    → CountsStoreFault old new (is_store_fault fault) → result ≡ Err OutOfMemory → new ≡ old
fault_stores is_head Store before after result old new sends counts is = absurd (sent_memory _ before after result sends is)
fault_stores is_head NoMemory before after result old new none counts is = counts

-- ---- a reply of one kind is one of another

pub ends_map : (P Q : Bytes → Type 0) (U V : Type 0) (before after : Option Bytes) (result : Result (Unit {0}) IoEnd)
    → ((text : Bytes) → P text → Q text) → (U → V) → ReplyEnds P U before after result → ReplyEnds Q V before after result
ends_map P Q U V before after (Ok done) f g ends = (ends.0, f ends.0 ends.1, ends.2)
ends_map P Q U V before after (Err ReadFault) f g ends = (g ends.0, ends.1)
ends_map P Q U V before after (Err OutOfMemory) f g ends = (g ends.0, ends.1)
ends_map P Q U V before after (Err (WriteFault count)) f g ends = (ends.0, f ends.0 ends.1, ends.2)
ends_map P Q U V before after (Err (Cut count)) f g ends = (ends.0, f ends.0 ends.1, ends.2)

pub shown_map : (is_head : Bool) (P Q : Reply → Type 0) (Cause : Type 0) → ((reply : Reply) → P reply → Q reply)
    → (text : Bytes) → IsTextOfLook is_head P Cause text → IsTextOfLook is_head Q Cause text
shown_map is_head P Q Cause f text (reply, is, inl shows) = (reply, is, inl (f reply shows))
shown_map is_head P Q Cause f text (reply, is, inr failed) = (reply, is, inr failed)

pub ends_shown_map : (is_head : Bool) (P Q : Reply
    → Type 0) (Cause : Type 0) (before after : Option Bytes) (result : Result (Unit {0}) IoEnd)
    → ((reply : Reply) → P reply → Q reply) → LookEnds is_head P Cause before after result → LookEnds is_head Q Cause before after result
ends_shown_map is_head P Q Cause before after result f ends =
    ends_map (IsTextOfLook is_head P Cause) (IsTextOfLook is_head Q Cause) (Unit {0}) (Unit {0}) before after result
    (shown_map is_head P Q Cause f) (λ u. u) ends

-- ---- the tables that stand after a reply

-- if just these tables stand, the reply is one after which they do
pub stands_ends : (IsReply : Bytes → Tables → Type 0) (IsLater : Tables
    → Type 0) (T T' : Tables) (before after : Option Bytes) (result : Result (Unit {0}) IoEnd)
    → ((later : Tables) → IsLater later → T' ≡ later)
    → ReplyEnds (λ text. (later : Tables) × IsReply text later × IsLater later) (IsLater T) before after result
    → ReplyEnds (λ text. IsReply text T') (T' ≡ T) before after result
stands_ends IsReply IsLater T T' before after result same ends =
    ends_map _ _ _ _ before after result (λ text it. subst (IsReply text) (sym (same it.0 it.2)) it.1) (λ it. same T it) ends

-- what is not whole has a page
pub has_page : (is_page is_cut : Bool) → (is_page ≡ false → is_cut ≡ false) → is_cut ≡ true → is_page ≡ true
has_page true is_cut whole cut = refl
has_page false is_cut whole cut = let is = whole refl in cc (is, cut)

-- a message has a fault, or it is a whole request
pub fault_or_request : (message : Message) → (is_faulty message ≡ true)
    ⊎ ((request : HttpRequest) × (body : Bytes) × (message ≡ Whole request body))
fault_or_request (Faulty fault to_head) = inl refl
fault_or_request (Whole request body) = inr (request, body, refl)
