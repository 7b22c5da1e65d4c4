-- Replies that were dropped do not meet the words of the contracts.
use Rattle.index.proofs.Words.{◌≡◌, ◌∙◌, ◌⊎◌, ◌<◌, ℕ, Bool, List, [], ◌∷◌, length, Option, Some, None, Result, Ok, Err, refl, sym, ap}
use Rattle.index.proofs.Words.{subst, inl, inr, arith, Appends, Keeps, Rules, by_history, by_tables, Message, Faulty, Whole, ReplyEnds}
use Rattle.index.proofs.Words.{MessageGetsText, head_text, message_reply, reply_head, reply_text, GivesMessage, asks_page, IoEnd, AddsReply}
use Rattle.index.proofs.Words.{ClientTaken, Exchange, IsUnsent, KnownList, KnownReplies, SentReply, StreamFaults, no_faults, Bytes, Tables}
use Rattle.index.proofs.Words.{AreAmong}
use Rattle.index_http.specs.Replies.{Reply}
use Rattle.index_http.specs.declared.connection.IoEnd.TheVariants as io_end
use Rattle.index_cli.specs.Serving.{ExchangeIsAnswered, ExchangesAreAnswered, EndHasCause}
use Rattle.index.specs.Tasks.{IsDone}
use Rattle.index.specs.RefutedDrops.{RefutesDrops, RefutesSilence, RefutesUnreplied, nothing_sent}

-- ---- an exchange without a fault

no_read : (faults : StreamFaults) → faults ≡ no_faults → ¬ (0 < faults.reads)
no_read faults none failed = let is : faults.reads ≡ 0 = ap (λ (it : StreamFaults). it.reads) none in absurd (omega (arith, is, failed))

no_write : (faults : StreamFaults) → faults ≡ no_faults → ¬ (0 < faults.writes)
no_write faults none failed = let is : faults.writes ≡ 0 = ap (λ (it : StreamFaults). it.writes) none in absurd (omega (arith, is, failed))

-- if its message asks for no page, its whole reply was sent, or nothing was sent and nothing changed
replied_or_kept : (IsReply : Bytes → Type 0) (Unchanged : Type 0) (exchange : Exchange) (ended : Result (Unit {0}) IoEnd)
    → exchange.faults ≡ no_faults
    → (¬ GivesMessage asks_page exchange.given) → EndHasCause exchange ended → ReplyEnds IsReply Unchanged exchange.had exchange.has ended
    → ((text : Bytes) × IsReply text × Appends exchange.had exchange.has text) ⊎ (Unchanged × Keeps exchange.had exchange.has)
replied_or_kept IsReply Unchanged exchange (Ok done) none page cause ends = inl ends
replied_or_kept IsReply Unchanged exchange (Err io_end.ReadFault) none page cause ends = absurd (no_read exchange.faults none cause)
replied_or_kept IsReply Unchanged exchange (Err io_end.OutOfMemory) none page cause ends = inr ends
replied_or_kept IsReply Unchanged exchange (Err (io_end.WriteFault count)) none page cause ends =
    absurd (no_write exchange.faults none cause)
replied_or_kept IsReply Unchanged exchange (Err (io_end.Cut count)) none page cause ends = absurd (page cause)

refutes_unreplied : {S : Type 0} (rules : Rules S) → RefutesUnreplied rules
refutes_unreplied rules = record {
  changed = λ exchange s s' none page missing changed it. elim (replied_or_kept _ _ exchange it.ended none page it.cause it.ends) [
    | inl (text, is, sent) ↦ missing it.failures it.later_failures text is sent
    | inr (same, kept) ↦ changed same
  ];
  part = λ exchange s s' none page missing part it. elim (replied_or_kept _ _ exchange it.ended none page it.cause it.ends) [
    | inl (text, is, sent) ↦ missing it.failures it.later_failures text is sent
    | inr (same, kept) ↦ part kept
  ];
}

-- ---- a run over one client

abbrev first_of : List ℕ → ℕ
first_of [] = 0
first_of (x ∷ xs) = x

-- no reply is empty
begins_with_h : (to_head : Bool) (reply : Reply) → first_of (reply_text to_head reply) ≡ 72
unfolding reply_head head_text
begins_with_h to_head reply = refl

no_empty_reply : (to_head : Bool) (reply : Reply) → ¬ (reply_text to_head reply ≡ [])
no_empty_reply to_head reply none =
    let is : 72 ≡ 0 = sym (begins_with_h to_head reply) ∙ ap first_of none in
    absurd (omega (arith, is))

some_text : (Cause : Type 0) (at : ℕ) (T T' : Tables) (message : Message) (text : Bytes)
    → MessageGetsText by_tables Cause at T message text T' → ¬ (text ≡ [])
some_text Cause at T T' (Faulty fault is_head) text it none = no_empty_reply is_head (message_reply fault) (sym it.0 ∙ none)
some_text Cause at T T' (Whole request body) text it none = no_empty_reply _ it.0 (sym it.1 ∙ none)

-- one exchange that sent nothing, without a fault, changed no table
silent_one : (exchange : Exchange) (T T' : Tables) → exchange.had ≡ Some [] → exchange.has ≡ Some [] → exchange.faults ≡ no_faults
    → (¬ GivesMessage asks_page exchange.given)
    → ExchangeIsAnswered by_tables exchange T T' → T' ≡ T
silent_one exchange T T' had has none page it = elim (replied_or_kept _ _ exchange it.ended none page it.cause it.ends) [
  | inl (text, is, sent) ↦
      let was = subst (λ (it : Option Bytes). Appends it exchange.has text) had sent in
      let all : [] ≡ text = subst (λ (it : Option Bytes). Appends (Some []) it text) has was in
      absurd (some_text _ exchange.at T T' is.1 text is.4 (sym all))
  | inr (same, kept) ↦ same
]

abbrev first_input : List Bytes → Bytes
first_input [] = []
first_input (it ∷ rest) = it

abbrev first_reply : KnownReplies → SentReply
first_reply None = nothing_sent
first_reply (Some []) = nothing_sent
first_reply (Some (it ∷ rest)) = it

silent_run : (input : Bytes) (T T' : Tables) → (¬ GivesMessage asks_page (Some input)) → (exchanges : List Exchange) → length exchanges ≡ 1
    → AreAmong (Some (input ∷ [])) (Some []) (Some []) (Some (nothing_sent ∷ [])) exchanges → ExchangesAreAnswered by_tables exchanges T T'
    → T' ≡ T
silent_run input T T' page [] one are answered = absurd (omega (arith, one))
silent_run input T T' page (exchange ∷ other ∷ earlier) one are answered = absurd (omega (arith, one))
silent_run input T T' page (exchange ∷ []) one are (between, was, answered) =
    let took = subst (λ (it : KnownList). ClientTaken it are.later exchange.given) are.came.1 are.came.2 in
    let first : input ≡ took.0 = ap (λ (it : List Bytes). first_input it) took.2 in
    let given : exchange.given ≡ Some input = took.3 ∙ ap (λ (it : Bytes). Some it) (sym first) in
    let unsent = subst (λ (it : KnownReplies). IsUnsent it exchange.had) are.closed.1 are.closed.2 in
    let adds = subst (λ (it : KnownReplies). AddsReply it (Some (nothing_sent ∷ [])) exchange.has exchange.faults)
    are.closed.1 are.closed.3 in
    let closed : Some (nothing_sent ∷ []) ≡ Some (record { bytes = adds.0; faults = exchange.faults } ∷ []) = adds.2 in
    let reply : nothing_sent ≡ record { bytes = adds.0; faults = exchange.faults } = ap (λ (it : KnownReplies). first_reply it) closed in
    let has : exchange.has ≡ Some [] = adds.1 ∙ ap (λ (it : SentReply). Some it.bytes) (sym reply) in
    let none : exchange.faults ≡ no_faults = ap (λ (it : SentReply). it.faults) (sym reply) in
    silent_one exchange between T' unsent has none (λ asked. page (subst (λ (it : Option Bytes). GivesMessage asks_page it) given asked))
    answered ∙ was

refutes_silence : RefutesSilence
refutes_silence at input found T T' page changed it =
    let then = it.is.tables it.one_bearer in
    let answered = subst (λ done. IsDone by_tables done T then.later) it.ends.is then.is in
    changed (then.shows ∙ silent_run input T then.later page it.ends.exchanges it.ends.counted it.ends.are answered)

pub refutes_drops : RefutesDrops
refutes_drops = record { tables = refutes_unreplied by_tables; history = refutes_unreplied by_history; silence = refutes_silence }
