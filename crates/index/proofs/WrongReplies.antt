-- Wrong replies to messages, to lines and on connections do not meet the words of the contracts.
use Rattle.index.proofs.Words.{◌≡◌, ◌∙◌, ◌<◌, ℕ, suc, Bool, true, false, List, [], ◌++◌, length, take, drop, Option, Some, None, Result, Ok}
use Rattle.index.proofs.Words.{Err, refl, sym, ap, subst, inl, inr, arith, append-nil, Appends, Keeps, append_cancel_left, LeavesTables}
use Rattle.index.proofs.Words.{Rules, by_history, by_tables, Takes, standing_text_of, Line, HasHead, HasNoHead, IsMessage, begins_with_head}
use Rattle.index.proofs.Words.{BadHead, Message, Faulty, Whole, ReplyEnds, MessageGetsText, reply_head, reply_text, to_sink, IoEnd}
use Rattle.index.proofs.Words.{ClientTaken, StreamFaults, TextAnswersParsedLine, LineEnd, Answer, Call, HasOneBearer, History, Bytes}
use Rattle.index.proofs.Words.{StandsFor, Tables}
use Rattle.std.proofs.Common.{le_refl, length-take-le, take_all, take-append-drop}
use Rattle.index_io.specs.Counts.{HasFailed}
use Rattle.index_io.specs.declared.sink.Sink.{Ghosts as Outs}
use Rattle.index_message.specs.Resources.{is_head, is_put}
use Rattle.index_http.specs.Asks.{Asks, AsksFor, MessageIsAnswered, call_in, text_of_answer}
use Rattle.index_http.specs.Ends.{IsFaultReply, LastsOrFails, SentBytesShowFailure}
use Rattle.index_http.specs.Exchanges.{Acts, HasRequest, InputGetsText, IsFaultless, RequestGetsReply, RequestGetsText}
use Rattle.index_http.specs.Exchanges.{ShowsFile, ShowsResource, body_reply}
use Rattle.index_http.specs.Sends.{SendsFirstBytes, SendsLessThanText}
use Rattle.index_http.specs.Steps.{at_desk}
use Rattle.index_http.specs.declared.connection.IoEnd.TheVariants as io_end
use Rattle.index_cli.specs.Replies.{line_reply_text}
use Rattle.index_cli.specs.declared.end.LineEnd.TheVariants as line_end
use Rattle.index_rules.specs.declared.books.Books.{Ghosts}
use Rattle.index.specs.RefutedReplies.{RefutesAsks, RefutesHeadless, RefutesHeads, RefutesLineFaults, RefutesLineReplies, RefutesMessages}
use Rattle.index.specs.RefutedReplies.{RefutesNext, RefutesReplies, RefutesShows, bad_head_text}
use Rattle.index.proofs.WrongHeads.{no_fault_reply, same_status}
use Rattle.index.proofs.WrongTexts.{store_is_told}
use Rattle.index.proofs.WrongLooks.{refutes_bytes, refutes_looks, refutes_reports}

no_truth : true ≡ false → ⊥
no_truth is = cc is

-- ---- messages

module _ {S K : Type 0} (g : Ghosts S) (out : Outs K) (old new : S) (before after : K) where
  abbrev Failed : Type 0
  Failed = HasFailed (g.failures old) (g.failures new)

  -- these bytes were sent
  abbrev Sent : Bytes → Type 0
  Sent text = Appends (out.contents before) (out.contents after) text

  -- the whole reply to a message
  replied : (at : ℕ) (message : Message) → g.IsHonest new → g.IsClean new → HasOneBearer (g.tables old)
      → MessageIsAnswered at message (at_desk g old new) (to_sink out before after) (Ok tt)
      → (text : Bytes) × (later : Tables) × MessageGetsText by_tables Failed at (g.tables old) message text later × Sent text
  replied at message honest clean one it =
      let r = it.tables (it.keeps.honest honest) clean one in
      (r.0, r.1.0, r.1.1, r.2)

  pub refutes_messages : g.IsHonest new → g.IsClean new → HasOneBearer (g.tables old) → RefutesMessages g out old new before after
  refutes_messages honest clean one = record {
    faulty = λ at why to_head wrong it.
        let r = replied at (Faulty why to_head) honest clean one it in
        wrong (subst Sent r.2.0 r.3);
    call = λ at request body call reads is wrong it.
        let r = replied at (Whole request body) honest clean one it in
        let s = subst (λ (reading : Bool). RequestGetsText by_tables Failed at (g.tables old) request body reading r.0 r.1) reads r.2 in
        let a = subst (λ (it : Option Call). Acts by_tables Failed (is_put request.method) (g.tables old) it s.0 r.1) is s.2 in
        wrong a.0 a.2 (subst Sent (s.1 ∙ ap (λ it. reply_text (is_head request.method) it) a.1) r.3);
    file = λ at request body name reads is valid kept wrong it.
        let r = replied at (Whole request body) honest clean one it in
        let s = subst (λ (reading : Bool). RequestGetsText by_tables Failed at (g.tables old) request body reading r.0 r.1) reads r.2 in
        let whole : RequestGetsReply by_tables Failed at (g.tables old) request body true s.0 r.1 = s.2 in
        elim whole.0 [
          | inl shows ↦
              let f = subst (λ it. ShowsResource by_tables (g.tables old) request.fields it s.0) is shows in
              let b = subst (λ (it : Bool). ShowsFile by_tables (g.tables old) name it s.0) valid f in
              wrong (subst Sent (s.1 ∙ ap (λ it. reply_text (is_head request.method) it) (b.2 ∙ ap body_reply b.1)) r.3)
          | inr failed ↦ kept failed.1
        ];
    memory = λ at request body reads changed it. elim (it.memory refl) [
      | inl same ↦ changed same
      | inr look ↦ no_truth (sym look ∙ reads)
    ];
    read = λ at message it. it.sends.no_read_fault refl;
  }

  pub refutes_shows : g.IsHonest new → g.IsClean new → RefutesShows g out old new before after
  refutes_shows honest clean = record {
    shown = λ look what kept wrong it.
        let s = it.shown (it.leaves.honest honest) clean in
        elim s.1.2 [
          | inl is ↦ wrong (subst Sent (s.1.1 ∙ ap (λ it. reply_text look.is_head it) is) s.2)
          | inr failed ↦ kept failed.1
        ];
    changed = λ look what result changed it. changed (it.leaves.unchanged honest);
    page = λ page_of text wrong it. wrong (it.text (it.look.honest honest) clean);
  }

-- ---- heads

-- nothing was sent, which is the shortest front of a text
nothing_sent : (text : Bytes) (had has : Option Bytes) → Keeps had has → Appends had has (take 0 text)
nothing_sent text None has kept = tt
nothing_sent text (Some had) None kept = absurd kept
nothing_sent text (Some had) (Some has) kept = kept ∙ sym (append-nil had)

-- what was sent behind known bytes is what was to be sent
same_sent : (old new : Option Bytes) (had sent text : Bytes) → old ≡ Some had → new ≡ Some (had ++ sent) → Appends old new text
    → sent ≡ text
same_sent old new had sent text is is' sends =
    let known : Appends (Some had) new text = subst (λ it. Appends it new text) is sends in
    let both : had ++ sent ≡ had ++ text = subst (λ it. Appends (Some had) it text) is' known in
    append_cancel_left had sent text both

pub refutes_heads : {K : Type 0} (out : Outs K) (before after : K) → RefutesHeads out before after
refutes_heads out before after = record {
  text = λ head text count wrong it. wrong it.whole.1;
  size = λ head text count wrong it. wrong it.whole.0;
  status = λ had fields lines status other size more count low below differs is is' it.
      differs (same_status status other fields lines size more low below
      (same_sent (out.contents before) (out.contents after) had (reply_head other lines more) (reply_head status fields size)
      is is' it.whole.1));
}

-- ---- an input without a head

-- it is one message
pub bad_message : (input front : Bytes) (message : Message) → HasNoHead input → front ≡ input → IsMessage front message
    → message ≡ Faulty BadHead (begins_with_head input)
bad_message input front message none same (inl bad) = bad.1 ∙ ap (λ (it : Bytes). Faulty BadHead (begins_with_head it)) same
bad_message input front message none same (inr it) = absurd (none it.0 it.1 (subst (λ (front : Bytes). HasHead front it.0 it.1) same it.2))

module _ {S : Type 0} (rules : Rules S) (at : ℕ) (s : S) (input : Bytes) (none : HasNoHead input) where
  -- its reply, which leaves the state
  pub bad_head_replied : (Cause : Type 0) (text : Bytes) (s' : S) → InputGetsText rules Cause at s (Some input) text s'
      → (text ≡ bad_head_text input) × (s' ≡ s)
  bad_head_replied Cause text s' it =
      let is = bad_message input it.0 it.1 none it.2 it.3 in
      subst (λ (message : Message). MessageGetsText rules Cause at s message text s') is it.4

  unchanged : (Cause : Type 0) (s' : S) (had has : Option Bytes) (ended : Result (Unit {0}) IoEnd)
      → ReplyEnds (λ text. InputGetsText rules Cause at s (Some input) text s') (s' ≡ s) had has ended → s' ≡ s
  unchanged Cause s' had has (Ok done) ends = (bad_head_replied Cause ends.0 s' ends.1).1
  unchanged Cause s' had has (Err (io_end.WriteFault count)) ends = (bad_head_replied Cause ends.0 s' ends.1).1
  unchanged Cause s' had has (Err (io_end.Cut count)) ends = (bad_head_replied Cause ends.0 s' ends.1).1
  unchanged Cause s' had has (Err io_end.ReadFault) ends = ends.0
  unchanged Cause s' had has (Err io_end.OutOfMemory) ends = ends.0

  -- a front of its reply was sent
  part_sent : (text : Bytes) (had has : Option Bytes) (count : ℕ) → text ≡ bad_head_text input → SendsFirstBytes text had has count
      → (count : ℕ) × Appends had has (take count (bad_head_text input))
  part_sent text had has count is sends = (count, subst (λ (it : Bytes). Appends had has (take count it)) is sends.1)

  front_sent : (Cause : Type 0) (s' : S) (had has : Option Bytes) (ended : Result (Unit {0}) IoEnd)
      → ReplyEnds (λ text. InputGetsText rules Cause at s (Some input) text s') (s' ≡ s) had has ended
      → (count : ℕ) × Appends had has (take count (bad_head_text input))
  front_sent Cause s' had has (Ok done) ends =
      let text = bad_head_text input in
      let is = (bad_head_replied Cause ends.0 s' ends.1).0 ∙ sym (take_all (length text) text (le_refl (length text))) in
      (length text, subst (λ (it : Bytes). Appends had has it) is ends.2)
  front_sent Cause s' had has (Err (io_end.WriteFault count)) ends =
      part_sent ends.0 had has count (bad_head_replied Cause ends.0 s' ends.1).0 ends.2
  front_sent Cause s' had has (Err (io_end.Cut count)) ends =
      part_sent ends.0 had has count (bad_head_replied Cause ends.0 s' ends.1).0 ends.2
  front_sent Cause s' had has (Err io_end.ReadFault) ends = (0, nothing_sent (bad_head_text input) had has ends.1)
  front_sent Cause s' had has (Err io_end.OutOfMemory) ends = (0, nothing_sent (bad_head_text input) had has ends.1)

  -- its whole reply shows no failure
  whole_is_none : ¬ SentBytesShowFailure (IsFaultless rules at (Some input) s) (Some []) (Some (bad_head_text input))
  whole_is_none (inl fault) =
      let is : IsFaultReply fault.0 = fault.1 in
      let behind = drop fault.2 fault.0 in
      no_fault_reply (begins_with_head input) is.0 is.1 is.2 behind
      (sym is.3 ∙ sym (take-append-drop fault.2 fault.0) ∙ ap (λ (it : Bytes). it ++ behind) (sym fault.3))
  whole_is_none (inr less) =
      let one : IsFaultless rules at (Some input) s less.0 = less.1 in
      let is : length less.0 ≡ length (bad_head_text input) = ap length (bad_head_replied ⊥ less.0 one.0 one.1).0 in
      let sends : SendsLessThanText less.0 (Some []) (Some (bad_head_text input)) = less.2 in
      let low : sends.0 < length less.0 = sends.1 in
      let size : length (bad_head_text input) ≡ sends.0 = ap length sends.2 ∙ length-take-le sends.0 less.0 (omega (arith, low)) in
      absurd (omega (arith, is, low, size))

-- it has no request
no_request : (input : Bytes) → HasNoHead input → ¬ HasRequest (Some input)
no_request input none asked =
    let is = bad_message input asked.0 (Whole asked.1 asked.2) none asked.3 asked.4 in
    cc is

-- no failure is shown, also if a call of the store failed
no_failure_shown : {S K : Type 0} (g : Ghosts S) (out : Outs K) (old new : S) (before after : K) → g.IsClean new → (at : ℕ) (input : Bytes)
    → HasNoHead input → g.IsHonest old
    → (¬ (g.failures new ≡ g.failures old)) → ¬ LastsOrFails at (Some input) (at_desk g old new) (to_sink out before after)
no_failure_shown g out old new before after clean at input none was failed it = elim (it was clean) [
  | inl stays ↦ failed stays.1
  | inr shows ↦ no_request input none shows.0
]

refutes_headless : (at : ℕ) (input : Bytes) (had has : Option Bytes) (faults : StreamFaults) → HasNoHead input
    → RefutesHeadless at input had has faults
refutes_headless at input had has faults none = record {
  text = λ before after h T' wrong it.
      let ends = it.is in
      wrong (subst (λ (it : Bytes). Appends had has it)
      (bad_head_replied by_history at h input none (HasFailed before after) ends.0 it.later ends.1).0 ends.2);
  stands = λ before after h result T' other it.
      other (subst (λ (it : History). StandsFor T' it)
      (unchanged by_history at h input none (HasFailed before after) it.later had has result it.is) it.shows.1);
  tables = λ T T' changed it. changed (unchanged by_tables at T input none (HasFailed it.failures it.later_failures)
      T' had has it.ended it.ends);
  front = λ T T' wrong it.
      let front = front_sent by_tables at T input none (HasFailed it.failures it.later_failures) T' had has it.ended it.ends in
      wrong front.0 front.1;
  history = λ h T' other it.
      let one = it.is in
      let same = unchanged by_history at h input none (HasFailed one.failures one.later_failures) it.later had has one.ended one.ends in
      other (subst (λ (it : History). StandsFor T' it) same it.shows.1);
  whole = λ T. whole_is_none by_tables at T input none;
  fails = λ T it. no_request input none it.asked;
}

-- it asks for no call
pub none_asked : (at : ℕ) (input : Bytes) (Looked : Type 0) (Took : Call → Answer
    → Type 0) (had has : Option Bytes) (ended : Result (Unit {0}) IoEnd)
    → HasNoHead input → Asks at (Some input) Looked Took had has ended → Looked
none_asked at input Looked Took had has ended none (inl early) = early.0
none_asked at input Looked Took had has ended none (inr it) =
    subst (λ (message : Message). AsksFor (call_in at message) (text_of_answer message) Looked Took had has ended)
    (bad_message input it.0 it.1 none it.2 it.3) it.4

refutes_asks : {S : Type 0} (g : Ghosts S) (old new : S) → g.IsHonest new → HasOneBearer (g.tables old)
    → (at : ℕ) (input : Bytes) (had has : Option Bytes) (faults : StreamFaults)
    → HasNoHead input → (¬ (g.tables new ≡ g.tables old)) → RefutesAsks g old new at input had has faults
refutes_asks g old new honest one at input had has faults none changed = record {
  message = λ it.
      let one = it.tables honest one in
      changed (unchanged by_tables at (g.tables old) input none (HasFailed one.failures one.later_failures) (g.tables new)
      had has one.ended one.ends);
  asks = λ it.
      let looked = none_asked at input (LeavesTables g old new) (Takes g old new) had has it.ended none it.asks in
      changed (looked.unchanged honest);
}

-- ---- the next connection

none_taken : (inputs : List Bytes) (given : Option Bytes) → ¬ ClientTaken (Some inputs) (Some inputs) given
none_taken inputs given took =
    let both : Some inputs ≡ Some took.1 = took.4 in
    let same : inputs ≡ took.1 = cc in
    let size : length inputs ≡ suc (length took.1) = ap length took.2 in
    let kept : length inputs ≡ length took.1 = ap length same in
    absurd (omega (arith, size, kept))

refutes_next : {S : Type 0} (g : Ghosts S) (old new : S) → RefutesNext g old new
refutes_next g old new given inputs replies later it = none_taken inputs it.exchange.given it.came

-- ---- lines

refutes_lines : {S : Type 0} (g : Ghosts S) (old new : S) → g.IsHonest new → HasOneBearer (g.tables old) → RefutesLineReplies g old new
refutes_lines g old new honest one = record {
  long = λ reply given long wrong it. wrong ((it.reply honest one given refl refl).1 long).0;
  call = λ reply given call short is wrong it.
      let asked = subst (λ (it : Option Line). TextAnswersParsedLine by_tables it (g.tables old) (line_reply_text reply) (g.tables new)) is
      ((it.reply honest one given refl refl).0 short) in
      wrong asked.0 asked.2 asked.1;
  bad_name = λ reply wrong it. wrong (it.reply honest);
  standing = λ reply name wrong no it. elim (it.reply honest) [
    | inl shown ↦ wrong (shown.2 ∙ ap standing_text_of shown.1)
    | inr failed ↦ no failed.0 failed.1
  ];
  changed = λ result name changed it. changed (it.leaves.unchanged honest);
}

abbrev is_read_fault : LineEnd → Bool
is_read_fault line_end.ReadFault = true
is_read_fault _ = false

refutes_faults : (before after : ℕ) → RefutesLineFaults before after
refutes_faults before after = record {
  read = λ it. no_truth (ap is_read_fault it.memory);
  only = λ changed end it. changed it.kept;
  store = λ changed end it. changed it.kept;
  memory = λ changed reply is it. changed (it.memory is);
  cause = λ low same reply is it.
      let one = store_is_told (line_reply_text reply) it.told.0 is it.told.1 in
      elim it.told.2 [
        | inl more ↦ absurd (omega (arith, same, one, more))
        | inr last ↦ absurd (omega (arith, low, same, last))
      ];
}

-- ---- all of them

pub refutes_replies : {S K : Type 0} (g : Ghosts S) (out : Outs K) → RefutesReplies g out
refutes_replies g out = record {
  honest = λ old new before after honest clean. record {
    looks = refutes_looks g old new honest clean;
    messages = λ one. refutes_messages g out old new before after honest clean one;
    shows = refutes_shows g out old new before after honest clean;
    lines = λ one. refutes_lines g old new honest one;
    lasts = no_failure_shown g out old new before after clean;
    asks = λ one. refutes_asks g old new honest one;
  };
  next = refutes_next g;
  reports = refutes_reports g out;
  heads = refutes_heads out;
  headless = refutes_headless;
  faults = refutes_faults;
  bytes = refutes_bytes;
}
