-- Wrong counts of faults, and wrong answers to lines, do not meet the words of the contracts.
use Rattle.index.proofs.Words.{◌≡◌, ◌∙◌, ◌+◌, ◌<◌, ℕ, List, [], ◌∷◌, ◌++◌, length, Option, Some, None, Ok, refl, sym, ap, subst, inl, inr}
use Rattle.index.proofs.Words.{arith, append-nil, length-append, append_cancel_left, LinesEnd, AddsReply, SentReply, StreamFaults, lines_of}
use Rattle.index.proofs.Words.{longest_line, TextAnswersLines, Rules, by_history, by_tables, answer_text_of, bad_body_text, Store, Bytes}
use Rattle.index.proofs.Words.{Tables, subst₂, ◌⊎◌}
use Rattle.std.proofs.Common.{◌≢◌}
use Rattle.std.proofs.lemmas.List.{append_assoc, append_cancel_right}
use Rattle.std.proofs.lemmas.List.Elements.{All-head, All-tail}
use Rattle.index_io.specs.Counts.{last_count}
use Rattle.index_cli.specs.Causes.{LinesReportFaults}
use Rattle.index_cli.specs.Lines.{Charges, HasNoFeed, PartIsTaken, TakesLine, line_feed}
use Rattle.index_cli.specs.LinesWent.{Answered, BeginsByFault, LinesMayHaveMade, LinesWent, lines_in, text_by}
use Rattle.index_cli.specs.Telling.{TextAnswersLine}
use Rattle.index_rules.specs.declared.answer.Answer.TheVariants as answer
use Rattle.index.specs.RefutedLines.{RefutesAdded, RefutesCounts, RefutesFaults, RefutesLineCounts, RefutesLongLine, RefutesNumbers}
use Rattle.index.specs.RefutedLines.{RefutesStoreLine, store_line, with_feed}
use Rattle.index.proofs.WrongTexts.{accepted_is_told, store_is_told}

-- ---- faults

pub refutes_counts : (before now : ℕ) → RefutesCounts before now
refutes_counts before now = record {
  failed = λ faults low few it. elim it [
    | inl enough ↦ absurd (omega (arith, few, enough))
    | inr last ↦ absurd (omega (arith, low, last))
  ];
  counted = λ faults low other it. elim it [
    | inl is ↦ other is
    | inr last ↦ let is = last.0 in absurd (omega (arith, low, is))
  ];
}

-- the text of one line, from the text of all
one_text : (said first more : Bytes) → more ≡ [] → said ++ line_feed ∷ [] ≡ (first ++ line_feed ∷ []) ++ more → first ≡ said
one_text said first more none is =
    let same : said ++ line_feed ∷ [] ≡ first ++ line_feed ∷ [] =
    is ∙ ap (λ (it : Bytes). (first ++ line_feed ∷ []) ++ it) none ∙ append-nil (first ++ line_feed ∷ []) in
    sym (append_cancel_right said first (line_feed ∷ []) same)

-- the number of faults that one line reports
one_number : (faults one others : ℕ) (n : ℕ) → faults ≡ one + others → others ≡ 0 → one ≡ n → faults ≡ n
one_number faults one others n sum none is = omega (arith, sum, none, is)

store_number : (line : Bytes) (T : Tables) (faults : ℕ) → LinesReportFaults faults (line ∷ []) store_line T → faults ≡ 1
store_number line T faults (first, more, one, others, fault, (none, no_others), sum, text) =
    one_number faults one others 1 sum no_others
    (store_is_told first one (one_text (answer_text_of (answer.Fault Store)) first more none text) fault)

accepted_number : (line : Bytes) (T : Tables) (faults : ℕ)
    → LinesReportFaults faults (line ∷ []) (with_feed (answer_text_of answer.Accepted)) T → faults ≡ 0
accepted_number line T faults (first, more, one, others, fault, (none, no_others), sum, text) =
    one_number faults one others 0 sum no_others
    (accepted_is_told first one (one_text (answer_text_of answer.Accepted) first more none text) fault)

pub refutes_faults : (line : Bytes) (T : Tables) (faults : ℕ) → RefutesFaults line T faults
refutes_faults line T faults = record {
  store = λ other it. other (store_number line T faults it);
  accepted = λ other it. other (accepted_number line T faults it);
  none = λ text other it. other it.1;
}

-- a run over one line reports one fault
one_reported : (T : Tables) (given line had : Bytes) (left : Option Bytes) (faults : ℕ) → lines_of given ≡ line ∷ []
    → LinesEnd (LinesReportFaults faults) T (Some given) left (Some had) (Some (had ++ store_line)) (Ok 1) → faults ≡ 1
one_reported T given line had left faults is it =
    let text : store_line ≡ it.text = append_cancel_left had store_line it.text it.wrote in
    let lines : lines_of it.input ≡ line ∷ [] = ap lines_of it.is_input ∙ is in
    let told = subst (λ (text : Bytes). LinesReportFaults faults (lines_of it.input) text T) (sym text) it.told in
    store_number line T faults (subst (λ (lines : List Bytes). LinesReportFaults faults lines store_line T) lines told)

pub refutes_store_line : (T : Tables) (given line had : Bytes) (left : Option Bytes) (before faults : ℕ) → lines_of given ≡ line ∷ []
    → before < last_count
    → RefutesStoreLine T given line had left before faults
refutes_store_line T given line had left before faults is low = record {
  failed = λ failed it. let one = one_reported T given line had left faults is it in elim failed [
    | inl enough ↦ absurd (omega (arith, one, enough))
    | inr last ↦ absurd (omega (arith, low, last))
  ];
  counted = λ counted it. let one = one_reported T given line had left faults is it in elim counted [
    | inl same ↦ absurd (omega (arith, one, same))
    | inr last ↦ let at = last.0 in absurd (omega (arith, low, at))
  ];
}

-- ---- a line that is too long

whole_text : (first more text : Bytes) → first ≡ bad_body_text → more ≡ [] → text ≡ (first ++ line_feed ∷ []) ++ more
    → text ≡ with_feed bad_body_text
whole_text first more text is none whole =
    whole ∙ ap (λ (it : Bytes). (first ++ line_feed ∷ []) ++ it) none ∙ append-nil (first ++ line_feed ∷ [])
    ∙ ap (λ (it : Bytes). it ++ line_feed ∷ []) is

module _ {S : Type 0} (rules : Rules S) (line text : Bytes) (long : longest_line < length line) where
  long_text : (s s' : S) → TextAnswersLines rules s (line ∷ []) text s' → text ≡ with_feed bad_body_text
  long_text s s' (first, more, between, one, (none, same), whole) = whole_text first more text (one.1 long).0 none whole

  long_state : (s s' : S) → TextAnswersLines rules s (line ∷ []) text s' → s' ≡ s
  long_state s s' (first, more, between, one, (none, same), whole) = same ∙ (one.1 long).1

  -- the line went, with the answer to a malformed line, and left the state
  abbrev IsTold : S → S → Answered → Type 0
  IsTold s reached later = (text ≡ with_feed bad_body_text)
      × ((T : Tables) → rules.Shows reached T ⊎ LinesMayHaveMade rules later reached T → rules.Shows s T)

  went_lines : (s : S) (earlier : List Bytes) (told : Bytes) (later : Answered) (reached : S) → line ∷ [] ≡ earlier ++ lines_in later
      → text ≡ told ++ text_by later → TextAnswersLines rules s earlier told reached
      → (later ≡ []) ⊎ BeginsByFault rules later reached → IsTold s reached later
  went_lines s earlier told [] reached is whole answered shut =
      let all = subst₂ (λ lines told. TextAnswersLines rules s lines told reached) (sym (is ∙ append-nil earlier))
      (sym (whole ∙ append-nil told)) answered in (
        long_text s reached all,
        λ T left. elim left [ inl shows ↦ subst (λ it. rules.Shows it T) (long_state s reached all) shows | inr made ↦ absurd made ],
      )
  went_lines s earlier told (one ∷ later) reached is whole answered (inl none) = absurd (cc none)
  went_lines s [] told ((one, reply) ∷ []) reached is whole answered (inr begins) =
      let first : one ≡ line = cc in
      let answer = subst (λ it. TextAnswersLine rules it reached reply begins.0) first begins.1 in (
        whole_text reply [] text (answer.1 long).0 refl (whole ∙ ap (λ it. it ++ text_by ((one, reply) ∷ [])) answered.0),
        λ T left. elim left [
          | inl shows ↦ subst (λ it. rules.Shows it T) answered.1 shows
          | inr (inl made) ↦ absurd (made.1 (subst (λ it. longest_line < length it) (sym first) long))
          | inr (inr made) ↦ absurd made
        ],
      )
  went_lines s [] told ((one, reply) ∷ (other, more) ∷ later) reached is whole answered (inr begins) =
      let rest : [] ≡ other ∷ lines_in later = cc in absurd (cc rest)
  went_lines s (before ∷ earlier) told ((one, reply) ∷ later) reached is whole answered (inr begins) =
      let rest : [] ≡ earlier ++ one ∷ lines_in later = cc in
      absurd (let size = ap length rest in let sum = length-append earlier (one ∷ lines_in later) in omega (arith, size, sum))

  pub refutes_long_line : RefutesLongLine rules line text
  refutes_long_line = record {
    told = λ s s' other it. other (long_text s s' it);
    front = λ s other it. other (went s _ it).0;
    changed = λ s s' changed it. changed (long_state s s' it);
    crash = λ s T none it. none ((went s _ it).1 T (it.crash T refl));
  }
    where
      went : (s : S) (MayLeave : Tables → Type 0) (it : LinesWent rules (line ∷ []) text s MayLeave) → IsTold s it.reached it.later
      went s MayLeave it = went_lines s it.earlier it.told it.later it.reached it.all it.whole it.answered it.shut

-- ---- numbers

not_all_read : (most now : ℕ) (given rest : Bytes) → most + length rest < length given → ¬ Charges most now (Some given) (Some rest)
not_all_read most now given rest few it =
    let size : length given ≡ length it.0 + length rest = ap length it.1 ∙ length-append it.0 rest in
    let sum : now + length it.0 ≡ most = it.2 in
    absurd (omega (arith, few, size, sum))

not_ended : (byte : ℕ) (rest kept : Bytes) (new : Option Bytes) → ¬ TakesLine None kept (Some (byte ∷ rest)) new
not_ended byte rest kept None it = absurd it.0
not_ended byte rest kept (Some left) it =
    let size : length (byte ∷ rest) ≡ 0 = ap length (it.0 ∙ it.1) in
    absurd (omega (arith, size))

has_feed : (line : Bytes) → ¬ HasNoFeed (line ++ line_feed ∷ [])
has_feed [] none = All-head (λ byte. byte ≢ line_feed) line_feed [] none refl
has_feed (byte ∷ line) none = has_feed line (All-tail (λ byte. byte ≢ line_feed) byte (line ++ line_feed ∷ []) none)

no_feed_taken : (line rest : Bytes) → ¬ PartIsTaken (Some (line ++ line_feed ∷ rest)) (Some rest)
no_feed_taken line rest (part, none, is) =
    let same : line ++ line_feed ∷ [] ≡ part =
    append_cancel_right (line ++ line_feed ∷ []) part rest (append_assoc line (line_feed ∷ []) rest ∙ is) in
    has_feed line (subst HasNoFeed (sym same) none)

not_more_left : (given rest : Bytes) → length given < length rest → ¬ PartIsTaken (Some given) (Some rest)
not_more_left given rest more (part, none, is) =
    let size : length given ≡ length part + length rest = ap length is ∙ length-append part rest in
    absurd (omega (arith, more, size))

refutes_numbers : RefutesNumbers
refutes_numbers = record {
  charged = λ before now old new more it. let sum = it.2 in absurd (omega (arith, more, sum));
  most = not_all_read;
  ended = not_ended;
  part = no_feed_taken;
  more = not_more_left;
  count = λ requests count other it. other it;
  early = λ early requests count all it. absurd (omega (arith, all, it));
}

-- ---- closed connections

none_added : (replies : List SentReply) (sent : Option Bytes) (faults : StreamFaults)
    → ¬ AddsReply (Some replies) (Some replies) sent faults
none_added replies sent faults (bytes, is, later) =
    let added : SentReply = record { bytes = bytes; faults = faults } in
    let both : Some replies ≡ Some (replies ++ added ∷ []) = later in
    let same : replies ≡ replies ++ added ∷ [] = cc in
    let size : length replies ≡ length replies + 1 = ap length same ∙ length-append replies (added ∷ []) in
    absurd (omega (arith, size))

-- the reply that was added
added_is : (replies : List SentReply) (reply added : SentReply) → Some (replies ++ reply ∷ []) ≡ Some (replies ++ added ∷ [])
    → reply ≡ added
added_is replies reply added both =
    let same : replies ++ reply ∷ [] ≡ replies ++ added ∷ [] = cc in
    let last : reply ∷ [] ≡ added ∷ [] = append_cancel_left replies (reply ∷ []) (added ∷ []) same in
    cc

other_added : (replies : List SentReply) (sent : Option Bytes) (faults : StreamFaults) (reply : SentReply) → (¬ (sent ≡ Some reply.bytes))
    → ¬ AddsReply (Some replies) (Some (replies ++ reply ∷ [])) sent faults
other_added replies sent faults reply differs (bytes, is, later) =
    let reply_is = added_is replies reply (record { bytes = bytes; faults = faults }) later in
    differs (is ∙ ap (λ (it : SentReply). Some it.bytes) (sym reply_is))

miscounted_added : (replies : List SentReply) (sent : Option Bytes) (faults : StreamFaults) (reply : SentReply)
    → (¬ (faults ≡ reply.faults))
    → ¬ AddsReply (Some replies) (Some (replies ++ reply ∷ [])) sent faults
miscounted_added replies sent faults reply differs (bytes, is, later) =
    let reply_is = added_is replies reply (record { bytes = bytes; faults = faults }) later in
    differs (ap (λ (it : SentReply). it.faults) (sym reply_is))

none_lost : (replies : List SentReply) (sent : Option Bytes) (faults : StreamFaults) → ¬ AddsReply (Some replies) None sent faults
none_lost replies sent faults (bytes, is, later) =
    let no : None ≡ Some (replies ++ record { bytes = bytes; faults = faults } ∷ []) = later in
    cc no

refutes_added : (replies : List SentReply) (sent : Option Bytes) (faults : StreamFaults) → RefutesAdded replies sent faults
refutes_added replies sent faults = record {
  none = none_added replies sent faults;
  other = other_added replies sent faults;
  miscounted = miscounted_added replies sent faults;
  lost = none_lost replies sent faults;
}

-- ---- all of them

pub refutes_line_counts : RefutesLineCounts
refutes_line_counts = record {
  counts = refutes_counts;
  faults = refutes_faults;
  store = refutes_store_line;
  long = refutes_long_line by_tables;
  long_past = refutes_long_line by_history;
  numbers = refutes_numbers;
  added = refutes_added;
}
