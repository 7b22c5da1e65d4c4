-- Wrong readings of an input, and wrong pages, do not meet the words of the contracts.
use Rattle.index.proofs.Words.{◌≡◌, ◌∙◌, ◌+◌, ◌<◌, ◌≤◌, ℕ, Bool, true, false, [], ◌++◌, length, Option, Some, None, Result, Ok, Err, refl}
use Rattle.index.proofs.Words.{sym, ap, subst, inl, inr, arith, append-nil, length-append, if◌then◌else◌, nat_le, take, Appends}
use Rattle.index.proofs.Words.{LeavesTables, by_history, by_tables, Takes, HasHead, HasNoHead, IsMessage, begins_with_head, BadHead}
use Rattle.index.proofs.Words.{Message, Faulty, Whole, GivesMessage, asks_page, IoEnd, History, Bytes}
use Rattle.std.proofs.lemmas.Bool.Decides.{nat_tests}
use Rattle.index_io.specs.declared.sink.Sink.{Ghosts as Outs}
use Rattle.index_message.specs.Fields.{fields_of}
use Rattle.index_message.specs.Heads.{longest_head}
use Rattle.index_message.specs.Messages.{AwaitsBody, EndsUnfinished, IsUnfinished, MayHaveHead, is_faulty}
use Rattle.index_message.specs.Messages.{is_head_name, message_by, message_of, whole_of}
use Rattle.index_message.specs.Reads.{BytesTakenAtMost}
use Rattle.index_message.specs.Requests.{HttpRequest}
use Rattle.index_message.specs.declared.fault.MessageFault.{MessageFault}
use Rattle.index_message.specs.declared.fault.MessageFault.TheVariants.{ShortBody}
use Rattle.index_message.specs.declared.message.Asked.{Asked}
use Rattle.index_message.proofs.MessageLemmas.{at_most_one}
use Rattle.index_http.specs.PagePasses.{MeasuresPage}
use Rattle.index_http.specs.Shows.{is_look}
use Rattle.index_http.specs.declared.connection.IoEnd.TheVariants as io_end
use Rattle.index_rules.specs.declared.books.Books.{Ghosts}
use Rattle.index.specs.RefutedMessages.{RefutesExchanges, RefutesInput, RefutesPasses, RefutesReads, RefutesShown, RefutesStandings}
use Rattle.index.proofs.WrongLines.{refutes_line_counts}
use Rattle.index.proofs.WrongReplies.{bad_head_replied, bad_message, none_asked, refutes_replies}

no_truth : true ≡ false → ⊥
no_truth is = cc is

abbrev is_done : Result (Unit {0}) IoEnd → Bool
is_done (Ok done) = true
is_done (Err end) = false

no_end : (end : IoEnd) (ended : Result (Unit {0}) IoEnd) → is_done ended ≡ true → ended ≡ Err end → ⊥
no_end end ended well is = no_truth (sym well ∙ ap (λ (it : Result (Unit {0}) IoEnd). is_done it) is)

-- ---- what was read of an input

-- all of an input was taken
all_taken : (input taken : Bytes) → input ≡ taken ++ [] → taken ≡ input
all_taken input taken is = sym (is ∙ append-nil taken)

-- a head whose body is not whole makes a faulty message
short_is_faulty : (head : _) (front : Bytes) → AwaitsBody head front → is_faulty (message_of head front) ≡ true
short_is_faulty head front (asked, is, less) =
    let short : nat_le asked.length (length front) ≡ false = grind (arith, nat_tests) in
    ap (λ (it : Result Asked MessageFault). is_faulty (message_by head front it)) is
    ∙ ap (λ (enough : Bool). is_faulty (if enough then whole_of asked (fields_of head) (take asked.length front)
    else Faulty ShortBody (is_head_name head.method))) short

-- a whole request is not unfinished
whole_is_finished : (input : Bytes) (request : HttpRequest) (body : Bytes) → IsMessage input (Whole request body) → ¬ IsUnfinished input
whole_is_finished input request body (inl none) (inl awaits) = let no : false ≡ true = ap is_faulty none.1 in no_truth (sym no)
whole_is_finished input request body (inr (head, rest, has, is)) (inl awaits) = awaits.none head rest has.reads
whole_is_finished input request body whole (inr (head, front, has, awaits)) =
    let same : Whole request body ≡ message_of head front =
    at_most_one input (Whole request body) (message_of head front) whole (inr (head, front, has, refl)) in
    let no : false ≡ true = ap is_faulty same ∙ short_is_faulty head front awaits in
    no_truth (sym no)

long_is_finished : (input : Bytes) → HasNoHead input → longest_head ≤ length input → ¬ IsUnfinished input
long_is_finished input none long (inl awaits) = let short = awaits.short in absurd (omega (arith, long, short))
long_is_finished input none long (inr (head, front, has, awaits)) = none head front has

read_all : (input : Bytes) → (¬ IsUnfinished input) → ¬ EndsUnfinished (Some input) (Some [])
read_all input finished (taken, all, unfinished) = finished (subst (λ (it : Bytes). IsUnfinished it) (all_taken input taken all) unfinished)

no_head_read : (input : Bytes) → HasNoHead input → longest_head ≤ length input → ¬ MayHaveHead (Some input) (Some [])
no_head_read input none long (inl (taken, all, awaits)) =
    let size : length taken ≡ length input = ap length (all_taken input taken all) in
    let short = awaits.short in
    absurd (omega (arith, long, size, short))
no_head_read input none long (inr (given, head, rest, is, has, route)) =
    none head rest (subst (λ (it : Bytes). HasHead it head rest) is has)

not_given : (passes : Message → Bool) → ((to_head : Bool) → passes (Faulty BadHead to_head) ≡ false) → (input : Bytes) → HasNoHead input
    → ¬ GivesMessage passes (Some input)
not_given passes fails input none (given, message, is, found, passed) =
    let bad = bad_message input given message none is found in
    no_truth (sym passed ∙ ap passes bad ∙ fails (begins_with_head input))

not_all_taken : (most : ℕ) (input rest : Bytes) → most + length rest < length input → ¬ BytesTakenAtMost most (Some input) (Some rest)
not_all_taken most input rest few (taken, within, is) =
    let size : length input ≡ length taken + length rest = ap length is ∙ length-append taken rest in
    absurd (omega (arith, few, within, size))

pub refutes_reads : (input : Bytes) → RefutesReads input
refutes_reads input = record {
  whole = λ request body is. read_all input (whole_is_finished input request body is);
  long = λ none long. read_all input (long_is_finished input none long);
  memory = no_head_read input;
  look = not_given is_look (λ to_head. refl) input;
  page = not_given asks_page (λ to_head. refl) input;
  most = λ most rest. not_all_taken most input rest;
}

module _ {S K : Type 0} (g : Ghosts S) (out : Outs K) (old new : S) (before after : K) (honest : g.IsHonest new) (was : g.IsHonest old)
    (clean : g.IsClean new) where
  -- these bytes were sent
  abbrev Sent : Bytes → Type 0
  Sent text = Appends (out.contents before) (out.contents after) text

  pub refutes_input : (at : ℕ) (input : Bytes) → HasNoHead input → RefutesInput g out old new before after at input
  refutes_input at input none = record {
    tables = λ one missing it.
        let replied = it was clean one in
        let is = bad_head_replied by_tables at (g.tables old) input none _ replied.0 replied.1.0 replied.1.1 in
        missing (subst Sent is.0 replied.2);
    history = λ h legal stands missing it.
        let one = it honest h legal stands in
        let ends = one.is in
        let is = bad_head_replied by_history at h input none _ ends.0 one.later ends.1 in
        missing (subst Sent is.0 ends.2);
    asks = λ result changed it.
        let looked = none_asked at input (LeavesTables g old new) (Takes g old new) (out.contents before) (out.contents after)
        result none it in
        changed (looked.unchanged honest);
  }

  -- ---- pages

  pub refutes_passes : RefutesPasses g out old new before after
  refutes_passes = record {
    size = λ page_of page count is other it.
        let measured = it.measured was clean in
        let there = subst (λ (page : Option Bytes). MeasuresPage page (g.failures old) (g.failures new) (Ok (Some count))) is measured in
        other there.0;
    none = λ page_of count none it.
        let measured = it.measured was clean in
        let no = subst (λ (page : Option Bytes). MeasuresPage page (g.failures old) (g.failures new) (Ok (Some count))) none measured in
        let some : Some count ≡ None = no in
        absurd (cc some);
    some = λ page_of page is it.
        let measured = it.measured was clean in
        let no = subst (λ (page : Option Bytes). MeasuresPage page (g.failures old) (g.failures new) (Ok None)) is measured in
        absurd no;
    memory = λ page_of failed it. failed (it.stores refl);
    text = λ page_of page is missing it. missing (it.sent was clean page is);
    sent = λ page_of is it. no_end (io_end.Cut 0) (Ok tt) refl (it.none was clean is).1;
    silent = λ page_of it. no_truth it.told;
    measured = λ result page_of changed it. changed (it.keeps.unchanged honest);
    changed = λ result page_of changed it. changed (it.keeps.unchanged honest);
  }

-- ---- what is shown

refutes_standings : (h : History) (name : Bytes) → RefutesStandings h name
refutes_standings h name = record {
  free_of = λ of other it. other it.0;
  prohibited_of = λ of other it. other it.0;
  held_of = λ held other it. other it.0;
  free = λ of other it. other it.1;
  prohibited = λ of other it. other it.1;
  held = λ held other it. other it.1;
  project = λ held other it. other it.2;
  owners = λ held other it. other it.3;
  cases = λ held other it. other it.4;
}

pub refutes_shown : RefutesShown
refutes_shown = record {
  memory = λ is_head before after it. no_end io_end.OutOfMemory (Ok tt) refl it.0;
  store = λ is_head sent other it. other it;
  none = λ served reply other it. other it;
  standings = refutes_standings;
}

-- ---- all of them

pub refutes_exchanges : {S K : Type 0} (g : Ghosts S) (out : Outs K) → RefutesExchanges g out
refutes_exchanges g out = record {
  replies = refutes_replies g out;
  reads = refutes_reads;
  inputs = λ old new before after honest was clean. refutes_input g out old new before after honest was clean;
  passes = λ old new before after honest was clean. refutes_passes g out old new before after honest was clean;
  shown = refutes_shown;
  lines = refutes_line_counts;
}
