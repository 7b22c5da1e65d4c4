-- The head of a request, at the front of a connection's input (RFC 9112, section 2.1).
use Rattle.std.specs.Prelude.{ℕ, ◌≤◌, ◌<◌, List, ◌++◌, length, Result, OnErr}
use Rattle.httparse.specs.Grammar.{HasNoRequest, MayBecomeRequest, ReadsRequest, RequestHead}
use Rattle.httparse.specs.Grammar.{print_request}
use Rattle.httparse.specs.Spans.{IsRequestAt, IsRequestWithin}
use Rattle.httparse.specs.declared.spans.HeaderSpan.{HeaderSpan}
use Rattle.httparse.specs.declared.spans.RequestSpans.{RequestSpans}
use Rattle.index_io.specs.declared.source.Source.{Ghosts}
use Rattle.index_message.specs.Reads.{GivesBytes}
use Rattle.index_message.specs.declared.head.ReadEnd.{ReadEnd}
use Rattle.index_message.specs.declared.head.Tried.{Tried}
use Rattle.index_message.specs.declared.head.Tried.TheVariants.{Whole, Never, Unfinished}

-- the most bytes of a head
abbrev pub longest_head : ℕ
longest_head = 16384

-- the most header fields of a head
abbrev pub most_fields : ℕ
most_fields = 64

-- the input begins with this request head, which is within both limits, and goes on with the rest
pub record HasHead (input : List ℕ) (head : RequestHead) (rest : List ℕ) : Type 0 where
  pub reads : ReadsRequest input head rest
  pub short : length (print_request head) ≤ longest_head
  pub few : length head.fields ≤ most_fields

-- the input does not begin with a head within the limits
abbrev pub HasNoHead : List ℕ → Type 0
HasNoHead input = (head : RequestHead) (rest : List ℕ) → ¬ (HasHead input head rest)

-- The bytes are not a head yet, and may become one. The text of a target is checked only at its
-- end.
pub record AwaitsHead (taken : List ℕ) : Type 0 where
  pub none : HasNoRequest taken
  pub may : MayBecomeRequest taken
  pub short : length taken < longest_head

-- if a read or memory failed, the source gave these bytes, and they are not a head yet
abbrev pub ReadFailsInHead : {S A : Type 0} → Ghosts S → S → S → List ℕ → Result A ReadEnd → Type 0
ReadFailsInHead g old new taken result =
    OnErr result (AwaitsHead taken × GivesBytes g old new taken)

-- ---- how a head is found

-- the spans are those of a head at the front of the bytes, with at most 64 fields
pub record IsHeadAt (bytes : List ℕ) (fields : List HeaderSpan) (spans : RequestSpans)
    : Type 0 where
  pub head : RequestHead
  pub at : IsRequestAt bytes fields spans head
  pub within : IsRequestWithin bytes fields spans
  pub few : length head.fields ≤ most_fields

-- what the bytes so far are: a head and more bytes, never a head, or not a head yet
abbrev pub Tries : Tried → List ℕ → List HeaderSpan → Type 0
Tries (Whole spans) bytes fields = IsHeadAt bytes fields spans
Tries Never bytes fields = (more : List ℕ) → HasNoHead (bytes ++ more)
Tries Unfinished bytes fields = HasNoRequest bytes × MayBecomeRequest bytes
