-- What a source gives to reads.
use Rattle.std.specs.Prelude.{Bool, Err, IfOk, List, Ok, OnErr, OnOk, Option, Result, [], false}
use Rattle.std.specs.Prelude.{length, true, unwrap_or, vec_len, ℕ, ◌++◌, ◌+◌, ◌-◌, ◌<◌, ◌≡◌, ◌≢◌}
use Rattle.std.specs.Prelude.{◌≤◌}
use Rattle.std.specs.Global.{Vec}
use Rattle.std.specs.Io.KnownBytes.{Consumes, IsAtEnd, Keeps}
use Rattle.index_io.specs.Counts.{HasFailed}
use Rattle.index_io.specs.declared.source.Source.{Ghosts}
use Rattle.index_message.specs.declared.head.ReadEnd.{ReadEnd}
use Rattle.index_message.specs.declared.head.ReadEnd.TheVariants.{ReadFault}

-- a read failed exactly if the result says so
pub record SourceReadsOnly {A : Type 0} (failures_before failures_after : ℕ)
    (result : Result A ReadEnd) : Type 0 where
  pub read_fault : result ≡ Err ReadFault → HasFailed failures_before failures_after
  pub reads : result ≢ Err ReadFault → failures_after ≡ failures_before

-- at most this many bytes were taken
abbrev pub BytesTakenAtMost : ℕ → Option (List ℕ) → Option (List ℕ) → Type 0
BytesTakenAtMost most before after =
    (taken : List ℕ) × (length taken ≤ most) × Consumes before after taken

-- these bytes, and those that are left if they are known
abbrev pub and_left : List ℕ → Option (List ℕ) → List ℕ
and_left bytes left = bytes ++ unwrap_or left []

-- ---- of a source

-- the source gave these bytes
abbrev pub GivesBytes : {S : Type 0} → Ghosts S → S → S → List ℕ → Type 0
GivesBytes g old new bytes = Consumes (g.remaining old) (g.remaining new) bytes

-- the source gave at most this many bytes
abbrev pub GivesAtMost : {S : Type 0} → Ghosts S → S → S → ℕ → Type 0
GivesAtMost g old new most = BytesTakenAtMost most (g.remaining old) (g.remaining new)

-- the source gave bytes behind those that were there, up to this many in all
abbrev pub GivesUpTo : {S : Type 0} → Ghosts S → S → S → ℕ → ℕ → Type 0
GivesUpTo g old new before most =
    (taken : List ℕ) × (before + length taken ≤ most) × GivesBytes g old new taken

-- if a read failed, the source gave fewer bytes than were missing
abbrev pub ReadEndsEarly : {S A : Type 0} → Ghosts S → S → S → ℕ → Result A ReadEnd → Type 0
ReadEndsEarly g old new missing result =
    result ≡ Err ReadFault → (more : List ℕ) × (length more < missing) × GivesBytes g old new more

-- if a read or memory failed, the source gave nothing
abbrev pub ReadFailsAtOnce : {S A : Type 0} → Ghosts S → S → S → Result A ReadEnd → Type 0
ReadFailsAtOnce g old new result = OnErr result (Keeps (g.remaining old) (g.remaining new))

-- the bytes that the source gave were appended to the buffer
abbrev pub Fills : {S : Type 0} → Ghosts S → S → S → Vec ℕ → Vec ℕ → Type 0
Fills g old new before after =
    (more : List ℕ) × (after.items ≡ before.items ++ more) × GivesBytes g old new more

-- the source has no bytes left
abbrev pub HasEnded : {S : Type 0} → Ghosts S → S → Type 0
HasEnded g source = IsAtEnd (g.remaining source)

-- the result says whether a read failed, and at most this many bytes were read
pub record SourceReadsWithin {S A : Type 0} (g : Ghosts S) (old new : S) (most : ℕ)
    (result : Result A ReadEnd) : Type 0 where
  pub failures : SourceReadsOnly (g.failures old) (g.failures new) result
  pub limit : GivesAtMost g old new most

-- a source before a call and after it, and the facts about its reader
pub record SourceStep (S : Type 0) : Type 1 where
  pub input : Ghosts S
  pub old : S
  pub new : S

abbrev pub from_source : {S : Type 0} → Ghosts S → S → S → SourceStep S
from_source input old new = record { input = input; old = old; new = new }

-- one read appended the bytes that came to the buffer, up to this many in all
pub record ReadsOnce {S : Type 0} (source : SourceStep S) (before after : Vec ℕ) (most : ℕ)
    (result : Result ℕ ReadEnd) : Type 0 where
  pub came : IfOk result (λ count. vec_len after ≡ vec_len before + count)
  pub within : vec_len after ≤ most
  pub consumed : OnOk result (Fills source.input source.old source.new before after)
  pub ended : result ≡ Ok 0 → HasEnded source.input source.new
  pub same : OnErr result (after.items ≡ before.items)
  pub kept : ReadFailsAtOnce source.input source.old source.new result
  pub reads : SourceReadsOnly (source.input.failures source.old) (source.input.failures source.new)
      result
  pub limit : GivesUpTo source.input source.old source.new (vec_len before) most

-- Reads until this many bytes are in the buffer. The result says whether they are, or the input
-- ended before.
pub record FillsTo {S : Type 0} (source : SourceStep S) (before after : Vec ℕ) (wanted : ℕ)
    (result : Result Bool ReadEnd) : Type 0 where
  pub consumed : OnOk result (Fills source.input source.old source.new before after)
  pub full : result ≡ Ok true → wanted ≤ vec_len after
  pub ended : result ≡ Ok false → (vec_len after < wanted) × HasEnded source.input source.new
  pub prompt : ReadEndsEarly source.input source.old source.new (wanted - vec_len before) result
  pub reads : SourceReadsWithin source.input source.old source.new wanted result
