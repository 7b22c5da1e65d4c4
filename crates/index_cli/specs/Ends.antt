-- What each end of a run over lines says.
use Rattle.std.specs.Prelude.{Err, IfErr, List, Ok, OnErr, OnOk, Option, Result, [], length, take}
use Rattle.std.specs.Prelude.{ℕ, ◌++◌, ◌<◌, ◌∷◌, ◌≡◌, ◌≢◌, ◌⊎◌}
use Rattle.std.specs.Io.KnownBytes.{Appends, Consumes, IsAtEnd}
use Rattle.index_io.specs.Bytes.{IsInput}
use Rattle.index_io.specs.Counts.{HasFailed}
use Rattle.index_io.specs.declared.sink.Sink.{Ghosts as Outs}
use Rattle.index_rules.specs.Tables.{Tables}
use Rattle.index_http.specs.Steps.{SinkStep}
use Rattle.index_message.specs.Reads.{SourceStep}
use Rattle.index_cli.specs.Lines.{Charges, TakesLines, TakesLinesAndPart, lines_of}
use Rattle.index_cli.specs.declared.end.LineEnd.{LineEnd}
use Rattle.index_cli.specs.declared.end.LineEnd.TheVariants.{ReadFault, WriteFault, OutOfMemory}

-- a relation between lines, the text that answers them and the tables after them
abbrev pub Telling : Type 1
Telling = List (List ℕ) → List ℕ → Tables → Type 0

-- every line was answered, and the reader is at its end
pub record AllLinesAreAnswered (tells : Telling) (T : Tables)
    (given left had has : Option (List ℕ)) (count : ℕ) : Type 0 where
  pub input : List ℕ
  pub text : List ℕ
  pub is_input : IsInput given input
  pub taken : Consumes given left input
  pub at_end : IsAtEnd left
  pub told : tells (lines_of input) text T
  pub wrote : Appends had has text
  pub counted : count ≡ length (lines_of input)

-- Exactly the lines before the current one were answered. The reader may have lost some or all
-- bytes of the current line.
pub record LinesBeforeAreAnswered (tells : Telling) (T : Tables)
    (given left had has : Option (List ℕ)) : Type 0 where
  pub input : List ℕ
  pub done : List (List ℕ)
  pub more : List (List ℕ)
  pub text : List ℕ
  pub is_input : IsInput given input
  pub lines : lines_of input ≡ done ++ more
  pub taken : TakesLinesAndPart done given left
  pub told : tells done text T
  pub wrote : Appends had has text

-- the current line was applied too, and a first part of the text was written
pub record LineIsPartlyAnswered (tells : Telling) (T : Tables)
    (given left had has : Option (List ℕ)) : Type 0 where
  pub input : List ℕ
  pub done : List (List ℕ)
  pub line : List ℕ
  pub more : List (List ℕ)
  pub text : List ℕ
  pub count : ℕ
  pub is_input : IsInput given input
  pub lines : lines_of input ≡ (done ++ line ∷ []) ++ more
  pub taken : TakesLines (done ++ line ∷ []) given left
  pub told : tells (done ++ line ∷ []) text T
  pub less : count < length text
  pub wrote : Appends had has (take count text)

-- the end of a run, by what the reader had and has left and by what the writer had and has
abbrev pub LinesEnd : Telling → Tables → (given left had has : Option (List ℕ))
    → Result ℕ LineEnd → Type 0
LinesEnd tells T given left had has (Ok count) =
    AllLinesAreAnswered tells T given left had has count
LinesEnd tells T given left had has (Err ReadFault) =
    LinesBeforeAreAnswered tells T given left had has
LinesEnd tells T given left had has (Err WriteFault) =
    LineIsPartlyAnswered tells T given left had has
LinesEnd tells T given left had has (Err OutOfMemory) =
    LinesBeforeAreAnswered tells T given left had has

-- `LinesEnd` of a run that read from a source and wrote to a sink
abbrev pub RunEnds : {S K : Type 0} → SourceStep S → SinkStep K → Result ℕ LineEnd
    → Telling → Tables → Type 0
RunEnds source sink result tells T = LinesEnd tells T
    (source.input.remaining source.old) (source.input.remaining source.new)
    (sink.out.contents sink.old) (sink.out.contents sink.new) result

-- `ReadFault` comes only if a read failed or the most bytes were read, `WriteFault` only if a write
-- failed or took no byte. Without it no read, or no write, failed.
pub record RunFailsOnly {S K : Type 0} (most : ℕ) (source : SourceStep S) (sink : SinkStep K)
    (result : Result ℕ LineEnd) : Type 0 where
  pub read_fault : result ≡ Err ReadFault
      → HasFailed (source.input.failures source.old) (source.input.failures source.new)
      ⊎ Charges most 0 (source.input.remaining source.old) (source.input.remaining source.new)
  pub write_fault : result ≡ Err WriteFault
      → HasFailed (sink.out.failures sink.old) (sink.out.failures sink.new)
  pub reads : result ≢ Err ReadFault
      → source.input.failures source.new ≡ source.input.failures source.old
  pub writes : result ≢ Err WriteFault
      → sink.out.failures sink.new ≡ sink.out.failures sink.old

-- a text was written whole and no write failed; or a write failed or took no byte, after a first
-- part of the text
pub record WritesText {K : Type 0} (out : Outs K) (before after : K) (text : List ℕ)
    (result : Result (Unit {0}) ℕ) : Type 0 where
  pub whole : OnOk result (Appends (out.contents before) (out.contents after) text)
  pub front : IfErr result (λ count. (count < length text)
      × Appends (out.contents before) (out.contents after) (take count text))
  pub kept : OnOk result (out.failures after ≡ out.failures before)
  pub failed : OnErr result (HasFailed (out.failures before) (out.failures after))
