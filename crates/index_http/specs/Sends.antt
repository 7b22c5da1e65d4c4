-- How much of a reply is sent.
use Rattle.std.specs.Prelude.{Bool, Err, IfErr, IfOk, Ok, OnErr, OnOk, Option, Result, false}
use Rattle.std.specs.Prelude.{length, take, true, ℕ, ◌<◌, ◌≡◌, ◌≢◌, ◌≤◌}
use Rattle.std.specs.Io.KnownBytes.{Appends}
use Rattle.index_io.specs.Counts.{HasFailed}
use Rattle.index_io.specs.declared.sink.Sink.{Ghosts as Outs}
use Rattle.index_io.specs.declared.source.Source.{Ghosts as Ins}
use Rattle.index_rules.specs.Maps.{Bytes}
use Rattle.index_message.specs.declared.head.ReadEnd.{ReadEnd}
use Rattle.index_message.specs.declared.head.ReadEnd.TheVariants as read_end
use Rattle.index_http.specs.declared.connection.IoEnd.{IoEnd}
use Rattle.index_http.specs.declared.connection.IoEnd.TheVariants.{ReadFault, OutOfMemory}
use Rattle.index_http.specs.declared.connection.IoEnd.TheVariants.{WriteFault, Cut}

-- this many of a text's first bytes were sent
abbrev pub SendsFirstBytes : Bytes → Option Bytes → Option Bytes → ℕ → Type 0
SendsFirstBytes text before after count =
    (count ≤ length text) × Appends before after (take count text)

-- a text was sent whole, or its first bytes, as many as the end says
abbrev pub SendsText : Bytes → Option Bytes → Option Bytes → Result (Unit {0}) IoEnd → Type 0
SendsText text before after (Ok done) = Appends before after text
SendsText text before after (Err ReadFault) = ⊥
SendsText text before after (Err OutOfMemory) = ⊥
SendsText text before after (Err (WriteFault count)) = SendsFirstBytes text before after count
SendsText text before after (Err (Cut count)) = SendsFirstBytes text before after count

-- `SendsText` of a writer
abbrev pub SendsBytes : {K : Type 0} → Outs K → K → K → Bytes → Result (Unit {0}) IoEnd → Type 0
SendsBytes out before after text result =
    SendsText text (out.contents before) (out.contents after) result

-- some of a text's first bytes were sent, but not all
abbrev pub SendsLessThanText : Bytes → Option Bytes → Option Bytes → Type 0
SendsLessThanText text before after =
    (count : ℕ) × (count < length text) × Appends before after (take count text)

-- a page was cut short, by the store, by memory or by its length
abbrev pub is_cut : {A : Type 0} → Result A IoEnd → Bool
is_cut (Ok done) = false
is_cut (Err ReadFault) = false
is_cut (Err OutOfMemory) = false
is_cut (Err (WriteFault count)) = false
is_cut (Err (Cut count)) = true

-- a write failed, or took no byte
abbrev pub is_write_fault : {A : Type 0} → Result A IoEnd → Bool
is_write_fault (Ok done) = false
is_write_fault (Err ReadFault) = false
is_write_fault (Err OutOfMemory) = false
is_write_fault (Err (WriteFault count)) = true
is_write_fault (Err (Cut count)) = false

-- the connection ended before its reply, and nothing was sent
abbrev pub is_silent : {A : Type 0} → Result A IoEnd → Bool
is_silent (Ok done) = false
is_silent (Err ReadFault) = true
is_silent (Err OutOfMemory) = true
is_silent (Err (WriteFault count)) = false
is_silent (Err (Cut count)) = false

-- a write failed, or took no byte, exactly if the result says so; no read failed; and only a page
-- is cut short
pub record ReplyFailsOnly {K : Type 0} (out : Outs K) (before after : K) (has_page : Bool)
    (result : Result (Unit {0}) IoEnd) : Type 0 where
  pub write_fault : is_write_fault result ≡ true
      → HasFailed (out.failures before) (out.failures after)
  pub writes : is_write_fault result ≡ false → out.failures after ≡ out.failures before
  pub no_read_fault : result ≢ Err ReadFault
  pub whole : has_page ≡ false → is_cut result ≡ false

-- a head and the text behind it were sent, and the length of the head is returned; or only the
-- first bytes of the text were sent
pub record SendsHead {K : Type 0} (out : Outs K) (before after : K) (head text : Bytes)
    (result : Result ℕ ℕ) : Type 0 where
  pub whole : IfOk result (λ count. (count ≡ length head)
      × Appends (out.contents before) (out.contents after) text)
  pub short : IfOk result (λ count. count ≤ 512)
  pub front : IfErr result (λ count. (count < length text)
      × Appends (out.contents before) (out.contents after) (take count text))
  pub kept : OnOk result (out.failures after ≡ out.failures before)
  pub failed : OnErr result (HasFailed (out.failures before) (out.failures after))

-- a read failed, or a write failed or took no byte, exactly if the result says so
pub record StreamFailsOnly {S K : Type 0} (ins : Ins S) (out : Outs K) (old new : S)
    (before after : K) (result : Result (Unit {0}) IoEnd) : Type 0 where
  pub read_fault : result ≡ Err ReadFault → HasFailed (ins.failures old) (ins.failures new)
  pub reads : result ≢ Err ReadFault → ins.failures new ≡ ins.failures old
  pub write_fault : is_write_fault result ≡ true
      → HasFailed (out.failures before) (out.failures after)
  pub writes : is_write_fault result ≡ false → out.failures after ≡ out.failures before

-- the end of a connection, from the end of a read
abbrev pub io_end_of_read : ReadEnd → IoEnd
io_end_of_read read_end.ReadFault = ReadFault
io_end_of_read read_end.OutOfMemory = OutOfMemory
