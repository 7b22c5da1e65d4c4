-- How the text of a page ends.
use Rattle.std.specs.Prelude.{Err, List, Ok, Option, Result, length, take, ℕ, ◌++◌, ◌+◌, ◌<◌, ◌∷◌}
use Rattle.std.specs.Prelude.{◌≡◌, ◌≤◌}
use Rattle.std.specs.Io.KnownBytes.{Appends}
use Rattle.index_io.specs.Counts.{HasFailed}
use Rattle.index_rules.specs.Maps.{Bytes}
use Rattle.index_pages.specs.Rest.{Rest, IsNext}
use Rattle.index_pages.specs.declared.end.PageEnd.{PageEnd}
use Rattle.index_pages.specs.declared.end.PageEnd.TheVariants.{OutOfMemory, Store, WriteFault}

-- the most bytes of a page
abbrev pub most_bytes : ℕ
most_bytes = 9223372036854775807

-- the bytes that a sink has, if known, and the number of its failed writes
pub record SinkState : Type 0 where
  pub contents : Option Bytes
  pub failures : ℕ

-- the number of bytes that were written before an end
abbrev pub count_of : PageEnd → ℕ
count_of (OutOfMemory n) = n
count_of (Store n) = n
count_of (WriteFault n) = n

-- `Store` ends only a page that is too long
abbrev pub StoreOnlyIfTooLong : PageEnd → ℕ → Type 0
StoreOnlyIfTooLong end length = (n : ℕ) → end ≡ Store n → most_bytes < length

-- `WriteFault` is returned only if a write failed, and no other end is
abbrev pub IsCaused : PageEnd → ℕ → ℕ → Type 0
IsCaused (OutOfMemory n) before after = after ≡ before
IsCaused (Store n) before after = after ≡ before
IsCaused (WriteFault n) before after = HasFailed before after

-- a text was written and counted
pub record SinkGetsText (before after : SinkState) (old new : ℕ) (text : Bytes) : Type 0 where
  pub wrote : Appends before.contents after.contents text
  pub count : new ≡ old + length text

-- a text was written whole
pub record SinkGetsWholeText (before after : SinkState) (old new : ℕ) (text : Bytes) : Type 0 where
  pub sends : SinkGetsText before after old new text
  pub within : new ≤ most_bytes
  pub steady : after.failures ≡ before.failures

-- the first bytes of a text were written
pub record SinkGetsFront (before after : SinkState) (old : ℕ) (end : PageEnd)
    (text : Bytes) : Type 0 where
  pub size : ℕ
  pub sends : SinkGetsText before after old (count_of end) (take size text)
  pub past : StoreOnlyIfTooLong end (old + length text)
  pub caused : IsCaused end before.failures after.failures

-- the text that follows the first bytes of a page was written, or its first bytes
abbrev pub Closes : Bytes → SinkState → SinkState → ℕ → Result ℕ PageEnd → Type 0
Closes text before after old (Ok n) = SinkGetsWholeText before after old n text
Closes text before after old (Err end) = SinkGetsFront before after old end text

-- the text of this row was written
pub record SinkGetsRow {R : Type 0} (rest : Rest R) (row : R) (later : Rest R)
    (before after : SinkState) (old new : ℕ) : Type 0 where
  pub text : Bytes
  pub next : IsNext rest row text later
  pub sends : SinkGetsText before after old new text
  pub steady : after.failures ≡ before.failures

-- the first bytes of this row's text were written, whatever rows come after it
pub record SinkGetsRowFront {R : Type 0} (rest : Rest R) (row : R) (before after : SinkState)
    (old : ℕ) (end : PageEnd) : Type 0 where
  pub bytes : Bytes
  pub sends : SinkGetsText before after old (count_of end) bytes
  pub begins : (rows : List R) → (left : Bytes) × (rest (row ∷ rows) ≡ bytes ++ left)
  pub past : (rows : List R) → StoreOnlyIfTooLong end (old + length (rest (row ∷ rows)))
  pub caused : IsCaused end before.failures after.failures

-- ---- whole pages

-- the page was written, and this is its length
pub record IsWhole (page : Bytes) (before after : SinkState) (count : ℕ) : Type 0 where
  pub wrote : Appends before.contents after.contents page
  pub size : count ≡ length page
  pub within : count ≤ most_bytes
  pub steady : after.failures ≡ before.failures

-- the first bytes of the page were written, as many as the end says
pub record IsCut (page : Bytes) (before after : SinkState) (end : PageEnd) : Type 0 where
  pub wrote : Appends before.contents after.contents (take (count_of end) page)
  pub within : count_of end ≤ length page
  pub past : StoreOnlyIfTooLong end (length page)
  pub caused : IsCaused end before.failures after.failures

-- the page was written whole, or its first bytes, as many as the end says
abbrev pub WritesPage : Bytes → SinkState → SinkState → Result ℕ PageEnd → Type 0
WritesPage page before after (Ok count) = IsWhole page before after count
WritesPage page before after (Err end) = IsCut page before after end
