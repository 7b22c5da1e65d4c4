-- Pages: what is known of their length, and that head and text are the reply.
use Rattle.index_http.proofs.Words.{◌≡◌, ◌⊎◌, ℕ, ◌+◌, ◌≤◌, inl, inr, refl, sym, subst, ◌++◌, length, take, Option, Some, None, Result, Ok}
use Rattle.index_http.proofs.Words.{Err, arith, length-append, Appends, HasFailed, Bytes, most_bytes, Served, store_reply, MeasuresPage}
use Rattle.index_http.proofs.Words.{PageShown, page_reply, SendsLessThanText, SendsText, IoEnd, ReadFault, OutOfMemory, WriteFault, Cut}
use Rattle.std.specs.Prelude.{min}
use Rattle.std.proofs.KnownBytes.{Appends-trans}
use Rattle.std.proofs.Math.Seq.{take-append-add}
use Rattle.index_io.specs.Counts.{last_count}
use Rattle.index_rules.specs.declared.answer.Fault.TheVariants as fault
use Rattle.index_http.specs.PagePasses.{IsMeasured}
use Rattle.index_http.specs.PageShows.{after_head}
use Rattle.index_http.specs.Sends.{SendsFirstBytes}

-- ---- the length of a page

pub measured : (page : Option Bytes) (before after count : ℕ) → MeasuresPage page before after (Ok (Some count)) → IsMeasured page count
measured None before after count is = absurd (some_is_none count is)
  where
    some_is_none : (n : ℕ) → Some n ≡ None → ⊥
    some_is_none n e = cc
measured (Some bytes) before after count (size, within) = record { bytes = bytes; is = refl; size = size; within = within }

pub shows_measured : (served : Served) (page : Option Bytes) (count : ℕ) (there : IsMeasured page count)
    → PageShown served page (page_reply served there.bytes)
shows_measured served page count there = subst (λ o. PageShown served o (page_reply served there.bytes)) (sym there.is) (inl refl)

pub unmeasured : (page : Option Bytes) (before after : ℕ) → MeasuresPage page before after (Ok None) → page ≡ None
unmeasured None before after is = refl
unmeasured (Some bytes) before after is = absurd is

-- a page whose length could not be told is too long, or the books failed
pub unmeasurable : (served : Served) (page : Option Bytes) (old new : ℕ) → MeasuresPage page old new (Err fault.Store)
    → PageShown served page store_reply ⊎ HasFailed old new
unmeasurable served None old new failed = inr failed
unmeasurable served (Some page) old new (inl failed) = inr failed
unmeasurable served (Some page) old new (inr long) = inl (inr (refl, long))

-- ---- the text behind the head

first_behind : (head page : Bytes) (count n : ℕ) (before mid after : Option Bytes) → count ≡ length head → length page ≤ most_bytes
    → count ≤ 512
    → Appends before mid head → SendsFirstBytes page mid after n → SendsFirstBytes (head ++ page) before after (min (count + n) last_count)
first_behind head page count n before mid after is within short front (least, sent) =
    let sum : min (count + n) last_count ≡ length head + n = omega (arith, is, within, short, least) in
    rw (sum, take-append-add head page n) (
      rw length-append (omega (arith, least)),
      Appends-trans before mid after head (take n page) front sent,
    )

pub sends_behind : (head page : Bytes) (count : ℕ) (before mid after : Option Bytes) (result : Result (Unit {0}) IoEnd)
    → count ≡ length head → length page ≤ most_bytes → count ≤ 512
    → Appends before mid head → SendsText page mid after result → SendsText (head ++ page) before after (after_head count result)
sends_behind head page count before mid after (Ok done) is within short front sends = Appends-trans before mid after head page front sends
sends_behind head page count before mid after (Err ReadFault) is within short front sends = absurd sends
sends_behind head page count before mid after (Err OutOfMemory) is within short front sends = absurd sends
sends_behind head page count before mid after (Err (WriteFault n)) is within short front sends =
    first_behind head page count n before mid after is within short front sends
sends_behind head page count before mid after (Err (Cut n)) is within short front sends =
    first_behind head page count n before mid after is within short front sends

-- not all of the text behind the head is not all of the reply
pub less_behind : (head page : Bytes) (before mid after : Option Bytes) → Appends before mid head → SendsLessThanText page mid after
    → SendsLessThanText (head ++ page) before after
less_behind head page before mid after front less = (
  length head + less.0,
  rw length-append (omega (arith, less.1)),
  rw (take-append-add head page less.0) (Appends-trans before mid after head (take less.0 page) front less.2),
)

-- ---- a text that was gathered

-- a page that was gathered is shown
pub shows_gathered : (served : Served) (page : Option Bytes) (bytes : Bytes) → page ≡ Some bytes
    → PageShown served page (page_reply served bytes)
shows_gathered served page bytes is = subst (λ o. PageShown served o (page_reply served bytes)) (sym is) (inl refl)
