-- Why exchanges end early.
use Rattle.index_cli.proofs.Words.{◌≡◌, ◌<◌, ℕ, true, Option, Result, Ok, Err, inl, inr, refl, arith, HasFailed, Bytes, asks_page, IoEnd}
use Rattle.index_cli.proofs.Words.{Cut, OutOfMemory, EndHasCause}
use Rattle.index_io.specs.declared.sink.Sink.{Ghosts as Outs}
use Rattle.index_io.specs.declared.source.Source.{Ghosts as Ins}
use Rattle.index_http.specs.Sends.{StreamFailsOnly, is_cut}
use Rattle.index_http.specs.Shows.{GivesMessage}
use Rattle.index_http.specs.declared.connection.IoEnd.TheVariants.{ReadFault, WriteFault}

-- a count that has risen, or is at its last value, is not 0
some_failed : (before now : ℕ) → HasFailed before now → 0 < now
some_failed before now (inl more) = omega (arith, more)
some_failed before now (inr last) = omega (arith, last)

module _ {S K : Type 0} (ins : Ins S) (out : Outs K) (old new : S) (before after : K) (at : ℕ) (given had has : Option Bytes) where
  -- the end of an answer has its cause
  pub has_cause : {Unchanged : Type 0} (result : Result (Unit {0}) IoEnd) → StreamFailsOnly ins out old new before after result
      → (is_cut result ≡ true → Unchanged × GivesMessage asks_page given)
      → EndHasCause (record {
        at = at;
        given = given;
        had = had;
        has = has;
        faults = record { reads = ins.failures new; writes = out.failures after };
      }) result
  has_cause (Ok done) fails cut = tt
  has_cause (Err ReadFault) fails cut = some_failed _ _ (fails.read_fault refl)
  has_cause (Err OutOfMemory) fails cut = tt
  has_cause (Err (WriteFault count)) fails cut = some_failed _ _ (fails.write_fault refl)
  has_cause (Err (Cut count)) fails cut = (cut refl).1
