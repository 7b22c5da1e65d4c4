-- An index without a volume is worked on as two files.
use Rattle.index.proofs.Words.{◌≡◌, ◌∙◌, ℕ, List, Option, Some, None, Result, Bool, inl, inr, sym, ExitCode, file_state, Image}
use Rattle.index.proofs.Words.{HasCleanDisk, Ghosts, Job, SinkStep, Bytes, OtherVersion, OutOfMemory, End, ComesOfInit, ComesOfRun, JobEnds}
use Rattle.index.proofs.Words.{JobEndsBy, ComesByVolume, Task}
use Rattle.index_args.specs.declared.job.Job.TheVariants as job
use Rattle.index_rules.specs.declared.open.OpenFault.TheVariants.{Store}
use Rattle.index.specs.Pairs.{ComesOfOther, IsToNone, MakesByVolume, on_pair}
use Rattle.index.specs.SecondLines.{volume_of_job}

module _ {D E : Type 0} (g : Ghosts D) (e : Ghosts E) where
  pub looks_elsewhere : (task : Task) (start : Image) (volume : List ℕ) (result : Result ℕ End)
      → (it : ComesOfOther g e task start volume result) → HasCleanDisk (file_state it.left.conn) → IsToNone g start
  looks_elsewhere task start volume result it clean =
      let unfound = it.why.1.2 in
      let opened = it.why.1.1 in
      record {
        first = it.why.1.0;
        opened = opened;
        none = λ ours. elim (unfound.again clean (opened (unfound.was_clean clean)).0.0.is_open ours) [
          | inl is ↦ let no : OtherVersion ≡ OutOfMemory = sym it.other ∙ is in cc no
          | inr is ↦ let no : OtherVersion ≡ Store = sym it.other ∙ is in cc no
        ];
      }

  module _ (start : Image) (volume : List ℕ) where
    comes_alone : {Path : Type 0} (path : Option Path) (task : Task) (found : Result ℕ End) → path ≡ None
        → (¬ ComesOfOther g e task start volume found) → ComesByVolume g e path start volume task found → ComesOfRun g task start found
    comes_alone None task found is other comes = elim comes [ inl run ↦ run | inr it ↦ absurd (other it) ]
    comes_alone (Some path) task found is other comes = absurd (cc is)

    makes_alone : {Path : Type 0} (path : Option Path) (user digits : Bytes) (page_sums : Bool) (made : Result (Unit {0}) End)
        → path ≡ None → MakesByVolume g path start user digits page_sums made → ComesOfInit g user digits page_sums start made
    makes_alone None user digits page_sums made is makes = makes
    makes_alone (Some path) user digits page_sums made is makes = absurd (cc is)

  pub ends_as_on_files : {K : Type 0} (sink : SinkStep K) (asked : Job) (start : Image) (volume : List ℕ) (result : Result ExitCode End)
      → volume_of_job asked ≡ None → ((task : Task) (found : Result ℕ End) → ¬ ComesOfOther g e task start volume found)
      → JobEndsBy (on_pair g e start volume) asked sink result → JobEnds g asked start sink result
  ends_as_on_files sink (job.Init paths user digits page_sums) start volume result none other (made, makes, is) =
      (made, makes_alone start volume paths.volume user.now digits.now page_sums made none makes, is)
  ends_as_on_files sink (job.Apply None) start volume result none other ends = ends
  ends_as_on_files sink (job.Apply (Some paths)) start volume result none other (inl memory) = inl memory
  ends_as_on_files sink (job.Apply (Some paths)) start volume result none other (inr (given, (left, found, comes, is))) =
      inr (given, (left, found, comes_alone start volume paths.volume _ found none (other _ found) comes, is))
  ends_as_on_files sink (job.Serve paths args) start volume result none other (inl memory) = inl memory
  ends_as_on_files sink (job.Serve paths args) start volume result none other (inr (found, comes, is)) =
      inr (found, comes_alone start volume paths.volume _ found none (other _ found) comes, is)
  ends_as_on_files sink (job.Report paths) start volume result none other (found, comes, is) =
      (found, comes_alone start volume paths.volume _ found none (other _ found) comes, is)
  ends_as_on_files sink (job.Check paths) start volume result none other (found, comes, is) =
      (found, comes_alone start volume paths.volume _ found none (other _ found) comes, is)
