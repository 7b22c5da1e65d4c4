use Rattle.index.proofs.Words.{Err, false, inl, inr, refl, rules, subst, over_files, image_at, OtherVersion, ComesOfRun, IsToldOf}
use Rattle.index.proofs.Words.{IsUnfound, IsWhyUnfound, IsWhyUnused, UnusedLeaves}
use Rattle.std.specs.Prelude.{IfSome}
use Rattle.index.proofs.PairLemmas.{ends_from}
use Rattle.index.proofs.VolumeRuns.{database_of_refused}
use Rattle.index.proofs.pair.work_by_version.Goals as goal

pub returns-in-Ok : goal.returns-in-Ok
returns-in-Ok g c =
    let run : ComesOfRun _ _ _ _ = search rules in
    inl run

pub returns-in-Ok-of_other_version : goal.returns-in-Ok-of_other_version
returns-in-Ok-of_other_version g c =
    let start = image_at g.S.Start in
    let unused = c.in-Err.unused in
    let other = c.in-Ok-of_other_version.ensures.other in
    let why = subst (IsWhyUnused false (IsWhyUnfound over_files) start unused.why) other c.in-Err.ensures.ends.why in
    inr (record {
      left = record { why = OtherVersion; conn = c.in-Ok-of_other_version.conn };
      other = refl;
      refused = subst (λ left. IfSome left (UnusedLeaves IsUnfound start)) other c.in-Err.ensures.ends.refused;
      why = (refl, why.1);
      found = database_of_refused start _ _ why.1.0 why.1.1 why.1.2;
      ended = ends_from g.W.Work.task c.args.work.now _ c.work_placed.new.work c.in-Err.ensures.idle c.work_placed.ensures;
    })

pub returns-in-Err-of_other_version : goal.returns-in-Err-of_other_version
returns-in-Err-of_other_version g c = inl (record {
  run = Err c.in-Err.unused;
  ends = c.in-Err.ensures.ends;
  leads = c.in-Err.ensures.leads;
  done = tt;
  refused = subst (λ it. IsToldOf it.why it.left c.end_of_unused.result) c.in-Err-of_other_version.ensures.same c.end_of_unused.ensures;
})
