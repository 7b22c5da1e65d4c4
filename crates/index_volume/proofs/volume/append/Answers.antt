use Rattle.std.proofs.Common.{ap, ◌∙◌, take}
use Rattle.index_volume.proofs.FileLemmas.{front_torn, kept_torn, kept_moved}
use Rattle.index_volume.proofs.volume.append.Goals as goal

-- src/volume.rt:24:1
pub returns-in-Err-sync-clause-kept : goal.returns-in-Err-sync-clause-kept
returns-in-Err-sync-clause-kept g c = λ kept.
    let put = kept_torn _ _ _ _ _ _ kept c.write_at.ensures.others c.write_at.ensures.crash in (
      kept_moved _ _ _ _ _ put c.sync.ensures.seen c.sync.ensures.crash,
      ap (take c.args.end) c.sync.ensures.seen ∙ front_torn _ _ _ _ kept.long c.write_at.ensures.others,
    )

-- src/volume.rt:24:1
pub returns-in-Err-clause-kept : goal.returns-in-Err-clause-kept
returns-in-Err-clause-kept g c = λ kept.
    (kept_torn _ _ _ _ _ _ kept c.write_at.ensures.others c.write_at.ensures.crash, front_torn _ _ _ _ kept.long c.write_at.ensures.others)
