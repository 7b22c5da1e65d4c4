use Rattle.index.proofs.Words.{◌∙◌, length, ap, rules, sym, AreAsFound}
use Rattle.index.proofs.FilesLemmas.{allowed_by, has_sums, left_unmade, measured, not_made, opened_on, still}
use Rattle.index.proofs.files.connect.Goals as goal
use Rattle.index.proofs.files.connect.Goals.{in-Ok-Ok, in_default}

pub returns-in-Ok : goal.returns-in-Ok
returns-in-Ok g c = elim c.match-len.branch [
  | in-Ok-Ok w ↦ λ start found.
      let db = c.len.ensures in
      let log = c.len-2.ensures in
      let files = measured c.len-2.new.self c.len.new.self in
      let now : AreAsFound g.D.Disk start files =
      still start c.args.files c.len-2.new.self c.len.new.self found log.seen db.seen log.crash db.crash
      w.in-Ok-Ok.ensures'.faults w.in-Ok-Ok.ensures.faults log.tally db.tally in
      let conn = c.in-Ok.conn in
      let opened = c.in-Ok.ensures in
      let allowed = allowed_by start files now c.args.page_sums w.in-Ok-Ok.db w.in-Ok-Ok.log w.cause_of_lengths-cause.result
      c.match-len.cause
      c.in_default-cause.is w.cause-is w.cause_of_lengths-cause.ensures
      (λ clean. w.in-Ok-Ok.ensures.len clean ∙ ap length (sym db.seen)) (λ clean. w.in-Ok-Ok.ensures'.len clean ∙ ap length (sym log.seen))
      in
      record {
        outside = opened.fresh.autocommit;
        opened = opened_on start files now conn opened.opened opened.found;
        sums = has_sums start files now c.args.page_sums conn (λ clean. allowed (opened.found clean).honest) opened.sums;
        allowed = λ clean. allowed (opened.found clean).honest;
        shut = tt;
        fault = tt;
        why = tt;
      }
  | in_default w ↦ absurd (let no = sym w.cause-is ∙ c.in_default-cause.is in cc no)
]

pub returns-in-Err : goal.returns-in-Err
returns-in-Err g c = elim c.match-len.branch [
  | in-Ok-Ok w ↦ λ start found.
      let db = c.len.ensures in
      let log = c.len-2.ensures in
      let files = measured c.len-2.new.self c.len.new.self in
      let now : AreAsFound g.D.Disk start files =
      still start c.args.files c.len-2.new.self c.len.new.self found log.seen db.seen log.crash db.crash
      w.in-Ok-Ok.ensures'.faults w.in-Ok-Ok.ensures.faults log.tally db.tally in
      let left = c.in-Err.left in
      let failed = c.in-Err.ensures in
      record {
        outside = tt;
        opened = tt;
        sums = tt;
        allowed = tt;
        shut = left_unmade start files now left failed.unharmed;
        fault = search rules;
        why = not_made start files now c.args.page_sums c.in-Err.error left c.from.result c.from.ensures failed.cause;
      }
  | in_default w ↦ absurd (let no = sym w.cause-is ∙ c.in_default-cause.is in cc no)
]
