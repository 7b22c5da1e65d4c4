use Rattle.index_tables.proofs.Words.{rules, inr, IsRaised}
use Rattle.index_tables.proofs.AdoptLemmas.{reason_failed, reason_told}
use Rattle.index_tables.proofs.OpenedLemmas.{looked_refused}
use Rattle.index_tables.proofs.adopt.refuse_other.Goals as goal

pub returns-in-Ok : goal.returns-in-Ok
returns-in-Ok g c =
    let new = c.told_version.new.conn in
    record {
      why = search rules;
      refused = looked_refused 2 g.S.Store IsRaised c.args.conn new c.told_version.ensures.looks c.requires.rest c.refusal.result
          (λ clean. reason_told g.S.Store c.args.conn new c.requires.is c.in-Ok.version c.refusal.result
          (inr (c.in-Ok.ensures.version.told clean)) (search rules));
    }

pub returns-in-Err : goal.returns-in-Err
returns-in-Err g c =
    let new = c.told_version.new.conn in
    record {
      why = search rules;
      refused = looked_refused 2 g.S.Store IsRaised c.args.conn new c.told_version.ensures.looks c.requires.rest c.open_fault_of.result
          (λ clean. reason_failed g.S.Store c.args.conn new c.requires.is c.in-Err.fault c.open_fault_of.result c.open_fault_of.ensures.is
          (c.in-Err.ensures.version.fails clean));
    }
