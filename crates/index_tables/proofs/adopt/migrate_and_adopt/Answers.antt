use Rattle.index_tables.proofs.Words.{rules, inr, state, IsRaised, IsWorking, AreOpened}
use Rattle.index_tables.proofs.AdoptLemmas.{adopted, not_adopted, raised_told}
use Rattle.index_tables.proofs.OpenedLemmas.{made_index, made_opened, made_refused, made_version}
use Rattle.index_tables.proofs.adopt.migrate_and_adopt.Goals as goal

pub invariant_of-result : goal.invariant_of-result
invariant_of-result g c =
    let first = c.requires.is in
    made_index g.S.Store c.args.conn c.migrate.new.conn (λ clean o. (first clean o).0) _ c.in-Ok.ensures.made

pub invariant_of-result-in-Ok : goal.invariant_of-result-in-Ok
invariant_of-result-in-Ok g c =
    let first = c.requires.is in
    made_version 2 g.S.Store c.args.conn c.migrate.new.conn (λ clean o. (first clean o).0)
    (λ clean o. raised_told (state g.S.Store c.args.conn).now (first clean o)) _ c.in-Ok.ensures.made

pub returns-in-Ok-clause-adopts : goal.returns-in-Ok-clause-adopts
returns-in-Ok-clause-adopts g c =
    let first = c.requires.is in
    let old = c.args.conn in
    let new = c.migrate.new.conn in
    let opened : AreOpened 2 g.S.Store IsRaised old (record { conn = new; failures = 0; stores = 0 }) =
    made_opened 2 g.S.Store IsRaised old new (λ clean o. (first clean o).0)
    (λ clean o. raised_told (state g.S.Store old).now (first clean o))
    (λ working db _ current is meta. (first working.clean working.is_open, current, is, meta)) _ c.in-Ok.ensures.made
    (g.met.S.Store.settled new.store) in
    let was = λ (working : IsWorking (state g.S.Store new)). opened.was_working working in
    let tells = λ (working : IsWorking (state g.S.Store new)). first (was working).clean (was working).is_open in
    let made = λ (working : IsWorking (state g.S.Store new)). c.in-Ok.ensures.made.made working.clean (was working).is_open
    (tells working).0 in
    adopted g.S.Store old _
    (λ working. inr (record { first = (tells working).0; version = (tells working).1; tables = (made working).tables }))
    (λ working. inr (tells working, (made working).meta)) opened

pub returns-in-Err-clause-adopts : goal.returns-in-Err-clause-adopts
returns-in-Err-clause-adopts g c =
    let first = c.requires.is in
    not_adopted g.S.Store c.args.conn _ (inr (inr c.open_fault_of.ensures.fault))
    (made_refused 2 g.S.Store IsRaised c.args.conn c.migrate.new.conn (λ clean o. (first clean o).0)
    (λ clean o. raised_told (state g.S.Store c.args.conn).now (first clean o))
    (λ working db _ current is meta. (first working.clean working.is_open, current, is, meta))
    c.in-Err.error c.in-Err.ensures.made c.requires.rest c.open_fault_of.result (search rules) (λ reason. reason))
