use Rattle.index_tables.proofs.Words.{rules, ◌≡◌, ap, inr, refl, true, Some, Database, state, HasCleanDisk, meta_in, version_in}
use Rattle.index_tables.proofs.Words.{QueriesOnly, tables_in, MakesNothing}
use Rattle.index_tables.proofs.OpenedLemmas.{looked_opened, looked_refused}
use Rattle.index_tables.proofs.PlacedLemmas.{looked_nothing_new, refused_by}
use Rattle.index_tables.proofs.placed.take_placed.Goals as goal

pub returns-in-Ok-Some-eq3 : goal.returns-in-Ok-Some-eq3
returns-in-Ok-Some-eq3 g c =
    let old = c.args.conn in
    let new = c.read_version.new.conn in
    let looks : QueriesOnly g.S.Store old new true = search rules in
    let told : HasCleanDisk (state g.S.Store new) → version_in (state g.S.Store old).now.trees ≡ Some 3 = search rules in
    record {
      found = λ working. record {
        index = c.requires.is (looks.was_open working.clean working.is_open);
        version = told working.clean;
        tables = ap (λ (d : Database). tables_in d.trees) (looks.now_is working.clean working.is_open);
      };
      meta = λ working. ap (λ (d : Database). meta_in d.trees) (looks.now_is working.clean working.is_open);
      opened = looked_opened 3 g.S.Store MakesNothing old new looks c.requires.rest refl (g.met.S.Store.settled new.store)
          c.requires.is told;
      was_open = c.in-Ok-Some-eq3.ensures.open;
      refused = tt;
    }

pub returns-in-Ok : goal.returns-in-Ok
returns-in-Ok g c =
    let new = c.read_version.new.conn in
    record {
      found = tt;
      meta = tt;
      opened = tt;
      was_open = tt;
      refused = record {
        why = c.refusal.ensures.why;
        left = looked_refused 3 g.S.Store MakesNothing c.args.conn new c.in-Ok.ensures.looks c.requires.rest c.refusal.result
            (λ clean. refused_by g.S.Store c.args.conn new c.in-Ok.version c.refusal.result (search rules) (c.in-Ok.ensures.found clean));
        nothing_new = looked_nothing_new g.S.Store c.args.conn new c.in-Ok.ensures.looks;
      };
    }

pub returns-in-Err : goal.returns-in-Err
returns-in-Err g c =
    record {
      found = tt;
      meta = tt;
      opened = tt;
      was_open = tt;
      refused = record {
        why = inr (inr c.open_fault_of.ensures.fault);
        left = looked_refused 3 g.S.Store MakesNothing c.args.conn c.read_version.new.conn c.in-Err.ensures.looks c.requires.rest
            c.open_fault_of.result (λ clean o placed. c.open_fault_of.ensures.fault);
        nothing_new = looked_nothing_new g.S.Store c.args.conn c.read_version.new.conn c.in-Err.ensures.looks;
      };
    }
