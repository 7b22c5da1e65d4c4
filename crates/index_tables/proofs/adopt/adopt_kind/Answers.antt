use Rattle.index_tables.proofs.Words.{rules, ◌≡◌, IsTrue, Some, refl, state, HasCleanDisk, IsFirstVersion, IsIndex, version_in, IsRaised}
use Rattle.index_tables.proofs.Words.{FirstVersion}
use Rattle.index_tables.proofs.AdoptLemmas.{adopted, adopted_after}
use Rattle.index_tables.proofs.OpenedLemmas.{looked_opened}
use Rattle.index_tables.proofs.adopt.adopt_kind.Goals as goal

pub returns-in-Index-Ok-Some-eq2 : goal.returns-in-Index-Ok-Some-eq2
returns-in-Index-Ok-Some-eq2 g c =
    let old = c.args.conn in
    let new = c.read_version.new.conn in
    let index : IsTrue (state g.S.Store old).is_open → IsIndex (state g.S.Store old).now = search rules in
    let told : HasCleanDisk (state g.S.Store new) → version_in (state g.S.Store old).now.trees ≡ Some 2 = search rules in
    adopted g.S.Store old _ (search rules) (search rules)
    (looked_opened 2 g.S.Store IsRaised old new c.in-Index-Ok-Some-eq2.ensures.looks c.requires.rest refl
    (g.met.S.Store.settled new.store) index told)

pub returns-in-FirstVersion-Ok-Some-eq1 : goal.returns-in-FirstVersion-Ok-Some-eq1
returns-in-FirstVersion-Ok-Some-eq1 g c =
    let old = c.args.conn in
    let mid = c.read_version.new.conn in
    let first : IsTrue (state g.S.Store old).is_open → IsFirstVersion (state g.S.Store old).now = search rules in
    let told : HasCleanDisk (state g.S.Store mid) → version_in (state g.S.Store old).now.trees ≡ Some 1 = search rules in
    let is : c.args.kind ≡ FirstVersion = search rules in
    rw is (adopted_after g.S.Store old mid c.in-FirstVersion-Ok-Some-eq1.ensures.looks c.migrate_and_adopt.result first told
    c.migrate_and_adopt.ensures.fault c.migrate_and_adopt.ensures.adopts)
