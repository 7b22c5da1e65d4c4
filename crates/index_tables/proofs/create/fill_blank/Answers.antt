use Rattle.index_tables.proofs.Words.{rules, refl, inr, IsTrue, state, one_user, IsWorking, AreOpened}
use Rattle.index_sql_opening.specs.Created.{IsBlank}
use Rattle.index_tables.specs.Opened.{IsCreated}
use Rattle.index_tables.proofs.OpenedLemmas.{made_opened, made_refused, named_version}
use Rattle.index_tables.proofs.RecordLemmas.{blank_records}
use Rattle.index_tables.proofs.create.fill_blank.Goals as goal

pub returns-in-Ok-clause-made : goal.returns-in-Ok-clause-made
returns-in-Ok-clause-made g c =
    let old = c.args.conn in
    let new = c.fill_new.new.conn in
    let T = one_user c.args.user.now c.args.account.now in
    let blank : IsTrue (state g.S.Store old).is_open → IsBlank (state g.S.Store old).now = search rules in
    let filled = named_version c.args.user.now c.args.account.now c.number.ensures c.in-Ok.ensures.made in
    let opened : AreOpened g.V.Version.number g.S.Store (IsCreated g.V.Version.number T) old
    (record { conn = new; failures = 0; stores = 0 }) =
    made_opened g.V.Version.number g.S.Store (IsCreated g.V.Version.number T) old new (λ _. blank) (λ _ _. refl)
    (λ _ db blank current is meta. (blank.schema, current, is, meta)) _ filled (g.met.S.Store.settled new.store) in
    let made = λ (working : IsWorking (state g.S.Store new)).
    let o = (opened.was_working working).is_open in
    filled.made working.clean o (blank o) in
    record {
      tables = λ working. (made working).tables;
      records = λ working. (made working).records
          (blank_records (state g.S.Store old).now (blank (opened.was_working working).is_open).schema);
      meta = λ working. (made working).meta;
      opened = opened;
    }

pub returns-in-Err-clause-refused : goal.returns-in-Err-clause-refused
returns-in-Err-clause-refused g c =
    let old = c.args.conn in
    let blank : IsTrue (state g.S.Store old).is_open → IsBlank (state g.S.Store old).now = search rules in
    made_refused g.V.Version.number g.S.Store (IsCreated g.V.Version.number (one_user c.args.user.now c.args.account.now))
    old c.fill_new.new.conn (λ _. blank) (λ _ _. refl) (λ _ db blank current is meta. (blank.schema, current, is, meta)) c.in-Err.error
    (named_version c.args.user.now c.args.account.now c.number.ensures c.in-Err.ensures.made) c.requires.rest c.open_fault_of.result
    (search rules) (λ reason store. inr (reason store))
