use Rattle.index_sql_opening.proofs.Words.{[], rules, ap, ◌∙◌, sym, state, shown_open, select_version_text, first_number}
use Rattle.index_sql_schema.proofs.SelectVersion as select_version
use Rattle.index_sql_opening.proofs.LookLemmas.{looks_shown, looks_refused}
use Rattle.index_sql_opening.proofs.SureLemmas.{reasoned}
use Rattle.index_sql_opening.proofs.versions.read_version.Goals as goal

pub returns-in-Err-clause-looks : goal.returns-in-Err-clause-looks
returns-in-Err-clause-looks g c = looks_refused g.S.Store c.args.conn.now c.query_all.new.self c.requires.is
    (c.query_all.ensures.mode c.requires.rest.outside) c.query_all.ensures.survives _ _ (search rules) c.requires.rest c.in-Err.ensures.err

pub returns-in-Err-clause-reason : goal.returns-in-Err-clause-reason
returns-in-Err-clause-reason g c = record {
  query = λ clean. record {
    error = c.in-Err.error;
    fails = c.in-Err.ensures.err clean;
    told = sym c.fault_of.ensures;
  };
  reason = λ clean is. reasoned (state g.S.Store c.args.conn.now) (state g.S.Store c.query_all.new.self) _ c.requires.is
      (c.in-Err.ensures.err clean) (sym c.fault_of.ensures ∙ is);
}

pub returns-in-Ok-clause-looks : goal.returns-in-Ok-clause-looks
returns-in-Ok-clause-looks g c = looks_shown g.S.Store c.args.conn.now c.query_all.new.self c.requires.is
    (c.query_all.ensures.mode c.requires.rest.outside) c.query_all.ensures.survives c.in-Ok.rows.items c.in-Ok.ensures.ok _

pub returns-in-Ok-clause-open : goal.returns-in-Ok-clause-open
returns-in-Ok-clause-open g c clean = (shown_open (state g.S.Store c.args.conn.now) (state g.S.Store c.query_all.new.self)
    select_version_text [] c.in-Ok.rows.items (c.in-Ok.ensures.ok clean)).0

pub returns-in-Ok-clause-found : goal.returns-in-Ok-clause-found
returns-in-Ok-clause-found g c clean =
    let shown = c.in-Ok.ensures.ok clean in
    let known = c.requires.is (shown_open (state g.S.Store c.args.conn.now) (state g.S.Store c.query_all.new.self) select_version_text
    [] c.in-Ok.rows.items shown).0 in
    c.first_number.ensures.number ∙ ap first_number c.as_slice.ensures.value ∙ select_version.selects _ _ c.in-Ok.rows.items known shown
