use Rattle.index_sql_opening.proofs.Words.{[], ap, ◌∙◌, sym, rules, select_version_text, first_number}
use Rattle.index_sql_opening.proofs.LookLemmas.{fails_inside, refused_keeps, shown_keeps}
use Rattle.index_sql_opening.proofs.versions.query_version.Goals as goal

pub returns-in-Err-clause-uncommitted : goal.returns-in-Err-clause-uncommitted
returns-in-Err-clause-uncommitted g c = record {
  same_reference = c.query_all.ensures.same_reference;
  kept = λ clean. refused_keeps _ _ select_version_text [] _ (c.in-Err.ensures.err clean);
  survives = search rules;
}

pub returns-in-Err-clause-version : goal.returns-in-Err-clause-version
returns-in-Err-clause-version g c = record {
  told = λ _. tt;
  fails = λ clean. (
    c.query_all.new.self.conn.now,
    record {
      error = c.in-Err.error;
      fails = fails_inside _ _ select_version_text [] _ c.requires.inside (c.in-Err.ensures.err clean);
      told = sym c.fault_of.ensures;
    },
  );
}

pub returns-in-Ok-clause-uncommitted : goal.returns-in-Ok-clause-uncommitted
returns-in-Ok-clause-uncommitted g c = record {
  same_reference = c.query_all.ensures.same_reference;
  kept = λ clean. shown_keeps _ _ select_version_text [] _ c.requires.inside (c.in-Ok.ensures.ok clean);
  survives = search rules;
}

pub returns-in-Ok-clause-version : goal.returns-in-Ok-clause-version
returns-in-Ok-clause-version g c = record {
  told = λ clean. record {
    after = c.query_all.new.self.conn.now;
    rows = c.in-Ok.rows.items;
    shown = c.in-Ok.ensures.ok clean;
    first = c.first_number.ensures.number ∙ ap first_number c.as_slice.ensures.value;
  };
  fails = λ _. tt;
}
