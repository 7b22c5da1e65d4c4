use Rattle.index_sql_writes.proofs.Words.{[], ◌∷◌, Ok, ap, arith, rules, Text, state, IsFiledRow, RowShowsFileName}
use Rattle.index_sql_schema.proofs.ShownRecords.{known_records}
use Rattle.index_sql_schema.specs.StatementTexts.{select_named_text}
use Rattle.index_sql_schema.proofs.SelectNamed as statement
use Rattle.index_sql_writes.proofs.QueryLemmas.{shown_with, shown_unchanged, shown_keeps, refused_keeps, unchanged_makes, query_goes}
use Rattle.index_sql_writes.proofs.statements.files_named.Goals as goal

pub returns-in-Ok-clause-looked : goal.returns-in-Ok-clause-looked
returns-in-Ok-clause-looked g c = record {
  uncommitted = record {
    same_reference = c.query_all.ensures.same_reference;
    kept = λ clean. shown_keeps _ _ select_named_text _ _ statement.is_plain (c.in-Ok.ensures.ok clean);
    survives = c.query_all.ensures.survives;
  };
  made = λ clean ready. unchanged_makes _ _ (shown_unchanged _ _ select_named_text _ _ statement.is_plain (c.in-Ok.ensures.ok clean)) ready;
  asked = λ clean can. ap Ok (shown_unchanged _ _ select_named_text _ _ statement.is_plain (c.in-Ok.ensures.ok clean)).0.now_is;
}

pub returns-in-Ok-clause-opened : goal.returns-in-Ok-clause-opened
returns-in-Ok-clause-opened g c clean =
    (shown_unchanged _ _ select_named_text _ _ statement.is_plain (c.in-Ok.ensures.ok clean)).0.was_open

pub returns-in-Ok-clause-files : goal.returns-in-Ok-clause-files
returns-in-Ok-clause-files g c clean =
    let old = state g.S.Store c.args.tx.now.conn.now in
    let new = state g.S.Store c.query_all.new.self.conn.now in
    let shown = shown_with select_named_text (Text c.args.name.now ∷ []) _ old new c.in-Ok.rows.items (search rules)
    (c.in-Ok.ensures.ok clean) in
    record {
      files = λ ready. statement.selects c.args.name.now old new c.in-Ok.rows.items ready.index shown;
      shown = λ can.
          let known = known_records old.now can.ready.index can.records in
          statement.records c.args.name.now IsFiledRow RowShowsFileName (λ r it. (omega arith, it.file))
          old new c.in-Ok.rows.items can.ready.index shown known.1.1.1.1.0;
    }

pub returns-in-Err-clause-looked : goal.returns-in-Err-clause-looked
returns-in-Err-clause-looked g c = record {
  uncommitted = record {
    same_reference = c.query_all.ensures.same_reference;
    kept = λ clean. refused_keeps _ _ select_named_text _ _ (c.in-Err.ensures.err clean);
    survives = c.query_all.ensures.survives;
  };
  made = λ clean. tt;
  asked = λ clean can. query_goes select_named_text (Text c.args.name.now ∷ []) _ _ _ _ (search rules) (statement.sure c.args.name.now) can
      (c.in-Err.ensures.err clean);
}
