use Rattle.index_sql_reads.proofs.Words.{[], ◌∷◌, map, rules, subst, Text, file_rows_in, IsListedRow, file_row_shown, select_files_text}
use Rattle.index_sql_reads.proofs.Words.{known_records, IsSure, IsOf, QueryEndsForReason, on_store}
use Rattle.index_sql_schema.proofs.SelectFiles.{is_plain, records, selects, sure}
use Rattle.index_sql_reads.proofs.EndLemmas.{files_ends}
use Rattle.index_sql_reads.proofs.QueryLemmas.{ends_for, walks_all}
use Rattle.index_sql_reads.proofs.WalkLemmas.{read_walks}
use Rattle.index_sql_reads.proofs.walk.walk_files.Goals as goal

pub walk-requires : goal.walk-requires
walk-requires g c = record { plain = is_plain }

pub returns : goal.returns
returns g c =
    let name = c.args.name.now in
    let it = c.walk.ensures.handed in
    let old = c.args.conn.now in
    let new = c.walk.new.conn in
    record {
      walked = λ clean.
          let told = subst (λ params. IsOf g.S.Store select_files_text params old it.rows c.walk.result) (search rules) (it.shown clean) in
          walks_all g.S.Store select_files_text (Text name ∷ []) files_ends old c.walk.ensures.kept (c.walk.ensures.looks.was_clean clean)
          file_row_shown (λ T. file_rows_in T name) (selects name)
          g.K.Taker.takes g.K.Taker.stops it.rows c.args.taker.now c.walk.new.taker c.walk.result told it.walks;
      given = (
        map file_row_shown it.rows,
        read_walks g.K.Taker.takes g.K.Taker.stops file_row_shown it.rows c.args.taker.now
            c.walk.new.taker c.walk.result it.walks,
      );
      looks = c.walk.ensures.looks;
      reason = λ clean are.
          let told = subst (λ params. IsSure select_files_text params
          → QueryEndsForReason IsListedRow select_files_text params (on_store g.S.Store old new) c.walk.result) (search rules)
          c.walk.ensures.reason in
          ends_for g.S.Store select_files_text (Text name ∷ []) files_ends old c.walk.ensures.kept (c.walk.ensures.looks.was_clean clean)
          file_row_shown (λ T. file_rows_in T name) (selects name)
          IsListedRow (λ before after rows h are shown. let known = known_records before.now h are in
          records name before after rows h shown known.1.1.1.1.0 known.1.1.1.1.1.1.0) are new c.walk.result
          ((told (sure name)).reason clean);
    }
