use Rattle.index_sql_reads.proofs.Words.{[], map, entries, select_bodies_text}
use Rattle.index_sql_schema.specs.RecordRows.{IsStoredRow}
use Rattle.index_sql_schema.specs.ShownRows.{stored_in}
use Rattle.index_sql_schema.proofs.SelectBodies.{is_plain, records, selects, sure}
use Rattle.index_sql_reads.proofs.EndLemmas.{bodies_ends}
use Rattle.index_sql_reads.proofs.QueryLemmas.{ends_for, stays_open, walks_all}
use Rattle.index_sql_reads.proofs.WalkLemmas.{read_walks}
use Rattle.index_sql_reads.proofs.walk.walk_stored.Goals as goal

pub walk-requires : goal.walk-requires
walk-requires g c = record { plain = is_plain }

pub returns-clause-rows : goal.returns-clause-rows
returns-clause-rows g c =
    let it = c.walk.ensures.handed in
    let old = c.args.conn.now in
    record {
      walked = λ clean.
          walks_all g.S.Store select_bodies_text [] bodies_ends old c.walk.ensures.kept (c.walk.ensures.looks.was_clean clean) stored_in
          (λ T. entries T.bodies) selects
          g.K.Taker.takes g.K.Taker.stops it.rows c.args.taker.now c.walk.new.taker c.walk.result (it.shown clean) it.walks;
      given = (
        map stored_in it.rows,
        read_walks g.K.Taker.takes g.K.Taker.stops stored_in it.rows c.args.taker.now c.walk.new.taker
            c.walk.result it.walks,
      );
      looks = c.walk.ensures.looks;
      reason = λ clean are.
          ends_for g.S.Store select_bodies_text [] bodies_ends old c.walk.ensures.kept (c.walk.ensures.looks.was_clean clean) stored_in
          (λ T. entries T.bodies) selects
          IsStoredRow records are c.walk.new.conn c.walk.result ((c.walk.ensures.reason sure).reason clean);
    }

pub returns-clause-opened : goal.returns-clause-opened
returns-clause-opened g c =
    stays_open g.S.Store select_bodies_text [] c.args.conn.now c.walk.new.conn c.walk.ensures.handed.rows c.walk.result c.walk.ensures.looks
    c.walk.ensures.handed.shown
