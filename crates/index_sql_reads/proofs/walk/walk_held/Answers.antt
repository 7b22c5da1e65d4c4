use Rattle.index_sql_reads.proofs.Words.{[], map, IsNamedRow, name_row_in, select_held_text, held_shown}
use Rattle.index_rules.specs.TableRows.{held_rows_in}
use Rattle.index_sql_schema.proofs.SelectNames.{selects_held}
use Rattle.index_sql_reads.proofs.EndLemmas.{held_ends}
use Rattle.index_sql_reads.proofs.HeldLemmas.{records, sure}
use Rattle.index_sql_reads.proofs.QueryLemmas.{ends_for, walks_all}
use Rattle.index_sql_reads.proofs.WalkLemmas.{read_walks}
use Rattle.index_sql_reads.proofs.walk.walk_held.Goals as goal

pub walk-requires : goal.walk-requires
walk-requires g c = record { plain = held_shown.is_plain }

pub returns : goal.returns
returns g c =
    let it = c.walk.ensures.handed in
    let old = c.args.conn.now in
    record {
      walked = λ clean.
          walks_all g.S.Store select_held_text [] held_ends old c.walk.ensures.kept (c.walk.ensures.looks.was_clean clean)
          name_row_in held_rows_in selects_held
          g.K.Taker.takes g.K.Taker.stops it.rows c.args.taker.now c.walk.new.taker c.walk.result (it.shown clean) it.walks;
      given = (
        map name_row_in it.rows,
        read_walks g.K.Taker.takes g.K.Taker.stops name_row_in it.rows c.args.taker.now c.walk.new.taker
            c.walk.result it.walks,
      );
      looks = c.walk.ensures.looks;
      reason = λ clean are.
          ends_for g.S.Store select_held_text [] held_ends old c.walk.ensures.kept (c.walk.ensures.looks.was_clean clean)
          name_row_in held_rows_in selects_held
          IsNamedRow records are c.walk.new.conn c.walk.result ((c.walk.ensures.reason sure).reason clean);
    }
