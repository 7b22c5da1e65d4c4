use Rattle.index_sql_opening.proofs.Words.{exits, table_asks}
use Rattle.index_sql_opening.proofs.NewAskLemmas.{more_tables}
use Rattle.index_sql_opening.proofs.tables.make_first_version.Goals as goal

pub returns-in_err-make_first_four : goal.returns-in_err-make_first_four
returns-in_err-make_first_four g c = exits g.S.Store (table_asks 0 4) (table_asks 4 8)
    _ _ _ c.from_residual.ensures.1 c.in_err-make_first_four.ensures

pub returns : goal.returns
returns g c = more_tables g.S.Store (table_asks 0 4) (table_asks 4 8) c.in_ok-make_first_four.ensures _ c.make_next_four.ensures
