use Rattle.index_sql_opening.proofs.Words.{refl, exits, table_asks}
use Rattle.index_sql_opening.proofs.NewAskLemmas.{more_tables}
use Rattle.index_sql_opening.proofs.tables.make_tables.Goals as goal

pub returns-in_err-make_first_version : goal.returns-in_err-make_first_version
returns-in_err-make_first_version g c = exits g.S.Store (table_asks 0 8) (table_asks 8 9)
    _ _ _ c.from_residual.ensures.1 c.in_err-make_first_version.ensures

pub returns : goal.returns
returns g c = more_tables g.S.Store (table_asks 0 8) (table_asks 8 9) c.in_ok-make_first_version.ensures _
    (c.make_table.ensures.made 8 refl)
