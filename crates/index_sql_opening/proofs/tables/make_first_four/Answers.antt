use Rattle.index_sql_opening.proofs.Words.{[], ◌∷◌, Ok, Err, refl, meta_text, users_text, names_text, owners_text, exits, text_ask}
use Rattle.index_sql_opening.proofs.NewAskLemmas.{more_tables}
use Rattle.index_sql_opening.proofs.tables.make_first_four.Goals as goal

pub returns-in_err-make_table : goal.returns-in_err-make_table
returns-in_err-make_table g c = exits g.S.Store (text_ask meta_text ∷ [])
    (text_ask users_text ∷ text_ask names_text ∷ text_ask owners_text ∷ []) _ _ _ c.from_residual.ensures.1
    (c.in_err-make_table.ensures.made 0 refl)

pub returns-in_err-make_table-2 : goal.returns-in_err-make_table-2
returns-in_err-make_table-2 g c =
    let one = c.in_ok-make_table.ensures.made 0 refl in
    exits g.S.Store (text_ask meta_text ∷ text_ask users_text ∷ []) (text_ask names_text ∷ text_ask owners_text ∷ [])
    _ _ _ c.from_residual-in_err-make_table-2.ensures.1
    (more_tables g.S.Store (text_ask meta_text ∷ []) (text_ask users_text ∷ []) one (Err c.in_err-make_table-2.field-0.0)
    (c.in_err-make_table-2.ensures.made 1 refl))

pub returns-in_err-make_table-3 : goal.returns-in_err-make_table-3
returns-in_err-make_table-3 g c =
    let one = c.in_ok-make_table.ensures.made 0 refl in
    let two = more_tables g.S.Store (text_ask meta_text ∷ []) (text_ask users_text ∷ []) one (Ok c.in_ok-make_table-2.field-0)
    (c.in_ok-make_table-2.ensures.made 1 refl) in
    exits g.S.Store (text_ask meta_text ∷ text_ask users_text ∷ text_ask names_text ∷ []) (text_ask owners_text ∷ [])
    _ _ _ c.from_residual-in_err-make_table-3.ensures.1
    (more_tables g.S.Store (text_ask meta_text ∷ text_ask users_text ∷ []) (text_ask names_text ∷ []) two
    (Err c.in_err-make_table-3.field-0.0) (c.in_err-make_table-3.ensures.made 2 refl))

pub returns : goal.returns
returns g c =
    let one = c.in_ok-make_table.ensures.made 0 refl in
    let two = more_tables g.S.Store (text_ask meta_text ∷ []) (text_ask users_text ∷ []) one (Ok c.in_ok-make_table-2.field-0)
    (c.in_ok-make_table-2.ensures.made 1 refl) in
    let three = more_tables g.S.Store (text_ask meta_text ∷ text_ask users_text ∷ []) (text_ask names_text ∷ []) two
    (Ok c.in_ok-make_table-3.field-0) (c.in_ok-make_table-3.ensures.made 2 refl) in
    more_tables g.S.Store (text_ask meta_text ∷ text_ask users_text ∷ text_ask names_text ∷ []) (text_ask owners_text ∷ []) three _
    (c.make_table-4.ensures.made 3 refl)
