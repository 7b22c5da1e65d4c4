use Rattle.index_sql_opening.proofs.Words.{[], ◌∷◌, ◌++◌, ◌∙◌, Ok, Err, MakesInTransaction, put_user_ask, makes_then, exits, steps_then}
use Rattle.index_sql_opening.proofs.Words.{table_asks, one_user}
use Rattle.index_sql_schema.specs.Index.{with_version}
use Rattle.index_sql_opening.specs.NewAsks.{put_version_ask}
use Rattle.index_sql_opening.specs.Created.{one_version_row}
use Rattle.index_sql_opening.proofs.NewAskLemmas.{first_user}
use Rattle.index_sql_opening.proofs.new_index.make_all.Goals as goal

pub returns-in_err-make_tables : goal.returns-in_err-make_tables
returns-in_err-make_tables g c =
    exits g.S.Store (table_asks 0 9) (put_user_ask c.args.user.now c.args.account.now ∷ put_version_ask c.args.version ∷ [])
    _ _ _ c.from_residual.ensures.1 c.in_err-make_tables.ensures

pub returns-in_err-put_user : goal.returns-in_err-put_user
returns-in_err-put_user g c =
    let user = c.args.user.now in
    let account = c.args.account.now in
    exits g.S.Store (table_asks 0 9 ++ (put_user_ask user account ∷ [])) (put_version_ask c.args.version ∷ [])
    _ _ _ c.from_residual-in_err-put_user.ensures.1
    (first_user g.S.Store user account c.in_ok-make_tables.ensures (Err c.in_err-put_user.field-0.0) c.in_err-put_user.ensures)

pub returns : goal.returns
returns g c =
    let user = c.args.user.now in
    let account = c.args.account.now in
    steps_then g.S.Store (table_asks 0 9 ++ (put_user_ask user account ∷ []))
    (MakesInTransaction (λ _. one_user user account) (one_version_row c.args.version)) (put_version_ask c.args.version ∷ [])
    (λ can. can.0) (λ did. did.ready) (λ can did limit. (did.ready, limit ∙ can.1))
    (λ did more. makes_then (λ _. one_user user account) (λ T. T) (λ _. []) (with_version c.args.version) _ _ _ did more)
    (first_user g.S.Store user account c.in_ok-make_tables.ensures (Ok c.in_ok-put_user.field-0) c.in_ok-put_user.ensures)
    _ c.put_version.ensures
