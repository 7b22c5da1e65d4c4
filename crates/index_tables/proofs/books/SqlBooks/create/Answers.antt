use Rattle.index_tables.proofs.Words.{rules, ◌≡◌, ◌∙◌, IfOk, IfErr, subst, sym, StandsFor, one_user}
use Rattle.std.proofs.Common.{subst₂}
use Rattle.std.proofs.lemmas.Result.{IfOk-weaker}
use Rattle.index_rules.specs.FirstTables.{first_record, first_tables}
use Rattle.index_rules.specs.Sound.{IsSound}
use Rattle.index_rules.specs.History.{begins}
use Rattle.index_rules.proofs.SoundOpened.{IsSound-opened}
use Rattle.index_rules.proofs.StandsOn.{StandsFor-opened}
use Rattle.index_sql_opening.specs.NewAsks.{asks_of_new}
use Rattle.index_tables.specs.Opened.{AreNew, IsNotMade}
use Rattle.index_tables.proofs.OpenedLemmas.{refused_at_once}
use Rattle.index_tables.proofs.books.SqlBooks.create.Goals as goal

pub returns-in-Ok-clause-sound : goal.returns-in-Ok-clause-sound
returns-in-Ok-clause-sound g c =
    let same : one_user c.in-Ok.user c.in-Ok.account ≡ first_tables c.args.user.now c.args.token = search rules in
    IfOk-weaker c.fill_blank.result _ _ (λ books it working. subst IsSound (sym (it.tables working ∙ same))
    (IsSound-opened c.args.user.now c.args.token)) c.fill_blank.ensures.made

pub returns-in-Ok-clause-history : goal.returns-in-Ok-clause-history
returns-in-Ok-clause-history g c =
    let same : one_user c.in-Ok.user c.in-Ok.account ≡ first_tables c.args.user.now c.args.token = search rules in
    IfOk-weaker c.fill_blank.result _ _
    (λ books it working. subst (λ T. StandsFor T (begins c.args.user.now c.args.token)) (sym (it.tables working ∙ same))
    (StandsFor-opened c.args.user.now c.args.token)) c.fill_blank.ensures.made

pub returns-in-Ok-clause-made : goal.returns-in-Ok-clause-made
returns-in-Ok-clause-made g c =
    let same : one_user c.in-Ok.user c.in-Ok.account ≡ first_tables c.args.user.now c.args.token = search rules in
    subst₂ (λ T held. IfOk c.fill_blank.result (AreNew g.V.Version.number g.S.Store T held))
    same c.expose_invariants-conn.ensures.same c.fill_blank.ensures.made

pub returns-in-Ok-clause-refused : goal.returns-in-Ok-clause-refused
returns-in-Ok-clause-refused g c =
    let T = first_tables c.args.user.now c.args.token in
    let asks = asks_of_new g.V.Version.number c.args.user.now (first_record c.args.token) in
    let same : one_user c.in-Ok.user c.in-Ok.account ≡ T = search rules in
    let same_asks : asks_of_new g.V.Version.number c.in-Ok.user c.in-Ok.account ≡ asks = search rules in
    subst (λ held. IfErr c.fill_blank.result (IsNotMade g.V.Version.number g.S.Store T asks held)) c.expose_invariants-conn.ensures.same
    (subst₂ (λ T asks. IfErr c.fill_blank.result (IsNotMade g.V.Version.number g.S.Store T asks c.expose_invariants-conn.result))
    same same_asks c.fill_blank.ensures.refused)

pub returns-in-Err-clause-refused : goal.returns-in-Err-clause-refused
returns-in-Err-clause-refused g c =
    subst (λ held. IsNotMade g.V.Version.number g.S.Store (first_tables c.args.user.now c.args.token)
    (asks_of_new g.V.Version.number c.args.user.now (first_record c.args.token)) held
    (record { why = c.in-Err.why; conn = c.expose_invariants-conn.result })) c.expose_invariants-conn.ensures.same
    (refused_at_once g.S.Store c.expose_invariants-conn.result c.in-Err.why (search rules) (search rules))
