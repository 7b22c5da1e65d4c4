use Rattle.index_sql_writes.proofs.Words.{◌≡◌, [], ◌∷◌, subst, rules, same_meta, on_store, file_shown, CanAskFor, SqlAnswersAsk}
use Rattle.index_sql_writes.proofs.Words.{IsInTransaction, MakesInTransaction, ManyStepsMakeChange, StepMakesChange, deletes_body}
use Rattle.index_sql_writes.specs.Statements.{delete_body_ask}
use Rattle.index_sql_writes.proofs.BodyLemmas.{never_unread}
use Rattle.index_sql_writes.proofs.TakenLemmas.{at_exit, uncommitted_none}
use Rattle.index_sql_writes.proofs.statements.delete_shown.Goals as goal

pub returns-in_err-file : goal.returns-in_err-file
returns-in_err-file g c =
    let conn = c.args.tx.now.conn in
    let file = file_shown c.args.row.now in
    at_exit c.from_residual.result c.in_err-file.field-0.0
    (ManyStepsMakeChange IsInTransaction (MakesInTransaction (deletes_body file) same_meta) (CanAskFor (c.args.row.now ∷ []))
    (SqlAnswersAsk (delete_body_ask file)) (on_store g.S.Store c.args.tx.now c.args.tx.now)) c.from_residual.ensures.1 (record {
      uncommitted = uncommitted_none g.S.Store conn;
      made = λ clean. tt;
      asked = λ clean can store. absurd (never_unread c.args.row.now can.shown.0 c.in_err-file.field-0.0 store c.in_err-file.ensures.kind);
    })

pub returns : goal.returns
returns g c =
    let same : c.as_str.result.now ≡ file_shown c.args.row.now = search rules in
    let step = subst (λ file. StepMakesChange (deletes_body file) (delete_body_ask file)
    (on_store g.S.Store c.args.tx.now c.delete_body.new.tx) c.delete_body.result) same c.delete_body.ensures in
    record { uncommitted = step.uncommitted; made = step.made; asked = λ clean can. step.asked clean can.can }
