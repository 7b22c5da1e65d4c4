use Rattle.index_sql_reads.proofs.Words.{◌≡◌, IfOk, Some, option_map, subst, subst₂, sym, get, reason_after}
use Rattle.std.proofs.Common.{IfSome}
use Rattle.index_sql_reads.specs.Sealed.{IsDeclared}
use Rattle.index_sql_reads.proofs.FindsLemmas.{at_exit, never_fails, on_ok, seen_before}
use Rattle.index_sql_reads.proofs.body.find_stored.Goals as goal

pub returns-in_err-stored-clause-reason : goal.returns-in_err-stored-clause-reason
returns-in_err-stored-clause-reason g c bound clean records =
    at_exit c.from_residual-in_err-stored.result _ _ c.from_residual-in_err-stored.ensures.1
    (reason_after g.S.Store c.args.conn.now c.find_digest.new.conn c.find_bytes.new.conn _ c.in_ok-digest.ensures.looks
    c.in_err-stored.ensures.finds.looks.was_clean c.in_err-stored.ensures.finds.reason clean records)

pub returns-clause-reason : goal.returns-clause-reason
returns-clause-reason g c bound clean records =
    let before = c.in_ok-stored.ensures.finds.looks.was_clean clean in
    let bytes = seen_before g.S.Store c.args.conn.now c.find_digest.new.conn
    (λ T. option_map (λ bytes. bytes.items) c.in_ok-stored.stored ≡ get T.bodies c.args.file.now) c.in_ok-digest.ensures.looks before
    (c.in_ok-stored.ensures.finds.found clean) in
    never_fails c.with_digest.result _ (c.with_digest.ensures.complete
    (subst₂ IsDeclared (sym (c.in_ok-digest.ensures.found before)) (sym bytes) bound))

pub returns-clause-digest : goal.returns-clause-digest
returns-clause-digest g c clean =
    subst (λ declared. IfOk c.with_digest.result (λ it. IfSome it (λ kept. declared ≡ Some kept.0)))
    (c.in_ok-digest.ensures.found (c.in_ok-stored.ensures.finds.looks.was_clean clean)) c.with_digest.ensures.digest

pub returns-clause-opened : goal.returns-clause-opened
returns-clause-opened g c = on_ok c.with_digest.result c.in_ok-stored.ensures.opened
