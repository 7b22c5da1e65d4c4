use Rattle.index_sql_reads.proofs.Words.{◌≡◌, option_map, sym, subst₂, get, reason_after}
use Rattle.index_sql_reads.specs.Sealed.{IsBoundTo}
use Rattle.index_sql_reads.proofs.FindsLemmas.{at_exit, never_fails, seen_before}
use Rattle.index_sql_reads.proofs.body.find_body.Goals as goal

pub returns-in_err-bytes-clause-reason : goal.returns-in_err-bytes-clause-reason
returns-in_err-bytes-clause-reason g c bound clean records =
    at_exit c.from_residual-in_err-bytes.result _ _ c.from_residual-in_err-bytes.ensures.1
    (reason_after g.S.Store c.args.conn.now c.find_digest.new.conn c.find_bytes.new.conn _ c.in_ok-digest.ensures.looks
    c.in_err-bytes.ensures.finds.looks.was_clean c.in_err-bytes.ensures.finds.reason clean records)

pub returns-clause-reason : goal.returns-clause-reason
returns-clause-reason g c bound clean records =
    let before = c.in_ok-bytes.ensures.finds.looks.was_clean clean in
    let bytes = seen_before g.S.Store c.args.conn.now c.find_digest.new.conn
    (λ T. option_map (λ bytes. bytes.items) c.in_ok-bytes.bytes ≡ get T.bodies c.args.file.now) c.in_ok-digest.ensures.looks before
    (c.in_ok-bytes.ensures.finds.found clean) in
    never_fails c.seal.result _ (c.seal.ensures.complete (subst₂ IsBoundTo (sym (c.in_ok-digest.ensures.found before)) (sym bytes) bound))
