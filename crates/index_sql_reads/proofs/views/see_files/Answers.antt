use Rattle.index_rules.specs.Seen.{SeesFiles}
use Rattle.index_sql_reads.proofs.FindsLemmas.{fails_then, finds_as, finds_then}
use Rattle.index_sql_reads.proofs.views.see_files.Goals as goal

pub returns-in_err-is_banned : goal.returns-in_err-is_banned
returns-in_err-is_banned g c = fails_then g.S.Store c.in_ok-has_release.ensures c.in_err-is_banned.ensures
    c.from_residual-in_err-is_banned.ensures.1

pub returns-in_err-file : goal.returns-in_err-file
returns-in_err-file g c = fails_then g.S.Store (finds_then g.S.Store c.in_ok-has_release.ensures c.in_ok-is_banned.ensures)
    c.in_err-file.ensures c.from_residual-in_err-file.ensures.1

pub returns-in_err-yank : goal.returns-in_err-yank
returns-in_err-yank g c =
    let first = finds_then g.S.Store (finds_then g.S.Store c.in_ok-has_release.ensures c.in_ok-is_banned.ensures) c.in_ok-file.ensures in
    fails_then g.S.Store first c.in_err-yank.ensures c.from_residual-in_err-yank.ensures.1

pub returns : goal.returns
returns g c =
    let first = finds_then g.S.Store (finds_then g.S.Store c.in_ok-has_release.ensures c.in_ok-is_banned.ensures) c.in_ok-file.ensures in
    finds_as g.S.Store (λ T. SeesFiles T c.args.keys.now) (finds_then g.S.Store first c.in_ok-yank.ensures)
    (λ T it. record { file = it.0.1; is_banned = it.0.0.1; yank = it.1; has_release = it.0.0.0 })
