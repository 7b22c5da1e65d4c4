use Rattle.index_sql_reads.proofs.Words.{◌≡◌, sym, has_release_in}
use Rattle.index_sql_reads.proofs.FindsLemmas.{fails_then, finds_as, finds_then}
use Rattle.index_sql_reads.proofs.lookups.has_release.Goals as goal

pub returns-then-branch : goal.returns-then-branch
returns-then-branch g c =
    finds_as g.S.Store (λ T it. it ≡ has_release_in T c.args.name.now c.args.release.now) c.in_ok-has_usual_file.ensures
    (λ T found. sym (found c.if-branch.true))

pub returns-in_err-has_usual_file-2 : goal.returns-in_err-has_usual_file-2
returns-in_err-has_usual_file-2 g c = fails_then g.S.Store c.in_ok-has_usual_file.ensures c.in_err-has_usual_file-2.ensures
    c.from_residual-in_err-has_usual_file-2.ensures.1

pub returns-then-branch-2 : goal.returns-then-branch-2
returns-then-branch-2 g c =
    finds_as g.S.Store (λ T it. it ≡ has_release_in T c.args.name.now c.args.release.now)
    (finds_then g.S.Store c.in_ok-has_usual_file.ensures c.in_ok-has_usual_file-2.ensures)
    (λ T found. sym (found.1 c.if-branch-2.true))

pub returns-in_err-found : goal.returns-in_err-found
returns-in_err-found g c =
    fails_then g.S.Store (finds_then g.S.Store c.in_ok-has_usual_file.ensures c.in_ok-has_usual_file-2.ensures)
    c.in_err-found.ensures c.from_residual-in_err-found.ensures.1

pub returns : goal.returns
returns g c =
    finds_as g.S.Store (λ T it. it ≡ has_release_in T c.args.name.now c.args.release.now)
    (finds_then g.S.Store (finds_then g.S.Store c.in_ok-has_usual_file.ensures c.in_ok-has_usual_file-2.ensures) c.in_ok-found.ensures)
    (λ T found. found.1)
