use Rattle.index.proofs.Words.{◌≡◌, ap₂, false, sym, subst}
use Rattle.index.specs.Pairs.{IsWithoutVolume}
use Rattle.index.proofs.FreshLemmas.{seen}
use Rattle.index.proofs.RunLemmas.{settled_leaves}
use Rattle.index.proofs.UnusedLemmas.{over_volume, unopened}
use Rattle.index.proofs.pair.work_with.Goals as goal

pub returns-in-Ok-open_volume : goal.returns-in-Ok-open_volume
returns-in-Ok-open_volume g c =
    let start = g.V.Start in
    let db = c.in-Ok-open_volume.files.db in
    let fresh = c.in-Ok-open_volume.ensures.fresh in
    over_volume _ _ c.args.books.conn start.db db (ap₂ (seen start.log start.db) fresh.0 fresh.1)
    (λ next may. settled_leaves start.is_mixing start.log start.db db.is_log false db.key db.calls.log.events next fresh.0 fresh.1 may)
    c.work_over.result c.work_over.ensures

pub returns-in-Ok : goal.returns-in-Ok
returns-in-Ok g c = subst (IsWithoutVolume _ c.args.books.conn (λ next. next ≡ g.V.Start.db)) (sym c.without.ensures.is)
    (unopened _ c.args.books.conn _ c.in-Err-open_volume.why c.in-Err-open_volume.ensures.fault c.without.ensures.again)

pub returns : goal.returns
returns g c = subst (IsWithoutVolume _ c.args.books.conn (λ next. next ≡ g.V.Start.db)) (sym c.without-in-Err.ensures.is)
    (unopened _ c.args.books.conn _ c.in-Err.why c.in-Err.ensures.fault c.without-in-Err.ensures.again)
