use Rattle.index_tables.proofs.Words.{◌∙◌, None, ap, option_map, refl, subst, sym, tables_of, IsLast, last_from}
use Rattle.std.specs.FinMap.{entries}
use Rattle.index_sql_schema.proofs.LookLemmas.{looks_failed}
use Rattle.index_volume_books.proofs.LastLemmas.{is_last}
use Rattle.index_tables.proofs.PlaceLemmas.{file_is, stops_among_places, took_last}
use Rattle.index_tables.proofs.places.find_last.Goals as goal

pub returns-in-Ok-clause-found : goal.returns-in-Ok-clause-found
returns-in-Ok-clause-found g c clean =
    let T = tables_of g.S.Store c.args.conn.now in
    let walked = c.in-Ok.ensures.rows.walked clean in
    let it = took_last (λ taker. taker.last) (entries T.bodies) _ c.walk_stored.new.taker None refl walked in
    let is = c.file_of.ensures ∙ ap (option_map (λ last. last.0)) it.0 ∙ file_is (last_from None (entries T.bodies)) in
    subst (IsLast T) (sym is) (is_last T it.1)

pub returns-in-Err-Stopped-clause-looks : goal.returns-in-Err-Stopped-clause-looks
returns-in-Err-Stopped-clause-looks g c =
    looks_failed g.S.Store c.args.conn.now c.walk_stored.new.conn _
    (rw c.in-Err-Stopped.field-0-is at c.in-Err-Stopped.ensures.rows.looks)

pub returns-in-Err-Stopped-clause-reason : goal.returns-in-Err-Stopped-clause-reason
returns-in-Err-Stopped-clause-reason g c clean records fits is =
    let T = tables_of g.S.Store c.args.conn.now in
    let walked = rw c.in-Err-Stopped.field-0-is at c.in-Err-Stopped.ensures.rows.walked clean in
    absurd (stops_among_places _ (λ taker. taker.why) T _ c.walk_stored.new.taker fits walked is)
