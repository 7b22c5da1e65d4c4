use Rattle.index_plain.proofs.Words.{◌≡◌, true, cond, [], ◌∷◌, Some, rules, sym, ap, ◌∙◌, NameRecord, Bytes, name_row, is_held_row}
use Rattle.index_rules.specs.Verdict.{is_held}
use Rattle.index_plain.proofs.RowLemmas.{held_rows_of, stopped_at_one}
use Rattle.index_plain.proofs.plain.rows.hand_name.Goals as goal

pub returns : goal.returns
returns g c =
    let entry : Bytes × NameRecord = (c.args.name.now, c.args.known.now) in
    let held : is_held_row (name_row entry) ≡ true = ap (λ known. is_held (Some known)) c.in_default.is in
    let one : held_rows_of (entry ∷ []) ≡ c.in_ok-row.row ∷ [] =
    ap (λ b. cond b (name_row entry ∷ []) []) held ∙ ap (λ row. row ∷ []) (sym c.in_ok-row.ensures) in
    record {
      walked = stopped_at_one g.K.Taker.takes g.K.Taker.stops (held_rows_of (entry ∷ []))
          c.in_ok-row.row c.args.taker.now c.take.new.self one (c.take.ensures.stopped c.if-take.false);
      memory = search rules;
    }
