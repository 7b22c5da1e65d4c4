use Rattle.index_plain.proofs.Words.{◌≡◌, true, cond, [], ◌∷◌, rules, sym, ap, ◌∙◌, FileRecord, Bytes, is_undeleted_of, file_row_in}
use Rattle.index_plain.proofs.Words.{plain_tables, rows_of_file}
use Rattle.index_plain.proofs.RowLemmas.{stopped_at_one}
use Rattle.index_plain.proofs.plain.PlainBooks.hand_file.Goals as goal

pub returns : goal.returns
returns g c =
    let T = plain_tables c.args.self.now in
    let name = c.args.name.now in
    let entry : Bytes × FileRecord = (c.args.file.now, c.args.known.now) in
    let listed : is_undeleted_of name c.args.known.now ≡ true = search rules in
    let one : rows_of_file T name entry ≡ c.in_ok-row.row ∷ [] =
    ap (λ b. cond b (file_row_in T name entry ∷ []) []) listed ∙ ap (λ row. row ∷ []) (sym c.in_ok-row.ensures) in
    record {
      walked = stopped_at_one g.K.Taker.takes g.K.Taker.stops (rows_of_file T name entry)
          c.in_ok-row.row c.args.taker.now c.take.new.self one (c.take.ensures.stopped c.if-take.false);
      memory = search rules;
    }
