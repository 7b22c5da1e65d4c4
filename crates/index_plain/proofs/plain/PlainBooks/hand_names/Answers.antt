use Rattle.index_plain.proofs.Words.{◌≡◌, [], ◌∷◌, Err, rules, sym, ap, subst, nat_list_cmp_total, exact_bytes, rest_more, rest_all}
use Rattle.index_plain.proofs.Words.{entries, deref_pair, Took, EndsEarly, Walks, GoesOn-more, GoesOn-early, GoesOn-all, NameRecord, Bytes}
use Rattle.index_plain.proofs.Words.{bytes_cmp, map_of}
use Rattle.index_plain.proofs.TreeLemmas.{entries_map}
use Rattle.index_plain.proofs.RowLemmas.{held_rows_of, held_rows_first}
use Rattle.index_plain.proofs.plain.PlainBooks.hand_names.Goals as goal

pub loop-name-preserved : goal.loop-name-preserved
loop-name-preserved g c =
    let all = c.args.self.now.names.entries in
    let rest = c.loop-name.name-iterator in
    let left = c.next.new.self in
    let entry : Bytes × NameRecord = (c.in-Some.name.now, c.in-Some.known.now) in
    GoesOn-more g.K.Taker.takes g.K.Taker.stops (held_rows_of all) (held_rows_of rest) (held_rows_of (entry ∷ [])) (held_rows_of left)
    c.args.taker.now c.loop-name.taker c.hand_name.new.taker c.loop-name.invariant
    (held_rows_first rest left entry (rest_more deref_pair _ _ _ (c.in-Some.name, c.in-Some.known) c.in-Some.is c.next.ensures.steps))
    c.in_ok-hand_name.ensures.walked

pub returns-in_err-hand_name : goal.returns-in_err-hand_name
returns-in_err-hand_name g c =
    let takes = g.K.Taker.takes in
    let stops = g.K.Taker.stops in
    let names = c.args.self.now.names in
    let rest = c.loop-name.name-iterator in
    let left = c.next.new.self in
    let entry : Bytes × NameRecord = (c.in-Some.name.now, c.in-Some.known.now) in
    let end = c.in_err-hand_name.field-0.0 in
    let told : c.from_residual.result ≡ Err end = search rules in
    record {
      walked = subst (λ result. Walks takes stops (held_rows_of (entries (map_of bytes_cmp names)))
          c.args.taker.now c.hand_name.new.taker result) (sym told)
          (subst (λ es. EndsEarly takes stops (held_rows_of es) c.args.taker.now c.hand_name.new.taker end)
          (sym (entries_map nat_list_cmp_total exact_bytes names c.iter-name-items.ensures.ordered))
          (GoesOn-early takes stops (held_rows_of names.entries) (held_rows_of rest) (held_rows_of (entry ∷ [])) (held_rows_of left)
          c.args.taker.now c.loop-name.taker c.hand_name.new.taker end c.loop-name.invariant
          (held_rows_first rest left entry (rest_more deref_pair _ _ _ (c.in-Some.name, c.in-Some.known) c.in-Some.is c.next.ensures.steps))
          c.in_err-hand_name.ensures.walked));
      memory = search rules;
    }

pub returns : goal.returns
returns g c =
    let takes = g.K.Taker.takes in
    let names = c.args.self.now.names in
    record {
      walked = subst (λ es. Took takes (held_rows_of es) c.args.taker.now c.loop-name.taker)
          (sym (entries_map nat_list_cmp_total exact_bytes names c.iter-name-items.ensures.ordered))
          (GoesOn-all takes g.K.Taker.stops (held_rows_of names.entries) (held_rows_of c.loop-name.name-iterator)
          c.args.taker.now c.loop-name.taker c.loop-name.invariant
          (ap held_rows_of (rest_all deref_pair _ _ _ c.in-None.is c.next.ensures.steps)));
      memory = search rules;
    }
