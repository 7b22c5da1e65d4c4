use Rattle.index_plain.proofs.Words.{sym, ap, ◌∙◌, is_some, option_copied_mut, insert, on_ok_weaker, map_of, pairs_of, without_first}
use Rattle.std.proofs.lemmas.Result.{on_err_weaker}
use Rattle.index_plain.proofs.TreeLemmas.{get_map, map_insert}
use Rattle.index_plain.proofs.PairLemmas.{inner_of, pairs_put, pairs_same, without_absent}
use Rattle.index_plain.proofs.pairs.put.Goals as goal

pub returns-in-Some : goal.returns-in-Some
returns-in-Some g c =
    let a = g.met.A in
    let b = g.met.B in
    let P = g.A.Ord.cmp in
    let Q = g.B.Ord.cmp in
    let before = c.args.map.now in
    let inner = c.put.new.map in
    let after = c.get_mut.follows.lender inner in
    let first = c.args.first.now in
    let second = c.args.second.now in
    let value = c.args.value in
    let at = sym c.get_mut.ensures.value ∙ ap option_copied_mut c.in-Some.is in
    let found = sym (get_map a.Ord.total before first ∙ at) in
    let there = map_insert a.Ord.total a.Key.exact before after first inner ((c.get_mut.follows.holds inner).3 (ap is_some at)) in
    record {
      written = on_ok_weaker c.put.result (λ put.
          pairs_put a.Ord.total b.Ord.total a.Key.exact b.Key.exact (map_of P before) (map_of P after) first inner there second value
          (put ∙ ap (λ x. insert (inner_of Q x) second value) found)) c.put.ensures.written;
      unchanged = on_err_weaker c.put.result (λ same.
          pairs_same a.Ord.total b.Ord.total a.Key.exact b.Key.exact (map_of P before) (map_of P after) first inner there
          (same ∙ ap (inner_of Q) found)) c.put.ensures.unchanged;
    }

pub returns-in-None : goal.returns-in-None
returns-in-None g c =
    let a = g.met.A in
    let b = g.met.B in
    let P = g.A.Ord.cmp in
    let Q = g.B.Ord.cmp in
    let before = c.args.map.now in
    let first = c.args.first.now in
    let second = c.args.second.now in
    let value = c.args.value in
    let lent = c.get_mut.follows.holds-at-none in
    let none = get_map a.Ord.total before first ∙ sym c.get_mut.ensures.value ∙ ap option_copied_mut c.in-None.is in
    let absent = without_absent a.Ord.total b.Ord.total a.Key.exact b.Key.exact (map_of P before) first none in
    record {
      written = on_ok_weaker c.put_alone.result (λ put.
          put ∙ ap (λ m. insert (without_first P Q first (pairs_of P Q (map_of P m))) (first, second) value) lent
          ∙ ap (λ m. insert m (first, second) value) absent) c.put_alone.ensures.written;
      unchanged = on_err_weaker c.put_alone.result (λ same. same ∙ ap (λ m. pairs_of P Q (map_of P m)) lent) c.put_alone.ensures.unchanged;
    }
