use Rattle.index_plain.proofs.Words.{rules, on_ok_weaker, map_of}
use Rattle.index_plain.proofs.PairLemmas.{pairs_alone}
use Rattle.index_plain.proofs.pairs.put_alone.Goals as goal

pub returns : goal.returns
returns g c =
    let a = g.met.A in
    let b = g.met.B in
    let P = g.A.Ord.cmp in
    record {
      written = on_ok_weaker c.put.result (λ there.
          pairs_alone a.Ord.total b.Ord.total a.Key.exact b.Key.exact (map_of P c.args.map.now) (map_of P c.put.new.map)
          c.args.first.now c.in_ok-alone.alone there c.args.second.now c.args.value c.in_ok-alone.ensures)
          c.put.ensures.written;
      unchanged = search rules;
    }
