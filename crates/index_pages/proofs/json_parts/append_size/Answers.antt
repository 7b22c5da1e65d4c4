use Rattle.index_pages.proofs.JsonLemmas.{size-text}
use Rattle.index_pages.proofs.PieceLemmas.{adds_both, adds_same}
use Rattle.index_pages.proofs.json_parts.append_size.Goals as goal

pub returns : goal.returns
returns g c = adds_same (adds_both c.in_ok-put.ensures c.in_ok-put-2.ensures)
    (rw (c.as_bytes.ensures.value, c.format.ensures.text) (size-text c.args.size))
