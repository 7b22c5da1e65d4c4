use Rattle.index_pages.proofs.JsonLemmas.{json_text-is}
use Rattle.index_pages.proofs.PieceLemmas.{adds_both, adds_same}
use Rattle.index_pages.proofs.json_parts.append_json_text.Goals as goal

pub returns : goal.returns
returns g c = adds_same (adds_both c.in_ok-put.ensures (adds_both c.in_ok-append_json_escaped.ensures c.in_ok-put-2.ensures))
    (rw c.as_bytes.ensures.value (json_text-is c.args.text.now))
