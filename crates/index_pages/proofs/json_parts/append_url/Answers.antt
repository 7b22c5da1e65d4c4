use Rattle.index_pages.proofs.JsonLemmas.{url-text}
use Rattle.index_pages.proofs.PieceLemmas.{adds_both, adds_same}
use Rattle.index_pages.proofs.json_parts.append_url.Goals as goal

pub returns : goal.returns
returns g c = adds_same (adds_both c.in_ok-put.ensures
    (adds_both c.in_ok-append_json_escaped.ensures
    (adds_both c.in_ok-put-2.ensures (adds_both c.in_ok-append_json_escaped-2.ensures c.in_ok-put-3.ensures))))
    (rw (c.as_bytes.ensures.value, c.as_bytes-2.ensures.value) (url-text c.args.project.now c.args.file.now))
