use Rattle.index_pages.proofs.JsonLemmas.{yanked-text}
use Rattle.index_pages.proofs.PieceLemmas.{adds_both, adds_same}
use Rattle.index_pages.proofs.json_parts.append_yanked.Goals as goal

pub returns : goal.returns
returns g c = rw (c.in-Some.is, ← c.as_str.ensures)
    (adds_same (adds_both c.in_ok-put.ensures c.in_ok-append_reason.ensures) (yanked-text c.as_str.result.now))
