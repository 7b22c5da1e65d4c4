use Rattle.index_pages.proofs.Words.{refl}
use Rattle.index_pages.proofs.PieceLemmas.{adds_both, adds_same}
use Rattle.index_pages.proofs.json_parts.append_front.Goals as goal

pub returns : goal.returns
returns g c =
    adds_same (adds_both c.in_ok-put.ensures (adds_both c.in_ok-append_json_text.ensures
    (adds_both c.in_ok-append_hashes.ensures c.in_ok-append_requires.ensures)))
    (rw (c.text.ensures.text, c.as_str.ensures) refl)
