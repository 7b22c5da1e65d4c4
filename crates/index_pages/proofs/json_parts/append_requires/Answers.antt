use Rattle.index_pages.proofs.Words.{◌≡◌, ◌==◌, false, length, rules}
use Rattle.index_pages.proofs.JsonLemmas.{requires-text}
use Rattle.index_pages.proofs.PieceLemmas.{adds_both, adds_same}
use Rattle.index_pages.proofs.json_parts.append_requires.Goals as goal

pub returns : goal.returns
returns g c =
    let some : (length c.args.requires_python.now == 0) ≡ false = search rules in
    adds_same (adds_both c.in_ok-put.ensures c.in_ok-append_json_text.ensures) (requires-text c.args.requires_python.now some)
