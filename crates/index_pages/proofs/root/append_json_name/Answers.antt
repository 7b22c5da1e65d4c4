use Rattle.index_pages.proofs.Words.{refl}
use Rattle.index_pages.proofs.JsonLemmas.{name_text-is}
use Rattle.index_pages.proofs.PieceLemmas.{adds_both, adds_same}
use Rattle.index_pages.proofs.root.append_json_name.Goals as goal

pub returns : goal.returns
returns g c = adds_same (adds_both c.in_ok-append_comma.ensures
    (adds_both c.in_ok-put.ensures (adds_both c.in_ok-append_json_text.ensures c.in_ok-put-2.ensures)))
    (rw (name_text-is c.args.shown.now) refl)
