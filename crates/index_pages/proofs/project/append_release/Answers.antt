use Rattle.index_pages.proofs.Words.{refl}
use Rattle.index_pages.proofs.PieceLemmas.{adds_both, adds_same}
use Rattle.index_pages.proofs.project.append_release.Goals as goal

pub returns : goal.returns
returns g c = adds_same (adds_both c.in_ok-append_comma.ensures c.in_ok-append_json_text.ensures) (rw c.text.ensures.text refl)
