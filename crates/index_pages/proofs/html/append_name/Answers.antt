use Rattle.index_pages.proofs.Words.{append_assoc, refl, name_anchor}
use Rattle.index_pages.proofs.PieceLemmas.{adds_both, adds_same}
use Rattle.index_pages.proofs.html.append_name.Goals as goal

pub returns : goal.returns
unfolding name_anchor
returns g c = adds_same (adds_both c.in_ok-append.ensures (adds_both c.in_ok-append_escaped.ensures c.in_ok-append-2.ensures))
    (simp append_assoc refl)
