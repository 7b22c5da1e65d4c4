use Rattle.index_pages.proofs.Words.{refl, files_bottom}
use Rattle.index_pages.proofs.PieceLemmas.{adds_both, adds_same}
use Rattle.index_pages.proofs.project.append_files_bottom.Goals as goal

pub returns : goal.returns
unfolding files_bottom
returns g c = adds_same (adds_both c.in_ok-put.ensures
    (adds_both c.in_ok-append_json_text.ensures
    (adds_both c.in_ok-put-2.ensures (adds_both c.in_ok-append_releases.ensures c.in_ok-put-3.ensures)))) (refl)
