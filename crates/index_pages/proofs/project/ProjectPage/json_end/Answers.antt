use Rattle.index_pages.proofs.PieceLemmas.{adds_both}
use Rattle.index_pages.proofs.project.ProjectPage.json_end.Goals as goal

pub returns : goal.returns
returns g c = adds_both c.in_ok-append_json_start.ensures (adds_both c.in_ok-put.ensures c.in_ok-append_files_bottom.ensures)
