use Rattle.index_pages.proofs.PieceLemmas.{adds_both}
use Rattle.index_pages.proofs.project.ProjectPage.html_end.Goals as goal

pub returns : goal.returns
returns g c = adds_both c.in_ok-append_html_start.ensures c.in_ok-append_bottom.ensures
