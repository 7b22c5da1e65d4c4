use Rattle.index_pages.proofs.PieceLemmas.{adds_both}
use Rattle.index_pages.proofs.project.append_file_line.Goals as goal

pub returns : goal.returns
returns g c = adds_both c.in_ok-append_json_start.ensures (adds_both c.in_ok-append_comma.ensures c.in_ok-append_json_file.ensures)
