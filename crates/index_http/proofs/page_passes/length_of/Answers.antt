use Rattle.index_http.proofs.PassLemmas.{measures}
use Rattle.index_http.proofs.page_passes.length_of.Goals as goal

pub returns : goal.returns
returns g c = rw c.measured_by.ensures (measures _ _ _ c.write_page.result c.write_page.ensures)
