use Rattle.index_http.proofs.PassLemmas.{sends}
use Rattle.index_http.proofs.page_passes.send_text.Goals as goal

pub returns : goal.returns
returns g c = rw c.sent_by.ensures (sends _ _ _ c.write_page.result c.write_page.ensures)
