use Rattle.index_pages.proofs.Words.{is_json}
use Rattle.index_pages.proofs.PageLemmas.{root-whole}
use Rattle.index_pages.proofs.root.RootPage.new.Goals as goal

pub returns : goal.returns
returns c = rw c.is_json.ensures (root-whole (is_json c.args.served))
