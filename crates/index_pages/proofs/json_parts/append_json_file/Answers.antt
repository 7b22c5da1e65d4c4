use Rattle.index_pages.proofs.JsonLemmas.{file-members}
use Rattle.index_pages.proofs.PieceLemmas.{adds_both, adds_same}
use Rattle.index_pages.proofs.json_parts.append_json_file.Goals as goal

pub returns : goal.returns
returns g c =
    adds_same (adds_both c.in_ok-append_front.ensures
    (adds_both c.in_ok-append_size.ensures
    (adds_both c.in_ok-append_url.ensures (adds_both c.in_ok-append_yanked.ensures c.in_ok-put.ensures))))
    (rw c.text.ensures.text (file-members c.args.project.now c.args.row.now))
