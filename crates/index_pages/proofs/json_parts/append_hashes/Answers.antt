use Rattle.index_pages.proofs.JsonLemmas.{hashes-text}
use Rattle.index_pages.proofs.PieceLemmas.{adds_same}
use Rattle.index_pages.proofs.json_parts.append_hashes.Goals as goal

pub returns : goal.returns
returns g c = adds_same (c.in_ok-append.ensures)
    (hashes-text c.args.digest.now c.hex_into.new.text c.hex_into.ensures.written c.hex_into.ensures.reads_back)
