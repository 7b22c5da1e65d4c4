use Rattle.index_http.proofs.Lengths.{short_name}
use Rattle.index_http.proofs.send.name_bytes.Goals as goal

pub returns-clause-short : goal.returns-clause-short
returns-clause-short c = short_name c.args.name.now c.text.ensures.normal
