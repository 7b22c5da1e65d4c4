use Rattle.index_http.proofs.Words.{◌<◌}
use Rattle.index_http.proofs.Lengths.{short_reason}
use Rattle.index_http.proofs.send.phrase.Goals as goal

pub returns-in-Some-clause-short : goal.returns-in-Some-clause-short
returns-in-Some-clause-short c =
    let within : c.args.status < 1000 = rw c.as_u16-code.ensures.value at c.as_u16-code.ensures.valid.1 in
    rw c.as_bytes.ensures.value (short_reason c.args.status c.in-Some.phrase.now within c.in-Some.ensures.value)
