use Rattle.std.proofs.Common.{ap, ◌∙◌}
use Rattle.index_digest.specs.Digest.{read_digest, text_of}
use Rattle.index_digest.proofs.TextLemmas.{reads_back}
use Rattle.index_digest.proofs.digest.Digest256.hex_into.Goals as goal

pub returns-clause-written : goal.returns-clause-written
unfolding text_of
returns-clause-written c = rw (← c.self.view_is) (rw c.unwrap.ensures at c.encode_to_slice.ensures.written)

pub returns-clause-reads_back : goal.returns-clause-reads_back
returns-clause-reads_back c =
    let read = (reads_back c.self.inside.bytes c.self.invariant).found in
    ap read_digest (returns-clause-written c) ∙ rw (← c.self.view_is) read
