use Rattle.std.proofs.Common.{sym, ◌∙◌, refl}
use Rattle.index_digest.proofs.TextLemmas.{read_digest-other, reads, reads-decoded}
use Rattle.index_digest.proofs.digest.Digest256.read_hex.Goals as goal

pub returns-then-not-is_digest_text-clause-value :
    goal.returns-then-not-is_digest_text-clause-value
returns-then-not-is_digest_text-clause-value c =
    sym (read_digest-other c.args.text.now (sym c.is_digest_text.ensures ∙ c.if-not-is_digest_text.true))

pub unwrap-bytes-requires : goal.unwrap-bytes-requires
unwrap-bytes-requires c =
    let found = reads c.args.text.now (sym c.is_digest_text.ensures ∙ c.if-not-is_digest_text.false) in
    rw (c.from_hex.ensures, found.1.sized) refl

pub returns-clause-value : goal.returns-clause-value
returns-clause-value c =
    sym
    (reads-decoded c.args.text.now c.unwrap-bytes.result (sym c.is_digest_text.ensures ∙ c.if-not-is_digest_text.false)
    (sym c.from_hex.ensures ∙ c.unwrap-bytes.ensures)).found

pub returns-clause-text : goal.returns-clause-text
returns-clause-text c =
    (reads-decoded c.args.text.now c.unwrap-bytes.result (sym c.is_digest_text.ensures ∙ c.if-not-is_digest_text.false)
    (sym c.from_hex.ensures ∙ c.unwrap-bytes.ensures)).same
