use Rattle.index_rules.proofs.Words.{sym, subst, IsUtf8}
use Rattle.index_rules.proofs.TextLemmas.{is_text-no_utf8}
use Rattle.index_rules.proofs.reading.is_text.Goals as goal

pub returns-in-Err : goal.returns-in-Err
returns-in-Err c = is_text-no_utf8 c.args.bytes.now (λ utf8. c.in-Err.ensures.cases.0 (subst IsUtf8 (sym c.as_slice.ensures) utf8))
