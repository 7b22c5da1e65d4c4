use Rattle.index_rules.proofs.Words.{sym, subst, IsUtf8}
use Rattle.index_rules.proofs.TextLemmas.{IsText-from_is_text}
use Rattle.index_rules.proofs.reading.to_text.Goals as goal

pub unreachable-requires : goal.unreachable-requires
unreachable-requires c = c.in-Err.ensures.cases.0
    (subst IsUtf8 (sym c.as_slice.ensures) (IsText-from_is_text c.args.text.now c.requires).utf8)
