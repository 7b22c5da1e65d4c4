use Rattle.index_rules.proofs.Words.{arith, nat_tests}
use Rattle.index_rules.proofs.TextLemmas.{is_text-utf8}
use Rattle.index_rules.proofs.reading.is_kept_text.Goals as goal

pub returns-then-text-le-LONGEST_TEXT : goal.returns-then-text-le-LONGEST_TEXT
returns-then-text-le-LONGEST_TEXT c = rw (is_text-utf8 c.args.text.now c.utf8.text) (grind (arith, nat_tests))

pub returns-else-text-le-LONGEST_TEXT : goal.returns-else-text-le-LONGEST_TEXT
returns-else-text-le-LONGEST_TEXT c = rw (is_text-utf8 c.args.text.now c.utf8.text) (grind (arith, nat_tests))
