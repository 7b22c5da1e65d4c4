use Rattle.std.proofs.Common.{sym, ◌∙◌}
use Rattle.index_message.proofs.FieldLemmas.{found_again}
use Rattle.index_message.proofs.head.Head.find.Goals as goal

pub returns-then-is_some : goal.returns-then-is_some
returns-then-is_some c =
    rw (← c.self.view_is)
    (found_again _ _ _ _ _ c.loop-field.found _ c.loop-field-test.true c.loop-field.invariant (sym c.is_named.ensures ∙ c.if-is_named.true)
    (sym c.is_some.ensures ∙ c.if-is_some.true))
