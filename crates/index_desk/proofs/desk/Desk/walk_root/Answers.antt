use Rattle.index_desk.proofs.Words.{arith, refl, rules, common_steps, held_rows_in}
use Rattle.index_desk.proofs.LookLemmas.{hands_over}
use Rattle.index_desk.proofs.RowLemmas.{AreHeldRowsAfter-held_rows_in}
use Rattle.index_desk.proofs.desk.Desk.walk_root.Goals as goal

pub returns : goal.returns
returns g c =
    hands_over _ _ _ _ (λ S rules s. rules.HeldRows s) held_rows_in _ (λ T. refl) (λ h stands. AreHeldRowsAfter-held_rows_in h _ stands)
    (grind (arith, common_steps)) c.walk_held.ensures.given (search rules)
