use Rattle.std.proofs.Common.{refl}
use Rattle.matchit.proofs.OnLiterals.{matchit_on_literals}
use Rattle.index_message.specs.Routes.{site_rows}
use Rattle.index_message.proofs.resource.add_patterns.Goals as goal

pub returns : goal.returns
unfolding matchit_on_literals site_rows
returns c =
    rw (
      c.in_ok-insert-7.ensures.1,
      c.in_ok-insert-6.ensures.1,
      c.in_ok-insert-5.ensures.1,
      c.in_ok-insert-4.ensures.1,
      c.in_ok-insert-3.ensures.1,
      c.in_ok-insert-2.ensures.1,
      c.in_ok-insert.ensures.1,
      c.requires.empty,
    ) refl
