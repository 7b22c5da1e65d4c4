use Rattle.std.proofs.Common.{sym, ◌∙◌}
use Rattle.index_names.proofs.HyphenLemmas.{cut_at_first}
use Rattle.index_names.proofs.WheelCuts.{wheel_cut_of-many}
use Rattle.index_names.proofs.wheel.wheel_parts.Goals as goal

pub returns-then-is_some : goal.returns-then-is_some
returns-then-is_some c =
    let found = cut_at_first c.in-Some.sixth.now c.split_at_first_hyphen-6.result c.split_at_first_hyphen-6.ensures
    (sym c.is_some.ensures ∙ c.if-is_some.true) in
    rw (c.in_ok-distribution.ensures, c.in_ok-version.ensures, c.in_ok-third.ensures, c.in_ok-fourth.ensures, c.in-Some.ensures, found.is)
    (sym (wheel_cut_of-many c.in_ok-distribution.distribution.now c.in_ok-version.version.now c.in_ok-third.third.now
    c.in_ok-fourth.fourth.now c.in-Some.fifth.now found.front found.back))
