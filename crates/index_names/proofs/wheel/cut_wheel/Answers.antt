use Rattle.std.proofs.Common.{◌≡◌, true, sym, ap, ◌∙◌}
use Rattle.std.specs.Prelude.{option_and_then}
use Rattle.index_names.specs.FileName.{spelled_by_wheel}
use Rattle.index_names.specs.Spelling.{is_wheel_cut}
use Rattle.index_names.specs.Cut.{wheel_cut}
use Rattle.index_names.proofs.WheelCuts.{HasWheelParts, HasWheelParts-cut, spelled_by_wheel-passing}
use Rattle.index_names.proofs.wheel.cut_wheel.Goals as goal

pub returns-then-is_wheel : goal.returns-then-is_wheel
returns-then-is_wheel c =
    let cut = wheel_cut c.in_ok-wheel.wheel in
    let passes : is_wheel_cut cut ≡ true = sym c.is_wheel.ensures ∙ c.if-is_wheel.true in
    let parts : HasWheelParts cut = HasWheelParts-cut cut passes in
    record {
      value = ap (option_and_then spelled_by_wheel) (sym c.in_ok-wheel.ensures) ∙ spelled_by_wheel-passing cut passes;
      name = parts.name;
      version = parts.version;
    }
