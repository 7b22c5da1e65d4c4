-- No look reads the users.
use Rattle.index_rules.proofs.Words.{refl}
use Rattle.index_rules.specs.Looks.{LooksPassOver}

pub looks_pass_over : LooksPassOver
looks_pass_over = record {
  name = λ n users T. refl;
  owners = λ n users T. refl;
  case = λ n users T. refl;
  names = λ users T. refl;
  files = λ n users T. refl;
  bytes = λ f users T. refl;
}
