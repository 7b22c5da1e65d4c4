-- Calls that can only fail because memory runs out.
use Rattle.std.specs.Prelude.{◌≡◌, Result, IfOk, IfErr}
use Rattle.index_rules.specs.declared.answer.Fault.{Fault}
use Rattle.index_rules.specs.declared.answer.Fault.TheVariants.{OutOfMemory}

-- a call returns a value of which this holds, or memory ran out
pub record OkOrNoMemory {A : Type 0} (result : Result A Fault) (Holds : A → Type 0) : Type 0 where
  pub value : IfOk result Holds
  pub memory : IfErr result (λ fault. fault ≡ OutOfMemory)
