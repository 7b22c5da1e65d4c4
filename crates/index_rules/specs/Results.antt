-- What calls return.
use Rattle.std.specs.Prelude.{◌≡◌, List, Option, Result, IfOk, IfErr, IsSome, Vec}

-- a call that succeeds returns this
abbrev pub Returns : {A E : Type 0} → Result A E → A → Type 0
Returns result value = IfOk result (λ returned. returned ≡ value)

-- a call that succeeds returns a list of these
abbrev pub ReturnsItems : {A Alloc E : Type 0} → Result (Vec A Alloc) E → List A → Type 0
ReturnsItems result items = IfOk result (λ returned. returned.items ≡ items)

-- a call returns what bytes are parsed as, and can fail only if they can be parsed
pub record ReturnsRead {A E : Type 0} (read : Option A)
    (result : Result (Option A) E) : Type 0 where
  pub key : Returns result read
  pub readable : IfErr result (λ _. IsSome read)
