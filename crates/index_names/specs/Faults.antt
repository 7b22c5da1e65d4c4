-- Errors of calls.
use Rattle.std.specs.Prelude.{◌≡◌, ◌⊎◌, Result, IfErr}

-- an error is one of these two
abbrev pub FailsByEither : {A E : Type 0} → Result A E → E → E → Type 0
FailsByEither result fault other = IfErr result (λ error. (error ≡ fault) ⊎ (error ≡ other))
