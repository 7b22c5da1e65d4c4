-- An index that is found with other tables too, or counts as none, does not meet the law of what is found again.
use Rattle.index.proofs.Words.{refl, inr, Keeping}
use Rattle.index.specs.Keeping.{RefutesFound}

pub refutes_found : {X : Type 0} (k : Keeping X) → RefutesFound k
refutes_found k x T U current differ = (
  λ again. differ (again.same x T U current (inr (refl, refl))),
  λ again. again.there x T current (inr refl),
)
