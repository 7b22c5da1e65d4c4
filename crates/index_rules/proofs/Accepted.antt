-- An accepted call: no refusal applies, and it is not so already.
use Rattle.index_rules.proofs.Words.{◌≡◌, Bool, true, false, cond, not, ◌&&◌, ◌||◌, ◌==◌, inl, inr, refl, sym, ap, ◌∙◌, List, [], ◌∷◌}
use Rattle.index_rules.proofs.Words.{Option, Some, None, is_some, find, unwrap_or, false≢true, cases_Bool, Call, Refusal, BadMoment}
use Rattle.index_rules.proofs.Words.{BadToken, number_of, Facts, Accept, applies, refusals_of, is_already, verdict_of, verdict_on}
use Rattle.index_rules.proofs.RefusalNumbers.{number_of-is}

-- none of these passes the test
abbrev pub NonePasses : {A : Type 0} → (A → Bool) → List A → Type 0
NonePasses p [] = Unit {0}
NonePasses p (x ∷ xs) = (p x ≡ false) × NonePasses p xs

pub NonePasses-find : {A : Type 0} (p : A → Bool) (xs : List A) → find p xs ≡ None → NonePasses p xs
NonePasses-find p [] e = tt
NonePasses-find p (x ∷ xs) e = elim (p x) as (λ b. cond b (Some x) (find p xs) ≡ None → (b ≡ false) × NonePasses p xs) [
  | true ↦ λ e. cc
  | false ↦ λ e. (refl, NonePasses-find p xs e)
] e

-- whether a refusal is one of these, by its number
abbrev pub is_among : Refusal → List Refusal → Bool
is_among refusal [] = false
is_among refusal (one ∷ others) = (number_of refusal == number_of one) || is_among refusal others

pub NonePasses-among : (p : Refusal → Bool) (xs : List Refusal) → NonePasses p xs → (refusal : Refusal) → is_among refusal xs ≡ true
    → p refusal ≡ false
NonePasses-among p [] none refusal there = absurd (false≢true there)
NonePasses-among p (x ∷ xs) none refusal there = elim (cases_Bool (number_of refusal == number_of x)) [
  | inl e ↦ ap p (number_of-is refusal x e) ∙ none.0
  | inr e ↦ NonePasses-among p xs none.1 refusal (sym (ap (λ b. b || is_among refusal xs) e) ∙ there)
]

decided-accept : (refusal : Option Refusal) (already : Bool) → verdict_of refusal already ≡ Accept → (refusal ≡ None) × (already ≡ false)
decided-accept (Some r) already e = cc
decided-accept None true e = cc
decided-accept None false e = (refl, refl)

-- the refusals that a call can meet
abbrev pub refusals : Call → List Refusal
refusals c = BadMoment ∷ BadToken ∷ refusals_of c.request

-- what an accepted call has passed; `refl` shows that a refusal is one of those that it can meet
pub record HasPassed (c : Call) (f : Facts) : Type 0 where
  pub not_refused : (refusal : Refusal) → is_among refusal (refusals c) ≡ true → applies c.at c.request f refusal ≡ false
  pub not_already : is_already c.request f ≡ false

pub accepted : (c : Call) (f : Facts) → verdict_on c f ≡ Accept → HasPassed c f
accepted c f e =
    let both = decided-accept (find (applies c.at c.request f) (refusals c)) (is_already c.request f) e in
    record {
      not_refused = NonePasses-among (applies c.at c.request f) (refusals c)
          (NonePasses-find (applies c.at c.request f) (refusals c) both.0);
      not_already = both.1;
    }

-- ---- what is there

pub some_there : {A : Type 0} (o : Option A) (none : A) → is_some o ≡ true → o ≡ Some (unwrap_or o none)
some_there None none e = absurd (false≢true e)
some_there (Some x) none e = refl

-- if one of two is so, the other is not
pub and_not : (a b : Bool) → (a && not b) ≡ false → b ≡ false → a ≡ false
and_not true b h e = cc
and_not false b h e = refl
