-- Connections that went another way than the rules say, and calls that a crash made of none, do not meet the words of the contracts.
use Rattle.index.proofs.Words.{◌≡◌, ◌⊎◌, List, [], ◌∷◌, ◌++◌, refl, sym, ap, subst, subst₂, inl, inr, Exchange, Rules, Tables}
use Rattle.index_cli.specs.Serving.{ExchangeIsAnswered, ExchangeShowsFailure, ExchangesAreAnswered}
use Rattle.index_cli.specs.Went.{AcceptsNothing, BeginsByFailure, MayHaveMade, Went}
use Rattle.index.specs.Refuted.{RefutesWent}

module _ {S : Type 0} (rules : Rules S) (s : S) (T : Tables) where
  abbrev Left : S → List Exchange → Type 0
  Left from later = rules.Shows from T ⊎ MayHaveMade rules later from T

  none_left : (later earlier : List Exchange) (reached : S) → [] ≡ later ++ earlier → ExchangesAreAnswered rules earlier s reached
      → Left reached later → rules.Shows s T
  none_left [] earlier reached is answered (inl shows) =
      subst (λ it. rules.Shows it T) (subst (λ it. ExchangesAreAnswered rules it s reached) (sym is) answered) shows
  none_left [] earlier reached is answered (inr made) = absurd made
  none_left (one ∷ later) earlier reached is answered left = absurd (cc is)

  of_none : (reached : S) (later : List Exchange) → later ≡ [] → Left reached later → rules.Shows reached T
  of_none reached later none left = elim (subst (Left reached) none left) [ inl shows ↦ shows | inr made ↦ absurd made ]

  -- a connection was answered, or it shows a failure and no call of it was accepted
  abbrev IsMade : Exchange → List Exchange → S → Type 0
  IsMade exchange later reached = ExchangeIsAnswered rules exchange s reached × (later ≡ [])

  abbrev IsShut : Exchange → List Exchange → S → Type 0
  IsShut exchange later reached =
      AcceptsNothing exchange × ExchangeShowsFailure rules exchange s × (reached ≡ s) × (later ≡ exchange ∷ [])

  made_or_shut : (exchange : Exchange) (later earlier : List Exchange) (reached : S) → exchange ∷ [] ≡ later ++ earlier
      → ExchangesAreAnswered rules earlier s reached → (later ≡ []) ⊎ BeginsByFailure rules later reached
      → IsMade exchange later reached ⊎ IsShut exchange later reached
  made_or_shut exchange [] earlier reached is answered shut =
      let one = subst (λ it. ExchangesAreAnswered rules it s reached) (sym is) answered in
      inl (subst (λ it. ExchangeIsAnswered rules exchange it reached) one.1 one.2, refl)
  made_or_shut exchange (one ∷ later) earlier reached is answered (inl none) = absurd (cc none)
  made_or_shut exchange (one ∷ []) [] reached is same (inr begins) =
      let first : one ≡ exchange = cc in
      let fails : ExchangeShowsFailure rules one reached = elim begins.1 [ inl fails ↦ fails.1 | inr none ↦ absurd none ] in
      inr (subst AcceptsNothing first begins.0, subst₂ (ExchangeShowsFailure rules) first same fails, same, ap (λ it. it ∷ []) first)
  made_or_shut exchange (one ∷ []) (other ∷ earlier) reached is answered (inr begins) =
      let rest : [] ≡ other ∷ earlier = cc in absurd (cc rest)
  made_or_shut exchange (one ∷ other ∷ later) earlier reached is answered (inr begins) =
      let rest : [] ≡ other ∷ (later ++ earlier) = cc in absurd (cc rest)

  pub refutes_went : (exchange : Exchange) → RefutesWent rules exchange s T
  refutes_went exchange = record {
    made = λ other it. other (none_left it.later it.earlier it.reached it.all it.answered (it.crash T refl));
    told = λ other it. elim (goes _ it) [ inl made ↦ other it.reached made.0 | inr shut ↦ other shut.1.later shut.1.answers ];
    lost = λ accepts other it. elim (goes _ it) [
      | inl made ↦ other it.reached made.0 (of_none it.reached it.later made.1 (it.crash T refl))
      | inr shut ↦ accepts shut.0
    ];
    twice = λ none stays other it. elim (goes _ it) [
      | inl made ↦ other it.reached made.0 (of_none it.reached it.later made.1 (it.crash T refl))
      | inr shut ↦ elim (subst₂ Left shut.2 shut.3 (it.crash T refl)) [ inl shows ↦ stays shows | inr made ↦ none made ]
    ];
  }
    where
      goes : (MayLeave : Tables → Type 0) (it : Went rules (exchange ∷ []) s MayLeave)
          → IsMade exchange it.later it.reached ⊎ IsShut exchange it.later it.reached
      goes MayLeave it = made_or_shut exchange it.later it.earlier it.reached it.all it.answered it.shut
