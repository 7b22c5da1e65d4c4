-- The standing that tables give is that of a history for which they stand.
use Rattle.index_desk.proofs.Words.{◌≡◌, refl, sym, ◌∙◌, subst, Bytes, Tables, History, State, Free, Held, Prohibited, state_after}
use Rattle.index_desk.proofs.Words.{StandsFor, record_of_state, project_after, IsStandingAfter}
use Rattle.index_rules.proofs.OwnerLists.{IsStrictlySortedBy-owners_in, list_any-owners_in}
use Rattle.index_desk.specs.Standings.{standing_of_record, standing_in}

pub IsStandingAfter-standing_in : (h : History) (T : Tables) → StandsFor T h → (name : Bytes) → IsStandingAfter h name (standing_in T name)
IsStandingAfter-standing_in h T stands name = subst (λ found. IsStandingAfter h name (standing_of_record T name found))
    (sym (stands.names name)) (by (state_after h name) refl)
  where
    by : (s : State) → state_after h name ≡ s → IsStandingAfter h name
        (standing_of_record T name (record_of_state s (project_after h name)))
    by Free is = (refl, is)
    by Prohibited is = (refl, is)
    by Held is = (
      refl,
      is,
      refl,
      (IsStrictlySortedBy-owners_in T name, λ user. list_any-owners_in T name user ∙ stands.owners name user),
      stands.cases name,
    )
