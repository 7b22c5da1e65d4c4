-- A call that is made again right after its entry: what it meets, by what it met before.
use Rattle.index_rules.proofs.Words.{◌≡◌, ℕ, Bool, true, false, cond, not, refl, sym, ap, ◌∙◌, List, [], ◌∷◌, Option, Some, None, is_none}
use Rattle.index_rules.proofs.Words.{find, option_map, option_and_then, true≢false, not-false, BadMoment, BadToken, Call, Request, Bytes}
use Rattle.index_rules.proofs.Words.{Project, of_both, AlreadySo, applies, is_already, is_held, refusals_of, verdict_of, History, more}
use Rattle.index_rules.proofs.Words.{bearer_after, State, Free, Held, Prohibited, state_after, owns_after, first_upload_after}
use Rattle.index_rules.proofs.Words.{is_undeleted_after, requires_after, name_after, file_after, file_of_upload, project_after}
use Rattle.index_rules.proofs.Words.{record_of_state, facts_after, verdict_after}
use Rattle.index_rules.proofs.Accepted.{NonePasses}

find_none : {A : Type 0} (p : A → Bool) (xs : List A) → NonePasses p xs → find p xs ≡ None
find_none p [] none = refl
find_none p (x ∷ xs) none = ap (λ b. cond b (Some x) (find p xs)) none.0 ∙ find_none p xs none.1

held_alike : (s : State) (p q : Project) → is_held (record_of_state s p) ≡ is_held (record_of_state s q)
held_alike Free p q = refl
held_alike Held p q = refl
held_alike Prohibited p q = refl

held_is : (s : State) (p : Project) → not (is_held (record_of_state s p)) ≡ false → s ≡ Held
held_is Free p there = absurd (true≢false there)
held_is Held p there = refl
held_is Prohibited p there = absurd (true≢false there)

-- the name of a request is held if NoProject does not refuse it
pub held_now : (h : History) (read : Option Bytes) (n : Bytes) → read ≡ Some n → not (is_held (option_and_then (name_after h) read)) ≡ false
    → state_after h n ≡ Held
held_now h read n reads there = held_is (state_after h n) (project_after h n)
    (sym (ap (λ read. not (is_held (option_and_then (name_after h) read))) reads) ∙ there)

-- the caller owns the name of a request if NotOwner does not refuse it
pub owns_now : (h : History) (token actor : Bytes) → bearer_after h token ≡ Some actor → (read : Option Bytes) (n : Bytes) → read ≡ Some n
    → not (of_both (owns_after h) read (bearer_after h token)) ≡ false → owns_after h n actor ≡ true
owns_now h token actor bearer read n reads there = sym (λ i. of_both (owns_after h) (reads i) (bearer i)) ∙ not-false _ there

known_alike : (f requires other : Bytes) (there here : Bool) (first : Option (Bytes × ℕ))
    → is_none (option_map (file_of_upload f requires there) first) ≡ is_none (option_map (file_of_upload f other here) first)
known_alike f requires other there here None = refl
known_alike f requires other there here (Some first) = refl

module _ (h : History) (actor token : Bytes) (at again : ℕ) where
  abbrev pub of : Request → Call
  of r = record { at = at; token = token; request = r }

  abbrev pub twice : Request → Call
  twice r = record { at = again; token = token; request = r }

  abbrev pub after : Request → History
  after r = more h (record { actor = actor; call = of r })

  -- what nothing refuses, and what is so, is already so
  pub already : (r : Request) → NonePasses (applies again r (facts_after (after r) (twice r))) (BadMoment ∷ BadToken ∷ refusals_of r)
      → is_already r (facts_after (after r) (twice r)) ≡ true → verdict_after (after r) (twice r) ≡ AlreadySo
  already r none is = λ i. verdict_of (find_none (applies again r (facts_after (after r) (twice r))) (BadMoment ∷ BadToken ∷ refusals_of r)
      none i) (is i)

  -- a request that leaves the states leaves what is held
  pub held_same : (r : Request) → ((n : Bytes) → state_after (after r) n ≡ state_after h n) → (key : Option Bytes)
      → is_held (option_and_then (name_after (after r)) key) ≡ is_held (option_and_then (name_after h) key)
  held_same r kept None = refl
  held_same r kept (Some n) = ap (λ s. is_held (record_of_state s (project_after (after r) n))) (kept n)
      ∙ held_alike (state_after h n) (project_after (after r) n) (project_after h n)

  -- a request that leaves the first uploads leaves which files are known
  pub known_same : (r : Request) → ((f : Bytes) → first_upload_after (after r) f ≡ first_upload_after h f) → (key : Option Bytes)
      → is_none (option_and_then (file_after (after r)) key) ≡ is_none (option_and_then (file_after h) key)
  known_same r kept None = refl
  known_same r kept (Some f) =
      ap (λ first. is_none (option_map (file_of_upload f (requires_after (after r) f) (is_undeleted_after (after r) f)) first)) (kept f)
      ∙ known_alike f (requires_after (after r) f) (requires_after h f) (is_undeleted_after (after r) f) (is_undeleted_after h f)
      (first_upload_after h f)
