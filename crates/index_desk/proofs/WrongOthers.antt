-- The words on names apart exclude a standing with another name behind it.
use Rattle.index_desk.proofs.Words.{◌≡◌, ◌&&◌, Bool, true, false, cond, not, inl, inr, refl, sym, ap, ◌∙◌, List, [], ◌∷◌, Some, None}
use Rattle.index_desk.proofs.Words.{option_map, false≢true, Bytes, same, same-refl, Call, History, Free, Held, state_after, is_held_now}
use Rattle.index_desk.proofs.Words.{project_after, record_of_state, IsLegal, is_held}
use Rattle.std.proofs.Common.{find}
use Rattle.std.specs.Prelude.{is_none, option_and_then, ℕ}
use Rattle.index_names.specs.Project.{read_name}
use Rattle.index_rules.specs.declared.answer.Refusal.TheVariants.{BadMoment, BadToken}
use Rattle.index_rules.specs.declared.call.Request.{Request}
use Rattle.index_rules.specs.declared.call.Request.TheVariants.{Claim}
use Rattle.index_rules.specs.Facts.{of_both}
use Rattle.index_rules.specs.FirstTables.{first_record}
use Rattle.index_rules.specs.History.{begins, is_read_as}
use Rattle.index_rules.specs.Legal.{caller_after, facts_after, verdict_after}
use Rattle.index_rules.specs.PastNames.{is_given_after, owns_after}
use Rattle.index_rules.specs.PastUsers.{bearer_after}
use Rattle.index_rules.specs.StandsFor.{name_after}
use Rattle.index_rules.specs.Verdict.{Accept, applies, bears, is_prohibited, refusals_of, verdict_of}
use Rattle.index_rules.proofs.Accepted.{NonePasses}
use Rattle.index_rules.proofs.KeyLemmas.{cases_same}
use Rattle.index_rules.proofs.StandsOn.{legal_made, tables_of}
use Rattle.index_desk.specs.Apart.{RefutesOther, RefutesOthers, entries_of, with_claim}
use Rattle.index_desk.specs.Standings.{standing_in}
use Rattle.index_desk.proofs.ApartLemmas.{show_same}
use Rattle.index_desk.proofs.StandingLemmas.{IsStandingAfter-standing_in}

find_none : {A : Type 0} (p : A → Bool) (xs : List A) → NonePasses p xs → find p xs ≡ None
find_none p [] none = refl
find_none p (x ∷ xs) none = ap (λ b. cond b (Some x) (find p xs)) none.0 ∙ find_none p xs none.1

-- the first user has the token of the opening
bears_first : (user token : Bytes) → bearer_after (begins user token) token ≡ Some user
bears_first user token =
    ap (λ b. cond (bears (Some token) (cond b (Some (first_record token)) None)) (Some user) None) (same-refl user)
    ∙ ap (λ b. cond b (Some user) None) (same-refl token)

-- who has a token may claim a free name
module _ (h : History) (user token name n : Bytes) (bearer : bearer_after h token ≡ Some user) (reads : read_name name ≡ Some n)
    (free : state_after h n ≡ Free) where
  abbrev claim : Call
  claim = record { at = 0; token = token; request = Claim name }

  unheld : is_held (option_and_then (name_after h) (read_name name)) ≡ false
  unheld = ap (λ read. is_held (option_and_then (name_after h) read)) reads
      ∙ ap (λ s. is_held (record_of_state s (project_after h n))) free

  allowed : is_prohibited (option_and_then (name_after h) (read_name name)) ≡ false
  allowed = ap (λ read. is_prohibited (option_and_then (name_after h) read)) reads
      ∙ ap (λ s. is_prohibited (record_of_state s (project_after h n))) free

  unowned : of_both (owns_after h) (read_name name) (bearer_after h token) ≡ false
  unowned = (λ i. of_both (owns_after h) (reads i) (bearer i)) ∙ ap (λ s. is_held_now s && is_given_after h n user) free

  none_applies : NonePasses (applies 0 (Claim name) (facts_after h claim)) (BadMoment ∷ BadToken ∷ refusals_of (Claim name))
  none_applies =
      let signed : is_none (option_map (caller_after h) (bearer_after h token)) ≡ false =
      ap (λ found. is_none (option_map (caller_after h) found)) bearer in
      let unheld_by_others : (is_held (option_and_then (name_after h) (read_name name))
      && not (of_both (owns_after h) (read_name name) (bearer_after h token))) ≡ false =
      ap (λ b. b && not (of_both (owns_after h) (read_name name) (bearer_after h token))) unheld in
      (refl, (signed, (ap is_none reads, (allowed, (unheld_by_others, tt)))))

  claim_accepted : verdict_after h claim ≡ Accept
  claim_accepted = λ i. verdict_of
      (find_none (applies 0 (Claim name) (facts_after h claim)) (BadMoment ∷ BadToken ∷ refusals_of (Claim name)) none_applies i)
      (unowned i)

  claim_legal : IsLegal h → IsLegal (with_claim user token name h)
  claim_legal legal = (legal, claim_accepted, bearer)

module _ (user token name other n m : Bytes) (reads : read_name name ≡ Some n) (reads_other : read_name other ≡ Some m)
    (differ : ¬ (n ≡ m)) where
  abbrev opened : History
  opened = begins user token

  abbrev alone : History
  alone = with_claim user token name opened

  abbrev other_first : History
  other_first = with_claim user token other opened

  abbrev both : History
  both = with_claim user token name other_first

  apart : same n m ≡ false
  apart = elim (cases_same n m) [
    | inl is ↦ absurd (differ is)
    | inr other ↦ other
  ]

  apart_back : same m n ≡ false
  apart_back = elim (cases_same m n) [
    | inl is ↦ absurd (differ (sym is))
    | inr other ↦ other
  ]

  not_other : is_read_as (read_name other) n ≡ false
  not_other = ap (λ read. is_read_as read n) reads_other ∙ apart

  legal_alone : IsLegal alone
  legal_alone = claim_legal opened user token name n (bears_first user token) reads refl tt

  legal_first : IsLegal other_first
  legal_first = claim_legal opened user token other m (bears_first user token) reads_other refl tt

  legal_both : IsLegal both
  legal_both = claim_legal other_first user token name n (bears_first user token) reads (ap (λ b. cond b Held Free) not_other) legal_first

  agree : entries_of n alone ≡ entries_of n both
  agree =
      let claimed : Bytes × ℕ × Request = (user, 0, Claim name) in
      let first : Bytes × ℕ × Request = (user, 0, Claim other) in
      sym (ap (λ b. cond (is_read_as (read_name name) n) (claimed ∷ cond b (first ∷ []) []) (cond b (first ∷ []) [])) not_other)

  unheld_alone : is_held_now (state_after alone m) ≡ false
  unheld_alone = ap (λ read. is_held_now (cond (is_read_as read m) Held Free)) reads ∙ ap (λ b. is_held_now (cond b Held Free)) apart_back

  held_both : is_held_now (state_after both m) ≡ true
  held_both = (λ i. is_held_now (cond (is_read_as (reads i) m) Held (cond (is_read_as (reads_other i) m) Held Free)))
      ∙ (λ i. is_held_now (cond (apart_back i) Held (cond (same-refl m i) Held Free)))

  refutes_other : RefutesOther n m alone both
  refutes_other = record {
    legal = legal_alone;
    legal_too = legal_both;
    agree = agree;
    differ = λ same_state. false≢true (sym unheld_alone ∙ same_state ∙ held_both);
    right = (show_same n alone both agree).standing;
    wrong = λ it. false≢true (ap (λ found. found.1) (it (standing_in (tables_of alone) n, false) (standing_in (tables_of both) n, true)
        (IsStandingAfter-standing_in alone (tables_of alone) (legal_made alone legal_alone).stands n, sym unheld_alone)
        (IsStandingAfter-standing_in both (tables_of both) (legal_made both legal_both).stands n, sym held_both)));
  }

pub refutes_others : RefutesOthers
refutes_others user token name other n m reads reads_other differ = refutes_other user token name other n m reads reads_other differ
