-- The text of a failed store is that of no other reply to a line.
use Rattle.index.proofs.Words.{◌≡◌, ◌∙◌, ◌⊎◌, ℕ, List, [], ◌∷◌, drop, refl, sym, ap, inl, inr, arith, answer_text_of, bad_body_text}
use Rattle.index.proofs.Words.{standing_text_of, Answer, Store}
use Rattle.index_rules.specs.declared.standing.Standing.{Standing}
use Rattle.index_rules.specs.declared.standing.Standing.TheVariants as standing
use Rattle.index_json.proofs.OnLiterals.{answers_on_literals}
use Rattle.index_cli.specs.Causes.{ReplyReportsFaults, store_faults}
use Rattle.index_rules.specs.declared.answer.Answer.TheVariants as answer
use Rattle.index_rules.specs.declared.answer.Fault.TheVariants.{OutOfMemory}
use Rattle.index_rules.specs.declared.answer.Refusal.{Refusal}

abbrev first_of : List ℕ → ℕ
first_of [] = 0
first_of (x ∷ xs) = x

-- the first letter of the first member's name, of an answer's kind, and of a fault's name
abbrev in_member : List ℕ → ℕ
in_member text = first_of (drop 2 text)

abbrev in_kind : List ℕ → ℕ
in_kind text = first_of (drop 11 text)

abbrev in_name : List ℕ → ℕ
in_name text = first_of (drop 26 text)

in_store : (in_member (answer_text_of (answer.Fault Store)) ≡ 97) × (in_kind (answer_text_of (answer.Fault Store)) ≡ 102)
    × (in_name (answer_text_of (answer.Fault Store)) ≡ 83)
unfolding answers_on_literals
in_store = (refl, refl, refl)

in_memory : in_name (answer_text_of (answer.Fault OutOfMemory)) ≡ 79
unfolding answers_on_literals
in_memory = refl

in_refused : (refusal : Refusal) → in_kind (answer_text_of (answer.Refused refusal)) ≡ 114
unfolding answers_on_literals
in_refused refusal = refl

in_accepted : (in_kind (answer_text_of answer.Accepted) ≡ 97) × (in_kind (answer_text_of answer.Already) ≡ 97)
unfolding answers_on_literals
in_accepted = (refl, refl)

in_bad_body : in_kind bad_body_text ≡ 109
unfolding answers_on_literals
in_bad_body = refl

in_standing : (it : Standing) → (in_member (standing_text_of it) ≡ 110) ⊎ (in_member (standing_text_of it) ≡ 99)
unfolding answers_on_literals standing_text_of
in_standing (standing.Free name) = inl refl
in_standing (standing.Prohibited name) = inl refl
in_standing (standing.Held held) = inr refl

abbrev store_text : List ℕ
store_text = answer_text_of (answer.Fault Store)

one_fault : (it : Answer) → store_text ≡ answer_text_of it → store_faults it ≡ 1
one_fault (answer.Fault Store) same = refl
one_fault (answer.Fault OutOfMemory) same = let no = ap in_name same in absurd (omega (arith, no, in_store.2, in_memory))
one_fault (answer.Refused refusal) same = let no = ap in_kind same in absurd (omega (arith, no, in_store.1, in_refused refusal))
one_fault answer.Already same = let no = ap in_kind same in absurd (omega (arith, no, in_store.1, in_accepted.1))
one_fault answer.Accepted same = let no = ap in_kind same in absurd (omega (arith, no, in_store.1, in_accepted.0))

no_standing : (it : Standing) → ¬ (store_text ≡ standing_text_of it)
no_standing it same =
    let is = ap in_member same in
    elim (in_standing it) [
      | inl name ↦ absurd (omega (arith, is, in_store.0, name))
      | inr held ↦ absurd (omega (arith, is, in_store.0, held))
    ]

-- it reports one fault
pub store_is_told : (text : List ℕ) (faults : ℕ) → text ≡ store_text → ReplyReportsFaults text faults → faults ≡ 1
store_is_told text faults is (inl it) = it.2 ∙ one_fault it.0 (sym is ∙ it.1)
store_is_told text faults is (inr (inl it)) = absurd (no_standing it.0 (sym is ∙ it.1))
store_is_told text faults is (inr (inr it)) =
    let no = ap in_kind (sym is ∙ it.0) in
    absurd (omega (arith, no, in_store.1, in_bad_body))

-- the text of an accepted call reports no fault
no_accepted_fault : (it : Answer) → answer_text_of answer.Accepted ≡ answer_text_of it → store_faults it ≡ 0
no_accepted_fault (answer.Fault Store) same = let no = ap in_kind same in absurd (omega (arith, no, in_store.1, in_accepted.0))
no_accepted_fault (answer.Fault OutOfMemory) same = refl
no_accepted_fault (answer.Refused refusal) same = refl
no_accepted_fault answer.Already same = refl
no_accepted_fault answer.Accepted same = refl

pub accepted_is_told : (text : List ℕ) (faults : ℕ) → text ≡ answer_text_of answer.Accepted → ReplyReportsFaults text faults → faults ≡ 0
accepted_is_told text faults is (inl it) = it.2 ∙ no_accepted_fault it.0 (sym is ∙ it.1)
accepted_is_told text faults is (inr (inl it)) = it.2
accepted_is_told text faults is (inr (inr it)) = it.1
