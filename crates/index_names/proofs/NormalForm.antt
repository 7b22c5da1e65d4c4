-- What is still to be written of a normal form, when it is written from its front.
use Rattle.std.proofs.Common.{◌≡◌, ℕ, suc, ◌+◌, ◌<◌, Bool, true, false, cond, not, refl, sym, ap, ◌∙◌, List, [], ◌∷◌, ◌++◌, map, length}
use Rattle.std.proofs.Common.{get_or, drop, drop-cons, add-one, append_assoc}
use Rattle.std.specs.List.{join_with_byte}
use Rattle.std.proofs.lemmas.Bool.{and_parts}
use Rattle.std.specs.Char.{is_ascii_alphanumeric, to_ascii_lowercase}
use Rattle.index_names.specs.Project.{is_project_name, begins_run, with_before, runs_of, normal_form}
use Rattle.index_names.specs.Steps.{added}

abbrev pub rest : Bool → List ℕ → List ℕ
rest is_apart [] = []
rest is_apart (c ∷ x) = added is_apart c ++ rest (not (is_ascii_alphanumeric c)) x

abbrev form_of : List (List ℕ) → List ℕ
form_of runs = join_with_byte 45 (map (map to_ascii_lowercase) runs)

-- the runs' form behind a hyphen, if there are any
abbrev hyphened : List (List ℕ) → List ℕ
hyphened [] = []
hyphened (run ∷ runs) = 45 ∷ form_of (run ∷ runs)

-- the runs' form, whether or not the first of them was begun
abbrev continued : Bool → List (List ℕ) → List ℕ
continued true runs = form_of runs
continued false runs = hyphened runs

form_of-with_before : (c : ℕ) (b : Bool) (runs : List (List ℕ)) → form_of (with_before c b runs) ≡ to_ascii_lowercase c ∷ continued b runs
form_of-with_before c true [] = refl
form_of-with_before c true (run ∷ []) = refl
form_of-with_before c true (run ∷ next ∷ runs) = refl
form_of-with_before c false [] = refl
form_of-with_before c false (run ∷ runs) = refl

hyphened-with_before : (c : ℕ) (b : Bool) (runs : List (List ℕ)) → hyphened (with_before c b runs) ≡ 45 ∷ form_of (with_before c b runs)
hyphened-with_before c true [] = refl
hyphened-with_before c true (run ∷ runs) = refl
hyphened-with_before c false runs = refl

mutual
  rest-apart : (x : List ℕ) → rest true x ≡ hyphened (runs_of x)
  rest-apart [] = refl
  rest-apart (c ∷ x) = elim (is_ascii_alphanumeric c) as
      (λ b. cond b (45 ∷ to_ascii_lowercase c ∷ []) [] ++ rest (not b) x
      ≡ hyphened (cond b (with_before c (begins_run x) (runs_of x)) (runs_of x))) [
        | true ↦ ap (λ y. 45 ∷ to_ascii_lowercase c ∷ y) (rest-joined x)
            ∙ ap (λ y. 45 ∷ y) (sym (form_of-with_before c (begins_run x) (runs_of x)))
            ∙ sym (hyphened-with_before c (begins_run x) (runs_of x))
        | false ↦ rest-apart x
      ]

  rest-joined : (x : List ℕ) → rest false x ≡ continued (begins_run x) (runs_of x)
  rest-joined [] = refl
  rest-joined (c ∷ x) = elim (is_ascii_alphanumeric c) as
      (λ b. cond b (to_ascii_lowercase c ∷ []) [] ++ rest (not b) x
      ≡ continued b (cond b (with_before c (begins_run x) (runs_of x)) (runs_of x))) [
        | true ↦ ap (λ y. to_ascii_lowercase c ∷ y) (rest-joined x) ∙ sym (form_of-with_before c (begins_run x) (runs_of x))
        | false ↦ rest-apart x
      ]

pub begins_run-name : (x : List ℕ) → is_project_name x ≡ true → begins_run x ≡ true
begins_run-name [] is_name = is_name
begins_run-name (c ∷ x) is_name = (and_parts _ _ (and_parts _ _ is_name).0).1

-- of a whole project name the normal form is to be written
pub rest-name : (x : List ℕ) → is_project_name x ≡ true → rest false x ≡ normal_form x
rest-name x is_name = rest-joined x ∙ ap (λ b. continued b (runs_of x)) (begins_run-name x is_name)

-- one more byte was written
pub rest-more : (x : List ℕ) (i : ℕ) (old new : List ℕ) (is_apart : Bool) (c : ℕ) → i < length x → get_or x i 0 ≡ c
    → new ≡ old ++ added is_apart c → old ++ rest is_apart (drop i x) ≡ rest false x
    → new ++ rest (not (is_ascii_alphanumeric c)) (drop (i + 1) x) ≡ rest false x
rest-more x i old new is_apart c in_range is_at is_new invariant =
    rw add-one
    (ap (λ y. y ++ rest (not (is_ascii_alphanumeric c)) (drop (suc i) x)) is_new
    ∙ append_assoc old (added is_apart c) _
    ∙ sym (ap (λ y. old ++ rest is_apart y) (drop-cons x i 0 in_range ∙ ap (λ y. y ∷ drop (suc i) x) is_at))
    ∙ invariant)

pub ruleset steps = (rest-more)
