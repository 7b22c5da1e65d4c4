-- A normal form is a project name, and its own normal form.
use Rattle.std.proofs.Common.{◌≡◌, ℕ, ◌+◌, ◌-◌, ◌≤◌, Bool, true, false, cond, not, ◌||◌, List, [], ◌∷◌, ◌++◌, Some, length, get_or, refl}
use Rattle.std.proofs.Common.{sym, ap, ◌∙◌, subst, arith, inl, inr}
use Rattle.std.specs.Char.{is_ascii_alphanumeric, to_ascii_lowercase}
use Rattle.std.specs.List.{list_all}
use Rattle.std.specs.Prelude.{slice_index}
use Rattle.std.proofs.lemmas.Bool.{and_parts, and_from, cases_Bool, cond-true, cond-false, false≢true, le-leb, leb-true}
use Rattle.std.proofs.lemmas.Bool.Decides.{nat_tests}
use Rattle.std.proofs.lemmas.Option.{none-some, same_Some}
use Rattle.std.proofs.lemmas.Str.Ascii.{lowercase-lowercase}
use Rattle.index_names.specs.Project.{is_separator, is_project_name, begins_run, normal_form, read_name, IsNormalName}
use Rattle.index_names.proofs.NormalForm.{rest, rest-name, begins_run-name}

abbrev is_name_byte : ℕ → Bool
is_name_byte c = is_ascii_alphanumeric c || is_separator c

alphanumeric-lower : (c : ℕ) → is_ascii_alphanumeric c ≡ true → is_ascii_alphanumeric (to_ascii_lowercase c) ≡ true
alphanumeric-lower c is_inner = grind (arith, nat_tests)

name_byte-lower : (c : ℕ) → is_ascii_alphanumeric c ≡ true → is_name_byte (to_ascii_lowercase c) ≡ true
name_byte-lower c is_inner = ap (λ b. b || is_separator (to_ascii_lowercase c)) (alphanumeric-lower c is_inner)

-- ---- what a byte adds

added-inner : (is_apart : Bool) (c : ℕ) → is_ascii_alphanumeric c ≡ true → (x : List ℕ)
    → rest is_apart (c ∷ x) ≡ cond is_apart (45 ∷ to_ascii_lowercase c ∷ rest false x) (to_ascii_lowercase c ∷ rest false x)
added-inner true c is_inner x = ap (λ b. cond b (45 ∷ to_ascii_lowercase c ∷ []) [] ++ rest (not b) x) is_inner
added-inner false c is_inner x = ap (λ b. cond b (to_ascii_lowercase c ∷ []) [] ++ rest (not b) x) is_inner

added-other : (is_apart : Bool) (c : ℕ) → is_ascii_alphanumeric c ≡ false → (x : List ℕ) → rest is_apart (c ∷ x) ≡ rest true x
added-other true c is_other x = ap (λ b. cond b (45 ∷ to_ascii_lowercase c ∷ []) [] ++ rest (not b) x) is_other
added-other false c is_other x = ap (λ b. cond b (to_ascii_lowercase c ∷ []) [] ++ rest (not b) x) is_other

-- ---- the normal form of a normal form

record IsKept (x : List ℕ) : Type 0 where
  joined : rest false (rest false x) ≡ rest false x
  apart : rest false (rest true x) ≡ rest true x

rest-lower : (c : ℕ) → is_ascii_alphanumeric c ≡ true → (is_apart : Bool) (x : List ℕ)
    → rest is_apart (to_ascii_lowercase c ∷ x)
    ≡ cond is_apart (45 ∷ to_ascii_lowercase c ∷ rest false x) (to_ascii_lowercase c ∷ rest false x)
rest-lower c is_inner is_apart x =
    added-inner is_apart (to_ascii_lowercase c) (alphanumeric-lower c is_inner) x
    ∙ ap (λ d. cond is_apart (45 ∷ d ∷ rest false x) (d ∷ rest false x)) (lowercase-lowercase c)

rest-rest : (x : List ℕ) → IsKept x
rest-rest [] = record { joined = refl; apart = refl }
rest-rest (c ∷ x) =
    let kept = rest-rest x in
    elim (cases_Bool (is_ascii_alphanumeric c)) [
      | inl is_inner ↦ record {
        joined = ap (rest false) (added-inner false c is_inner x) ∙ rest-lower c is_inner false (rest false x)
            ∙ ap (λ y. to_ascii_lowercase c ∷ y) kept.joined ∙ sym (added-inner false c is_inner x);
        apart = ap (rest false) (added-inner true c is_inner x) ∙ rest-lower c is_inner true (rest false x)
            ∙ ap (λ y. 45 ∷ to_ascii_lowercase c ∷ y) kept.joined ∙ sym (added-inner true c is_inner x);
      }
      | inr is_other ↦ record {
        joined = ap (rest false) (added-other false c is_other x) ∙ kept.apart ∙ sym (added-other false c is_other x);
        apart = ap (rest false) (added-other true c is_other x) ∙ kept.apart ∙ sym (added-other true c is_other x);
      }
    ]

-- ---- a normal form is a project name

record IsWithin (x : List ℕ) : Type 0 where
  joined : length (rest false x) ≤ length x
  apart : length (rest true x) ≤ length x + 1

length-rest : (x : List ℕ) → IsWithin x
length-rest [] = record { joined = omega arith; apart = omega arith }
length-rest (c ∷ x) =
    let within = length-rest x in
    elim (cases_Bool (is_ascii_alphanumeric c)) [
      | inl is_inner ↦ record {
        joined = omega (arith, within.joined, ap length (added-inner false c is_inner x));
        apart = omega (arith, within.joined, ap length (added-inner true c is_inner x));
      }
      | inr is_other ↦ record {
        joined = omega (arith, within.apart, ap length (added-other false c is_other x));
        apart = omega (arith, within.apart, ap length (added-other true c is_other x));
      }
    ]

name_bytes-rest : (is_apart : Bool) (x : List ℕ) → list_all is_name_byte (rest is_apart x) ≡ true
name_bytes-rest is_apart [] = refl
name_bytes-rest is_apart (c ∷ x) =
    elim (cases_Bool (is_ascii_alphanumeric c)) [
      | inl is_inner ↦ ap (list_all is_name_byte) (added-inner is_apart c is_inner x)
          ∙ begun is_apart (and_from _ _ (name_byte-lower c is_inner) (name_bytes-rest false x))
      | inr is_other ↦ ap (list_all is_name_byte) (added-other is_apart c is_other x) ∙ name_bytes-rest true x
    ] where
      begun : (b : Bool) → list_all is_name_byte (to_ascii_lowercase c ∷ rest false x) ≡ true
          → list_all is_name_byte (cond b (45 ∷ to_ascii_lowercase c ∷ rest false x) (to_ascii_lowercase c ∷ rest false x)) ≡ true
      begun true passes = passes
      begun false passes = passes

-- the last byte, or d if there is none
abbrev last_or : ℕ → List ℕ → ℕ
last_or d [] = d
last_or d (c ∷ x) = last_or c x

slice_index-last : (c : ℕ) (x : List ℕ) → get_or (c ∷ x) (length x) 0 ≡ last_or c x
slice_index-last c [] = refl
slice_index-last c (d ∷ x) = slice_index-last d x

last_or-begun : (b : Bool) (c d : ℕ) (y : List ℕ) → is_ascii_alphanumeric (last_or c y) ≡ true
    → is_ascii_alphanumeric (last_or d (cond b (45 ∷ c ∷ y) (c ∷ y))) ≡ true
last_or-begun true c d y is_inner = is_inner
last_or-begun false c d y is_inner = is_inner

-- if a text ends with a letter or digit, so does what is still to be written of its normal form
last_or-rest : (c : ℕ) (x : List ℕ) (is_apart : Bool) (d : ℕ) → is_ascii_alphanumeric (last_or c x) ≡ true
    → is_ascii_alphanumeric (last_or d (rest is_apart (c ∷ x))) ≡ true
last_or-rest c [] is_apart d is_inner =
    ap (λ y. is_ascii_alphanumeric (last_or d y)) (added-inner is_apart c is_inner [])
    ∙ last_or-begun is_apart (to_ascii_lowercase c) d [] (alphanumeric-lower c is_inner)
last_or-rest c (next ∷ x) is_apart d is_inner =
    elim (cases_Bool (is_ascii_alphanumeric c)) [
      | inl inner ↦
          ap (λ y. is_ascii_alphanumeric (last_or d y)) (added-inner is_apart c inner (next ∷ x))
          ∙ last_or-begun is_apart (to_ascii_lowercase c) d (rest false (next ∷ x))
          (last_or-rest next x false (to_ascii_lowercase c) is_inner)
      | inr other ↦ ap (λ y. is_ascii_alphanumeric (last_or d y)) (added-other is_apart c other (next ∷ x))
          ∙ last_or-rest next x true d is_inner
    ]

-- the normal form of a project name has a first byte
record HasFirst (x : List ℕ) : Type 0 where
  first : ℕ
  more : List ℕ
  is : x ≡ first ∷ more
  is_inner : is_ascii_alphanumeric first ≡ true

first-rest : (x : List ℕ) → begins_run x ≡ true → HasFirst (rest false x)
first-rest [] begins = absurd (false≢true begins)
first-rest (c ∷ x) begins =
    record { first = to_ascii_lowercase c; more = rest false x; is = added-inner false c begins x; is_inner = alphanumeric-lower c begins }

ends_inner : (x : List ℕ) → is_project_name x ≡ true → is_ascii_alphanumeric (last_or 0 (rest false x)) ≡ true
ends_inner [] is_name = absurd (false≢true is_name)
ends_inner (c ∷ x) is_name =
    let last : slice_index (c ∷ x) (length (c ∷ x) - 1) ≡ last_or c x =
    ap (λ k. get_or (c ∷ x) k 0) (omega arith) ∙ slice_index-last c x in
    last_or-rest c x false 0 (ap is_ascii_alphanumeric (sym last) ∙ (and_parts _ _ is_name).1)

project_name-from : (x : List ℕ) → HasFirst x → length x ≤ 128 → list_all is_name_byte x ≡ true → is_ascii_alphanumeric (last_or 0 x) ≡ true
    → is_project_name x ≡ true
project_name-from [] has short bytes ends = absurd (false≢true ends)
project_name-from (c ∷ x) has short bytes ends =
    let last : slice_index (c ∷ x) (length (c ∷ x) - 1) ≡ last_or c x =
    ap (λ k. get_or (c ∷ x) k 0) (omega arith) ∙ slice_index-last c x in
    let first : is_ascii_alphanumeric c ≡ true = ap (λ y. is_ascii_alphanumeric (get_or y 0 0)) has.is ∙ has.is_inner in
    and_from _ _ (and_from _ _ (and_from _ _ (and_from _ _ (le-leb 1 _ (omega arith)) (le-leb _ 128 short)) bytes) first)
    (ap is_ascii_alphanumeric last ∙ ends)

length-name : (x : List ℕ) → is_project_name x ≡ true → length x ≤ 128
length-name x is_name = leb-true (length x) 128 (and_parts _ _ (and_parts _ _ (and_parts _ _ (and_parts _ _ is_name).0).0).0).1

pub project_name-normal_form : (x : List ℕ) → is_project_name x ≡ true → is_project_name (normal_form x) ≡ true
project_name-normal_form x is_name =
    let within = length-rest x in
    subst (λ y. is_project_name y ≡ true) (rest-name x is_name)
    (project_name-from (rest false x) (first-rest x (begins_run-name x is_name)) (omega (arith, within.joined, length-name x is_name))
    (name_bytes-rest false x) (ends_inner x is_name))

pub normal_form-normal_form : (x : List ℕ) → is_project_name x ≡ true → normal_form (normal_form x) ≡ normal_form x
normal_form-normal_form x is_name =
    sym (rest-name (normal_form x) (project_name-normal_form x is_name))
    ∙ subst (λ y. rest false y ≡ y) (rest-name x is_name) (rest-rest x).joined

-- ---- what a name is read as is read as itself

pub read_name-name : (x : List ℕ) → is_project_name x ≡ true → read_name x ≡ Some (normal_form x)
unfolding read_name
read_name-name x is_name = cond-true _ _ _ is_name

pub project_name-read_name : (x name : List ℕ) → read_name x ≡ Some name → is_project_name x ≡ true
unfolding read_name
project_name-read_name x name reads = elim (cases_Bool (is_project_name x)) [
  | inl is_name ↦ is_name
  | inr no_name ↦ absurd (none-some name (sym (cond-false _ _ _ no_name) ∙ reads))
]

pub IsNormalName-normal_form : (x : List ℕ) → is_project_name x ≡ true → IsNormalName (normal_form x)
IsNormalName-normal_form x is_name =
    read_name-name (normal_form x) (project_name-normal_form x is_name) ∙ ap (λ y. Some y) (normal_form-normal_form x is_name)

pub IsNormalName-read_name : (x name : List ℕ) → read_name x ≡ Some name → IsNormalName name
IsNormalName-read_name x name reads =
    let is_name : is_project_name x ≡ true = project_name-read_name x name reads in
    let same : normal_form x ≡ name = same_Some _ name (sym (read_name-name x is_name) ∙ reads) in
    subst IsNormalName same (IsNormalName-normal_form x is_name)

pub ruleset normal_names = (IsNormalName-normal_form)
