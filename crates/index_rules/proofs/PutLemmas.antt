-- What each key of a map finds after one entry is put, after one is taken away, and after each value is changed.
use Rattle.index_rules.proofs.Words.{◌≡◌, false, cond, inl, inr, refl, sym, ap, ◌∙◌, subst, Option, Some, None, is_some, option_map}
use Rattle.index_rules.proofs.Words.{option_and_then, get, insert, remove, same_map, nat_list_cmp_total, exact_bytes, false≢true}
use Rattle.index_rules.proofs.Words.{cases_Bool, Bytes, Map, same, change_values}
use Rattle.index_rules.proofs.KeyLemmas.{same-refl, same-sym, cases_same, get-put, get-without, get-change_values}

pub other-sym : (a b : Bytes) → same a b ≡ false → same b a ≡ false
other-sym a b other = elim (cases_Bool (same b a)) [
  | inl e ↦ absurd (false≢true (sym other ∙ same-sym b a e))
  | inr e ↦ e
]

module _ {X : Type 0} (m : Map X) (k : Bytes) (v : X) where
  pub get-put_here : get (insert m k v) k ≡ Some v
  get-put_here = get-put m k v k ∙ ap (λ b. cond b (Some v) (get m k)) (same-refl k)

  pub get-put_other : (q : Bytes) → same q k ≡ false → get (insert m k v) q ≡ get m q
  get-put_other q other = get-put m k v q ∙ ap (λ b. cond b (Some v) (get m q)) other

  -- what holds of the key with the new value, and of each other key with what it had, holds of each
  pub each_put : (P : Bytes → Option X → Type 0) → P k (Some v) → ((q : Bytes) → same q k ≡ false → P q (get m q)) → (q : Bytes)
      → P q (get (insert m k v) q)
  each_put P here others q = elim (cases_same q k) [
    | inl e ↦ subst (λ x. P x (get (insert m k v) x)) (sym e) (subst (P k) (sym get-put_here) here)
    | inr other ↦ subst (P q) (sym (get-put_other q other)) (others q other)
  ]

module _ {X : Type 0} (m : Map X) (k : Bytes) where
  pub get-without_here : get (remove m k) k ≡ None
  get-without_here = get-without m k k ∙ ap (λ b. cond b None (get m k)) (same-refl k)

  pub get-without_other : (q : Bytes) → same q k ≡ false → get (remove m k) q ≡ get m q
  get-without_other q other = get-without m k q ∙ ap (λ b. cond b None (get m q)) other

  -- what holds of the key with nothing, and of each other key with what it had, holds of each
  pub each_without : (P : Bytes → Option X → Type 0) → P k None → ((q : Bytes) → same q k ≡ false → P q (get m q)) → (q : Bytes)
      → P q (get (remove m k) q)
  each_without P here others q = elim (cases_same q k) [
    | inl e ↦ subst (λ x. P x (get (remove m k) x)) (sym e) (subst (P k) (sym get-without_here) here)
    | inr other ↦ subst (P q) (sym (get-without_other q other)) (others q other)
  ]

-- to take away what is not there changes nothing, so it is enough to take away what was found
pub without_found : {X : Type 0} (m : Map X) (read : Option Bytes) (k : Bytes) → read ≡ Some k
    → cond (is_some (option_and_then (get m) read)) (remove m k) m ≡ remove m k
without_found {X = X} m read k reads = ap (λ r. cond (is_some (option_and_then (get m) r)) (remove m k) m) reads ∙ by (get m k) refl
  where
    by : (found : Option X) → get m k ≡ found → cond (is_some found) (remove m k) m ≡ remove m k
    by None none = same_map nat_list_cmp_total exact_bytes _ _
        (λ q. sym (each_without m k (λ q found. found ≡ get m q) (sym none) (λ q _. refl) q))
    by (Some v) there = refl

-- what holds of each changed value holds of each that is found
pub each_changed : {X : Type 0} (change : X → X) (m : Map X) (P : Bytes → X → Type 0)
    → ((q : Bytes) (v : X) → get m q ≡ Some v → P q (change v))
    → (q : Bytes) (v : X) → get (change_values change m) q ≡ Some v → P q v
each_changed {X = X} change m P each q v at = by (get m q) refl (sym (get-change_values change m q) ∙ at)
  where
    by : (found : Option X) → get m q ≡ found → option_map change found ≡ Some v → P q v
    by None there at = cc
    by (Some before) there at = let is : change before ≡ v = cc in subst (P q) is (each q before there)
