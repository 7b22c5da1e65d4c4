-- A sum over the entries of a map: after one entry is put or each value is changed, and if each entry weighs nothing.
use Rattle.index_rules.proofs.Words.{◌≡◌, ℕ, ◌+◌, ◌≤◌, Bool, true, false, cond, not, refl, sym, ap, ◌∙◌, List, [], ◌∷◌, Some, None, T}
use Rattle.index_rules.proofs.Words.{arith, sum_by, find, option_map_or, Ordering, Less, Equal, Greater, eq_by_cmp, is_eq, is_lt, get}
use Rattle.index_rules.proofs.Words.{insert, entries, entries_sorted, get-entries, is_sorted, below_all, false≢true, eqb-true, eq-eqb}
use Rattle.index_rules.proofs.Words.{nat_list_cmp_total, sum_by-cons, Bytes, Map, bytes_cmp, change_values}
use Rattle.std.proofs.Common.{eqb}
use Rattle.std.specs.FinMap.{entries-insert, put}
use Rattle.std.specs.FinMap as fin
use Rattle.std.specs.FinMap.Entries.{by_order}
use Rattle.index_rules.proofs.KeyLemmas.{changed, entries-change_values}
use Rattle.index_rules.proofs.EntryLemmas.{both_hold, get-found, find-passes}

is_less : (o : Ordering) → T (is_lt o) → o ≡ Less
is_less Less p = refl
is_less Equal p = absurd p
is_less Greater p = absurd p

-- a key below one that is below all is none of them
find-below : {X : Type 0} (q k : Bytes) (es : List (Bytes × X)) → bytes_cmp q k ≡ Less → T (below_all bytes_cmp k es)
    → fin.find bytes_cmp q es ≡ None
find-below q k [] lower low = refl
find-below q k (e ∷ es) lower low =
    let parts = both_hold _ _ low in
    ap (λ o. cond (is_eq o) (Some e.1) (fin.find bytes_cmp q es)) (nat_list_cmp_total.trans q k e.0 lower (is_less _ parts.0))
    ∙ find-below q k es lower parts.1

module _ {X : Type 0} (weight : X → ℕ) where
  abbrev pub total_of : List (Bytes × X) → ℕ
  total_of es = sum_by (λ e. weight e.1) es

  total_of-cons : (e : Bytes × X) (es : List (Bytes × X)) → total_of (e ∷ es) ≡ weight e.1 + total_of es
  total_of-cons e es = sum_by-cons (λ (f : Bytes × X). weight f.1) e es

  total_of-put : (k : Bytes) (v : X) (es : List (Bytes × X)) → T (is_sorted bytes_cmp es)
      → total_of (put bytes_cmp k v es) + option_map_or weight (fin.find bytes_cmp k es) 0 ≡ total_of es + weight v
  total_of-put k v [] sorted = omega (arith, total_of-cons (k, v) [])
  total_of-put k v (e ∷ es) sorted =
      let parts = both_hold _ _ sorted in
      elim (bytes_cmp k e.0) as (λ o. bytes_cmp k e.0 ≡ o
      → total_of (by_order o ((k, v) ∷ e ∷ es) ((e.0, v) ∷ es) (e ∷ put bytes_cmp k v es)) + option_map_or weight
      (cond (is_eq o) (Some e.1) (fin.find bytes_cmp k es)) 0 ≡ total_of (e ∷ es) + weight v) [
        | Less ↦ λ lower.
            let gone : option_map_or weight (fin.find bytes_cmp k es) 0 ≡ 0 =
            ap (λ o. option_map_or weight o 0) (find-below k e.0 es lower parts.0) in
            omega (arith, total_of-cons (k, v) (e ∷ es), gone)
        | Equal ↦ λ _. omega (arith, total_of-cons (e.0, v) es, total_of-cons e es)
        | Greater ↦ λ _. omega (arith, total_of-put k v es parts.1, total_of-cons e (put bytes_cmp k v es), total_of-cons e es)
      ] refl

  -- an entry that is put takes the weight of the one before it
  pub total-insert : (m : Map X) (k : Bytes) (v : X)
      → total_of (entries (insert m k v)) + option_map_or weight (get m k) 0 ≡ total_of (entries m) + weight v
  total-insert m k v =
      ap (λ es. total_of es + option_map_or weight (get m k) 0) (entries-insert nat_list_cmp_total m k v)
      ∙ ap (λ o. total_of (put bytes_cmp k v (entries m)) + option_map_or weight o 0) (get-entries m k)
      ∙ total_of-put k v (entries m) (entries_sorted m)

  total_of-at : (k : Bytes) (v : X) (es : List (Bytes × X)) → fin.find bytes_cmp k es ≡ Some v → weight v ≤ total_of es
  total_of-at k v [] found = cc
  total_of-at k v (e ∷ es) found = elim (eq_by_cmp bytes_cmp k e.0) as (λ b. cond b (Some e.1) (fin.find bytes_cmp k es) ≡ Some v
      → weight v ≤ total_of (e ∷ es)) [
        | true ↦ λ found. let is : e.1 ≡ v = cc in omega (arith, total_of-cons e es, ap weight is)
        | false ↦ λ found. omega (arith, total_of-cons e es, total_of-at k v es found)
      ] found

  -- an entry weighs no more than all
  pub total-at : (m : Map X) (k : Bytes) (v : X) → get m k ≡ Some v → weight v ≤ total_of (entries m)
  total-at m k v at = total_of-at k v (entries m) (sym (get-entries m k) ∙ at)

  total_of-changed : (change : X → X) (es : List (Bytes × X)) → ((v : X) → weight (change v) ≡ weight v)
      → total_of (changed change es) ≡ total_of es
  total_of-changed change [] same_weight = refl
  total_of-changed change (e ∷ es) same_weight =
      omega (
        arith,
        total_of-cons (e.0, change e.1) (changed change es),
        total_of-cons e es,
        same_weight e.1,
        total_of-changed change es same_weight,
      )

  -- if each value weighs what it did, so do all
  pub total-changed : (change : X → X) (m : Map X) → ((v : X) → weight (change v) ≡ weight v)
      → total_of (entries (change_values change m)) ≡ total_of (entries m)
  total-changed change m same_weight = ap total_of (entries-change_values change m) ∙ total_of-changed change (entries m) same_weight

  weighs : Bytes × X → Bool
  weighs e = not (eqb (weight e.1) 0)

  total_of-none : (es : List (Bytes × X)) → find weighs es ≡ None → total_of es ≡ 0
  unfolding weighs
  total_of-none [] none = refl
  total_of-none (e ∷ es) none = elim (eqb (weight e.1) 0) as (λ b. eqb (weight e.1) 0 ≡ b → cond (not b) (Some e) (find weighs es) ≡ None
      → total_of (e ∷ es) ≡ 0) [
        | true ↦ λ is none. omega (arith, total_of-cons e es, eqb-true (weight e.1) 0 is, total_of-none es none)
        | false ↦ λ _ none. cc
      ] refl none

  -- if each entry weighs nothing, so do all
  pub total-zero : (m : Map X) → ((k : Bytes) (v : X) → get m k ≡ Some v → weight v ≡ 0) → total_of (entries m) ≡ 0
  unfolding weighs
  total-zero m each = elim (find weighs (entries m)) as (λ o. find weighs (entries m) ≡ o → total_of (entries m) ≡ 0) [
    | None ↦ λ none. total_of-none (entries m) none
    | Some e ↦ λ found.
        let nothing : weight e.1 ≡ 0 = each e.0 e.1 (get-found m weighs e found) in
        absurd (false≢true (ap not (sym (eq-eqb (weight e.1) 0 nothing)) ∙ find-passes weighs (entries m) e found))
  ] refl
