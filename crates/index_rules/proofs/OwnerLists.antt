-- The owners of a name as a list: it strictly rises, and has each of them.
use Rattle.index_rules.proofs.Words.{◌≡◌, true, false, cond, ◌&&◌, ◌||◌, refl, sym, ap, ◌∙◌, List, [], ◌∷◌, map, Ordering, Less, Equal}
use Rattle.index_rules.proofs.Words.{Greater, eq_by_cmp, is_eq, IsTotalOrder, AllByRecursion, list_any, IsStrictlySortedBy, IsAntisymmetric}
use Rattle.index_rules.proofs.Words.{contains_key-keys, keys, nat_list_cmp_total, bytes_eq-Decides, is_eq-slice_cmp, exact_bytes, Bytes}
use Rattle.index_rules.proofs.Words.{same, bytes_cmp, pair_cmp, Tables, owns_in}
use Rattle.std.proofs.Common.{filter}
use Rattle.std.specs.Ordering.{ordering_then}
use Rattle.std.specs.Cmp.{tied_itself}
use Rattle.std.proofs.lemmas.Cmp.{then_total, on_total}
use Rattle.std.proofs.lemmas.Map.Lookups.{exact_pairs}
use Rattle.index_rules.specs.Tables.{owners_in}
use Rattle.index_rules.proofs.Rising.{IsStrictlySortedBy-keys}

pub same-is : (a b : Bytes) → same a b ≡ true → a ≡ b
same-is a b h = (bytes_eq-Decides a b).0 h

-- ---- pairs of texts as keys

pub pair_total : IsTotalOrder pair_cmp
pair_total = then_total (on_total (λ p. p.0) nat_list_cmp_total) (on_total (λ p. p.1) nat_list_cmp_total)

pub exact_pair : IsAntisymmetric pair_cmp
exact_pair = exact_pairs bytes_cmp bytes_cmp exact_bytes exact_bytes

is_eq-then : (a b : Ordering) → is_eq (ordering_then a b) ≡ (is_eq a && is_eq b)
is_eq-then Less b = refl
is_eq-then Equal b = refl
is_eq-then Greater b = refl

pub same_pair : (p q : Bytes × Bytes) → eq_by_cmp pair_cmp p q ≡ (same p.0 q.0 && same p.1 q.1)
same_pair p q = is_eq-then (bytes_cmp p.0 q.0) (bytes_cmp p.1 q.1) ∙ (λ i. is_eq-slice_cmp p.0 q.0 i && is_eq-slice_cmp p.1 q.1 i)

-- ---- the second parts of the pairs with one first part

abbrev pub seconds : Bytes → List (Bytes × Bytes) → List Bytes
seconds name pairs = map (λ p. p.1) (filter (λ p. same name p.0) pairs)

-- two pairs with one first part are in the order of their second parts
with_one_first : (p q : Bytes × Bytes) → p.0 ≡ q.0 → pair_cmp p q ≡ Less → bytes_cmp p.1 q.1 ≡ Less
with_one_first p q e h = sym (ap (λ o. ordering_then o (bytes_cmp p.1 q.1))
    (ap (bytes_cmp p.0) (sym e) ∙ tied_itself nat_list_cmp_total p.0)) ∙ h

above : (name : Bytes) (p : Bytes × Bytes) (ps : List (Bytes × Bytes)) → same name p.0 ≡ true → AllByRecursion (λ q. pair_cmp p q ≡ Less) ps
    → AllByRecursion (λ u. bytes_cmp p.1 u ≡ Less) (seconds name ps)
above name p [] one h = tt
above name p (q ∷ ps) one h =
    elim (same name q.0) as (λ b. same name q.0 ≡ b
    → AllByRecursion (λ u. bytes_cmp p.1 u ≡ Less)
    (map (λ x. x.1) (cond b (q ∷ filter (λ x. same name x.0) ps) (filter (λ x. same name x.0) ps)))) [
      | true ↦ λ t. (with_one_first p q (sym (same-is name p.0 one) ∙ same-is name q.0 t) h.0, above name p ps one h.1)
      | false ↦ λ _. above name p ps one h.1
    ] refl

rises : (name : Bytes) (ps : List (Bytes × Bytes)) → IsStrictlySortedBy pair_cmp ps → IsStrictlySortedBy bytes_cmp (seconds name ps)
unfolding IsStrictlySortedBy
rises name [] h = tt
rises name (p ∷ ps) h =
    elim (same name p.0) as (λ b. same name p.0 ≡ b
    → IsStrictlySortedBy bytes_cmp (map (λ x. x.1) (cond b (p ∷ filter (λ x. same name x.0) ps) (filter (λ x. same name x.0) ps)))) [
      | true ↦ λ t. (above name p ps t h.0, rises name ps h.1)
      | false ↦ λ _. rises name ps h.1
    ] refl

pub list_any-seconds : (name user : Bytes) (ps : List (Bytes × Bytes))
    → list_any (same user) (seconds name ps) ≡ list_any (eq_by_cmp pair_cmp (name, user)) ps
list_any-seconds name user [] = refl
list_any-seconds name user (p ∷ ps) =
    elim (same name p.0) as (λ b. list_any (same user)
    (map (λ x. x.1) (cond b (p ∷ filter (λ x. same name x.0) ps) (filter (λ x. same name x.0) ps)))
    ≡ ((b && same user p.1) || list_any (same user) (seconds name ps))) [ true ↦ refl | false ↦ refl ]
    ∙ (λ i. sym (same_pair (name, user) p) i || list_any-seconds name user ps i)

-- ---- the owners of a name

pub IsStrictlySortedBy-owners_in : (T : Tables) (name : Bytes) → IsStrictlySortedBy bytes_cmp (owners_in T name)
IsStrictlySortedBy-owners_in T name = rises name (keys T.owners) (IsStrictlySortedBy-keys pair_cmp T.owners)

pub list_any-owners_in : (T : Tables) (name user : Bytes) → list_any (same user) (owners_in T name) ≡ owns_in T name user
list_any-owners_in T name user = list_any-seconds name user (keys T.owners) ∙ sym (contains_key-keys T.owners (name, user))
