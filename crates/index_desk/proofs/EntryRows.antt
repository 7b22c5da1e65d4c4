-- Rows of the entries of a map that pass a test, and the keys of these.
use Rattle.index_desk.proofs.Words.{◌≡◌, Bool, true, false, cond, ◌&&◌, ◌||◌, refl, sym, ap, ◌∙◌, List, [], ◌∷◌, Some, None, is_some, map}
use Rattle.index_desk.proofs.Words.{filter, option_map_or, AllByRecursion, list_any, IsStrictlySortedBy, get, entries, and_parts, Bytes}
use Rattle.index_desk.proofs.Words.{same, bytes_cmp, same-refl, same-is}
use Rattle.std.proofs.Common.{T}
use Rattle.std.proofs.Common.{find}
use Rattle.std.specs.Ordering.{eq_by_cmp, is_eq, is_lt}
use Rattle.std.specs.declared.cmp.Ordering.{Ordering}
use Rattle.std.specs.declared.cmp.Ordering.TheVariants.{Less, Equal, Greater}
use Rattle.std.specs.FinMap.{entries_sorted, get-entries, is_sorted}
use Rattle.std.specs.FinMap as fin
use Rattle.std.specs.FinMap.Entries.{below_all}
use Rattle.std.proofs.lemmas.Map.Text.{is_eq-slice_cmp}
use Rattle.index_rules.specs.Maps.{Map}
use Rattle.index_rules.proofs.EntryLemmas.{both_hold, find-passes, get-found, get-missed}
use Rattle.index_rules.proofs.Rising.{IsStrictlySortedBy-keys}
use Rattle.index_desk.specs.Lists.{AreThose}

-- ---- what holds of each entry that is found by its key

is_less : (o : Ordering) → T (is_lt o) → o ≡ Less
is_less Less p = refl
is_less Equal p = absurd p
is_less Greater p = absurd p

module _ {X : Type 0} where
  -- a key below all is none of them
  find-below : (k : Bytes) (es : List (Bytes × X)) → T (below_all bytes_cmp k es) → fin.find bytes_cmp k es ≡ None
  find-below k [] low = refl
  find-below k (e ∷ es) low =
      let parts = both_hold _ _ low in
      ap (λ o. cond (is_eq o) (Some e.1) (fin.find bytes_cmp k es)) (is_less _ parts.0) ∙ find-below k es parts.1

  found_later : (k : Bytes) (v : X) (e : Bytes × X) (es : List (Bytes × X)) → T (below_all bytes_cmp e.0 es)
      → fin.find bytes_cmp k es ≡ Some v → fin.find bytes_cmp k (e ∷ es) ≡ Some v
  found_later k v e es low found = elim (eq_by_cmp bytes_cmp k e.0) as (λ b. eq_by_cmp bytes_cmp k e.0 ≡ b
      → cond b (Some e.1) (fin.find bytes_cmp k es) ≡ Some v) [
        | true ↦ λ tied.
            let key : k ≡ e.0 = same-is k e.0 (sym (is_eq-slice_cmp k e.0) ∙ tied) in
            let none : fin.find bytes_cmp k es ≡ None = ap (λ q. fin.find bytes_cmp q es) key ∙ find-below e.0 es low in
            cc
        | false ↦ λ _. found
      ] refl

  each_at : (P : Bytes × X → Type 0) (es : List (Bytes × X)) → T (is_sorted bytes_cmp es)
      → ((k : Bytes) (v : X) → fin.find bytes_cmp k es ≡ Some v → P (k, v)) → AllByRecursion P es
  each_at P [] sorted each = tt
  each_at P (e ∷ es) sorted each =
      let parts = both_hold _ _ sorted in (
        each e.0 e.1 (ap (λ b. cond b (Some e.1) (fin.find bytes_cmp e.0 es)) (is_eq-slice_cmp e.0 e.0 ∙ same-refl e.0)),
        each_at P es parts.1 (λ k v found. each k v (found_later k v e es parts.0 found)),
      )

  pub each_entry : (P : Bytes × X → Type 0) (m : Map X) → ((k : Bytes) (v : X) → get m k ≡ Some v → P (k, v)) → AllByRecursion P (entries m)
  each_entry P m each = each_at P (entries m) (entries_sorted m) (λ k v found. each k v (get-entries m k ∙ found))

-- ---- the keys of the entries that pass

module _ {X : Type 0} (test : Bytes × X → Bool) where
  abbrev pub keys_where : List (Bytes × X) → List Bytes
  keys_where es = map (λ e. e.0) (filter test es)

  all_where : (Q : Bytes → Type 0) (es : List (Bytes × X)) → AllByRecursion Q (map (λ e. e.0) es) → AllByRecursion Q (keys_where es)
  all_where Q [] all = tt
  all_where Q (e ∷ es) all = elim (test e) as (λ b. AllByRecursion Q (map (λ e. e.0) (cond b (e ∷ filter test es) (filter test es)))) [
    | true ↦ (all.0, all_where Q es all.1)
    | false ↦ all_where Q es all.1
  ]

  rises : (es : List (Bytes × X)) → IsStrictlySortedBy bytes_cmp (map (λ e. e.0) es) → IsStrictlySortedBy bytes_cmp (keys_where es)
  unfolding IsStrictlySortedBy
  rises [] up = tt
  rises (e ∷ es) up = elim (test e) as (λ b. IsStrictlySortedBy bytes_cmp (map (λ e. e.0) (cond b (e ∷ filter test es) (filter test es)))) [
    | true ↦ (all_where (λ k. bytes_cmp e.0 k ≡ Less) es up.0, rises es up.1)
    | false ↦ rises es up.1
  ]

  abbrev passes_at : Bytes → Bytes × X → Bool
  passes_at key e = same key e.0 && test e

  list_any-found : (key : Bytes) (es : List (Bytes × X)) → list_any (same key) (keys_where es) ≡ is_some (find (passes_at key) es)
  list_any-found key [] = refl
  list_any-found key (e ∷ es) =
      let rest = list_any-found key es in
      elim (test e) as (λ b. list_any (same key) (map (λ e. e.0) (cond b (e ∷ filter test es) (filter test es)))
      ≡ is_some (cond (same key e.0 && b) (Some e) (find (passes_at key) es))) [
        | true ↦ elim (same key e.0) as (λ c. (c || list_any (same key) (keys_where es))
            ≡ is_some (cond (c && true) (Some e) (find (passes_at key) es))) [ true ↦ refl | false ↦ rest ]
        | false ↦ elim (same key e.0) as (λ c. list_any (same key) (keys_where es)
            ≡ is_some (cond (c && false) (Some e) (find (passes_at key) es))) [ true ↦ rest | false ↦ rest ]
      ]

  -- a key is among them if what is found by it passes
  list_any-keys_where : (m : Map X) (key : Bytes)
      → list_any (same key) (keys_where (entries m)) ≡ option_map_or (λ v. test (key, v)) (get m key) false
  list_any-keys_where m key =
      list_any-found key (entries m)
      ∙ elim (find (passes_at key) (entries m)) as (λ o. find (passes_at key) (entries m) ≡ o
      → is_some o ≡ option_map_or (λ v. test (key, v)) (get m key) false) [
        | None ↦ λ missed. elim (get m key) as (λ o. get m key ≡ o → false ≡ option_map_or (λ v. test (key, v)) o false) [
          | None ↦ λ _. refl
          | Some v ↦ λ there. sym (ap (λ b. b && test (key, v)) (sym (same-refl key)) ∙ get-missed m (passes_at key) key v missed there)
        ] refl
        | Some e ↦ λ found.
            let parts = and_parts _ _ (find-passes (passes_at key) (entries m) e found) in
            let is : key ≡ e.0 = same-is key e.0 parts.0 in
            let there : get m key ≡ Some e.1 = ap (get m) is ∙ get-found m (passes_at key) e found in
            sym (ap (λ o. option_map_or (λ v. test (key, v)) o false) there ∙ ap (λ k. test (k, e.1)) is ∙ parts.1)
      ] refl

  pub AreThose-keys_where : (m : Map X) (those : Bytes → Bool)
      → ((key : Bytes) → option_map_or (λ v. test (key, v)) (get m key) false ≡ those key) → AreThose those (keys_where (entries m))
  AreThose-keys_where m those at = (rises (entries m) (IsStrictlySortedBy-keys bytes_cmp m), λ key. list_any-keys_where m key ∙ at key)

  -- rows of entries that are what their keys make are the rows of the keys
  pub rows_by_key : {R : Type 0} (row : Bytes × X → R) (by : Bytes → R) (es : List (Bytes × X))
      → AllByRecursion (λ e. test e ≡ true → row e ≡ by e.0) es → map row (filter test es) ≡ map by (keys_where es)
  rows_by_key row by [] all = refl
  rows_by_key row by (e ∷ es) all = elim (test e) as (λ b. test e ≡ b
      → map row (cond b (e ∷ filter test es) (filter test es)) ≡ map by (map (λ e. e.0) (cond b (e ∷ filter test es) (filter test es)))) [
        | true ↦ λ passes i. all.0 passes i ∷ rows_by_key row by es all.1 i
        | false ↦ λ _. rows_by_key row by es all.1
      ] refl

-- rows that pass are the rows of the entries whose rows pass
pub filter-rows : {E R : Type 0} (test : R → Bool) (row : E → R) (es : List E)
    → filter test (map row es) ≡ map row (filter (λ e. test (row e)) es)
filter-rows test row [] = refl
filter-rows test row (e ∷ es) = elim (test (row e)) as
    (λ b. cond b (row e ∷ filter test (map row es)) (filter test (map row es))
    ≡ map row (cond b (e ∷ filter (λ e. test (row e)) es) (filter (λ e. test (row e)) es))) [
      | true ↦ ap (λ rows. row e ∷ rows) (filter-rows test row es)
      | false ↦ filter-rows test row es
    ]
