-- SELECT .. ORDER BY a text: what is read of the rows of the answer is in byte order.
use Rattle.index_sql_schema.proofs.Words.{◌≡◌, ◌+◌, ℕ, Bool, cond, All, List, [], ◌∷◌, length, map, filter, refl, sym, ap, ap₂, subst, ◌∙◌}
use Rattle.index_sql_schema.proofs.Words.{arith, IsPermutation, IsSorted, Ordering, Less, Equal, Greater, AllByRecursion, list_all}
use Rattle.index_sql_schema.proofs.Words.{All-permutation, IsPermutation-map, Null, Text, Binary, Key, Row, Trees, Term, Env, col, eval_all}
use Rattle.index_sql_schema.proofs.Words.{holds, Join, Output, IsAnswer, matches_as, output_cmp, map-map, all-filter, all_map, Bytes}
use Rattle.index_sql_schema.proofs.Words.{bytes_cmp}
use Rattle.std.proofs.Common.{◌<◌, get_or}
use Rattle.std.proofs.Common.{is_lt}
use Rattle.std.specs.Ordering.{ordering_then}
use Rattle.std.proofs.lemmas.List.{length-map, get_or-map}
use Rattle.std.proofs.lemmas.List.Elements.{All-from_recursion}
use Rattle.sqlite_value.specs.Keys.{ascending}
use Rattle.sqlite_value.proofs.OrderLemmas.{value_cmp-Text}
use Rattle.sqlite_sql.specs.Query.{key_cmp}
use Rattle.index_sql_schema.proofs.QueryShapes.{from_with}
use Rattle.index_sql_schema.proofs.SelectLemmas.{read, shown_of}

-- ORDER BY a column of the table
abbrev pub by_column : ℕ → List (Term × Key)
by_column place = (col 1 place, ascending Binary) ∷ []

-- a list is sorted as its images are
IsSorted-map : {A B : Type 0} (none : A) (cmp_a : A → A → Ordering) (cmp_b : B → B → Ordering) (f : A → B) (P : A → Type 0)
    → ((x y : A) → P x → P y → cmp_a x y ≡ cmp_b (f x) (f y))
    → (xs : List A) → All P xs → IsSorted cmp_a xs → IsSorted cmp_b (map f xs)
IsSorted-map none cmp_a cmp_b f P same xs all sorted = λ k d low high.
    let within : k + 1 < length xs = omega (arith, length-map xs f, high) in
    let before : k < length xs = omega (arith, within) in
    let here = get_or-map f xs k none d before in
    let next = get_or-map f xs (k + 1) none d within in
    ap₂ (λ a b. is_lt (cmp_b a b)) next here
    ∙ sym (ap is_lt (same (get_or xs (k + 1) none) (get_or xs k none) (all (k + 1) none within) (all k none before)))
    ∙ sorted k none low within

then_equal : (o : Ordering) → ordering_then o Equal ≡ o
then_equal Less = refl
then_equal Equal = refl
then_equal Greater = refl

module _ (t : ℕ) (more : Join) (tests project : List Term) (place : ℕ) (db : Trees) (params : Row) (env_of : Row → Env) (p : Row → Bool)
    (ends : AllByRecursion (λ r. matches_as Null db tests more (params ∷ r ∷ [])
    ≡ cond (list_all (holds (env_of r)) tests) (env_of r ∷ []) []) (db t))
    (passes : AllByRecursion (λ r. list_all (holds (env_of r)) tests ≡ p r) (db t)) where
  -- what a row of the answer is read as holds the text that the answer is ordered by
  module _ {B : Type 0} (make : Row → B) (key_of : B
      → Bytes) (keyed : AllByRecursion (λ r. eval_all (col 1 place ∷ []) (env_of r)
      ≡ Text (key_of (make (eval_all project (env_of r)))) ∷ []) (db t)) where
    abbrev made : Output → B
    made o = make o.1

    abbrev IsKeyed : Output → Type 0
    IsKeyed o = o.0 ≡ Text (key_of (made o)) ∷ []

    keyed_cmp : (a b : Output) → IsKeyed a → IsKeyed b
        → output_cmp (from_with t more tests project (by_column place)) a b ≡ bytes_cmp (key_of (made a)) (key_of (made b))
    keyed_cmp a b h k = ap₂ (key_cmp 0 (ascending Binary ∷ [])) h k ∙ then_equal _ ∙ value_cmp-Text (key_of (made a)) (key_of (made b))

    pub listed : (rows : List Row) → IsAnswer (from_with t more tests project (by_column place)) db params rows
        → IsPermutation (map (λ r. make (eval_all project (env_of r))) (filter p (db t))) (map make rows)
        × IsSorted (λ a b. bytes_cmp (key_of a) (key_of b)) (map make rows)
    listed rows a =
        let found = read t more tests project (by_column place) db params env_of p ends passes rows a in
        let each = shown_of t more tests project (by_column place) db params env_of p ends passes in
        let matched = filter p (db t) in
        let all = All-permutation IsKeyed (map each matched) found.0 found.1
        (All-from_recursion IsKeyed (map each matched)
        (all_map IsKeyed each matched (all-filter (λ r. IsKeyed (each r)) p (db t) keyed))) in
        let same : IsPermutation (map (λ r. make (eval_all project (env_of r))) matched) (map made found.0) =
        subst (λ l. IsPermutation l (map made found.0)) (map-map made each matched) (IsPermutation-map made _ _ found.1) in
        let sorted = IsSorted-map ([], []) (output_cmp (from_with t more tests project (by_column place)))
        (λ a b. bytes_cmp (key_of a) (key_of b)) made IsKeyed keyed_cmp found.0 all found.2 in
        let is : map make rows ≡ map made found.0 = ap (map make) found.3 ∙ map-map make (λ (o : Output). o.1) found.0 in
        (subst (IsPermutation _) (sym is) same, subst (IsSorted (λ a b. bytes_cmp (key_of a) (key_of b))) (sym is) sorted)
