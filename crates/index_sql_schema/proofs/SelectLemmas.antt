-- What a query over one table shows, by the rows of the table.
use Rattle.index_sql_schema.proofs.Words.{◌≡◌, ℕ, Bool, true, false, cond, List, [], ◌∷◌, ◌++◌, map, filter, flat_map, refl, sym, ap, subst}
use Rattle.index_sql_schema.proofs.Words.{◌∙◌, list_all, AllByRecursion, Null, Row, Key, Trees, Term, Env, holds, eval_all, Join, inner}
use Rattle.index_sql_schema.proofs.Words.{matches_as, IsAnswer, output_cmp, Output, map-map, all_map, all_weaker, all-filter}
use Rattle.std.specs.List.Sorted.{IsPermutation, IsSorted}
use Rattle.sqlite_sql.specs.Query.{output}
use Rattle.index_sql_schema.proofs.Permutations.{all_permutation}
use Rattle.index_sql_schema.proofs.QueryShapes.{from_with}

-- `more` is looked up for each row: it fills slots, and drops and doubles no row
module _ (t : ℕ) (more : Join) (tests project : List Term) (order : List (Term × Key)) (db : Trees) (params : Row) (env_of : Row
    → Env) (p : Row → Bool)
    (ends : AllByRecursion (λ r. matches_as Null db tests more (params ∷ r ∷ [])
    ≡ cond (list_all (holds (env_of r)) tests) (env_of r ∷ []) []) (db t))
    (passes : AllByRecursion (λ r. list_all (holds (env_of r)) tests ≡ p r) (db t)) where
  abbrev LooksOnce : Row → Type 0
  LooksOnce r = matches_as Null db tests more (params ∷ r ∷ []) ≡ cond (list_all (holds (env_of r)) tests) (env_of r ∷ []) []

  each : (rs : List Row) → AllByRecursion LooksOnce rs → AllByRecursion (λ r. list_all (holds (env_of r)) tests ≡ p r) rs
      → flat_map (λ r. matches_as Null db tests more (params ∷ r ∷ [])) rs ≡ map env_of (filter p rs)
  each [] looks all = refl
  each (r ∷ rs) looks all = ap (λ l. l ++ flat_map (λ r. matches_as Null db tests more (params ∷ r ∷ [])) rs)
      (looks.0 ∙ ap (λ b. cond b (env_of r ∷ []) []) all.0) ∙ go (p r) (each rs looks.1 all.1)
    where
      go : (b : Bool) → flat_map (λ r. matches_as Null db tests more (params ∷ r ∷ [])) rs ≡ map env_of (filter p rs)
          → (cond b (env_of r ∷ []) [] ++ flat_map (λ r. matches_as Null db tests more (params ∷ r ∷ [])) rs)
          ≡ map env_of (cond b (r ∷ filter p rs) (filter p rs))
      go true rest = ap (λ l. env_of r ∷ l) rest
      go false rest = rest

  pub found : matches_as Null db tests (inner t more) (params ∷ []) ≡ map env_of (filter p (db t))
  found = each (db t) ends passes

  abbrev pub shown_of : Row → Output
  shown_of r = output (from_with t more tests project order) (env_of r)

  -- the rows are the matches in some order that ORDER BY allows
  pub read : (rows : List Row) → IsAnswer (from_with t more tests project order) db params rows
      → (ordered : List Output) × IsPermutation (map shown_of (filter p (db t))) ordered
      × IsSorted (output_cmp (from_with t more tests project order)) ordered × (rows ≡ map (λ (o : Output). o.1) ordered)
  read rows a =
      let staged = a.grouped ∙ found in
      let kept : a.kept ≡ map shown_of (filter p (db t)) =
      a.distinct ∙ ap (map (output (from_with t more tests project order))) staged ∙ map-map _ env_of (filter p (db t)) in
      (a.ordered, subst (λ k. IsPermutation k a.ordered) kept a.same, a.sorted, a.shown)

  -- what is known of each row of the table is known of those that are shown
  pub read_all : (P Q : Row → Type 0) → ((r : Row) → P r → Q (eval_all project (env_of r))) → (rows : List Row)
      → IsAnswer (from_with t more tests project order) db params rows → AllByRecursion P (db t) → AllByRecursion Q rows
  read_all P Q keeps rows a all =
      let it = read rows a in
      let shown : Output → Type 0 = λ o. Q o.1 in
      let each = all_map shown shown_of (filter p (db t))
      (all_weaker P (λ r. shown (shown_of r)) keeps (filter p (db t)) (all-filter P p (db t) all)) in
      subst (AllByRecursion Q) (sym it.3) (all_map Q (λ (o : Output). o.1) it.0
      (all_permutation shown (map shown_of (filter p (db t))) it.0 it.1 each))
