-- A table as a map by its key, after one statement.
use Rattle.index_sql_schema.proofs.Words.{◌≡◌, ◌≤◌, inl, inr, ℕ, Bool, true, false, cond, List, [], ◌∷◌, filter, find, length, slice_get}
use Rattle.index_sql_schema.proofs.Words.{Option, Some, None, option_map, refl, sym, ap, subst, ◌∙◌, IsPermutation, Ordering, eq_by_cmp}
use Rattle.index_sql_schema.proofs.Words.{IsTotalOrder, FinMap, IsAntisymmetric, get, insert, remove, retain_keys, eq_by_cmp_equiv}
use Rattle.index_sql_schema.proofs.Words.{IsPermutation-sym, Row, IsAscending, Has, Database, delete_where, slice_get-filter, map_from}
use Rattle.index_sql_schema.proofs.Words.{IsIndex}
use Rattle.index_sql_schema.proofs.RowLemmas.{at_most_one, same_rows, map_from-filter, map_from-delete, map_from-put, get-map_from}
use Rattle.index_sql_schema.proofs.Permutations.{short_permutation}
use Rattle.index_sql_schema.proofs.EditLemmas.{has_all}

-- what is found is in the list, and passes
pub find_has : {A : Type 0} (p : A → Bool) (xs : List A) (x : A) → find p xs ≡ Some x → Has xs x × (p x ≡ true)
find_has p [] x e = absurd (let f = e in cc)
find_has p (y ∷ ys) x e = go (p y) refl e (find_has p ys x)
  where
    go : (b : Bool) → p y ≡ b → cond b (Some y) (find p ys) ≡ Some x → (find p ys ≡ Some x → Has ys x × (p x ≡ true))
        → Has (y ∷ ys) x × (p x ≡ true)
    go true here f more = let is : y ≡ x = cc in (inl (sym is), subst (λ z. p z ≡ true) is here)
    go false here f more = let it = more f in (inr it.0, it.1)

module _ {K X : Type 0} {R : K → K → Ordering} (total : IsTotalOrder R) (exact : IsAntisymmetric R) (key : Row → K) (value : Row
    → X) (tree : ℕ)
    (apart : (db : Database) → IsIndex db → IsAscending (λ a b. eq_by_cmp R (key a) (key b) ≡ false) (db.trees tree)) where
  abbrev pub is_at : K → Row → Bool
  is_at q r = eq_by_cmp R q (key r)

  abbrev pub map_in : Database → FinMap R X
  map_in db = map_from key value (db.trees tree)

  pub once : (db : Database) → IsIndex db → (q : K) → length (filter (is_at q) (db.trees tree)) ≤ 1
  once db h q = at_most_one total exact key value q (db.trees tree) (apart db h)

  pub put_is : (old new : Database) → IsIndex new → (row : Row)
      → IsPermutation (row ∷ delete_where (is_at (key row)) (old.trees tree)) (new.trees tree)
      → map_in new ≡ insert (map_in old) (key row) (value row)
  put_is old new h row p =
      same_rows total exact key value (new.trees tree) (row ∷ delete_where (is_at (key row)) (old.trees tree)) (apart new h)
      (IsPermutation-sym _ _ p)
      ∙ map_from-put total exact key value row (old.trees tree)

  pub gone_is : (old new : Database) (q : K) → new.trees tree ≡ delete_where (is_at q) (old.trees tree) → map_in new ≡ remove (map_in old) q
  gone_is old new q e = ap (map_from key value) e ∙ map_from-delete total exact key value q (old.trees tree)

  pub kept_is : (old new : Database) (p : K → Bool) → new.trees tree ≡ filter (λ r. p (key r)) (old.trees tree)
      → map_in new ≡ retain_keys (map_in old) p
  kept_is old new p e = ap (map_from key value) e ∙ map_from-filter total exact key value p (old.trees tree)

  -- the first of the rows with a key, in whatever order they came
  pub found_is : (db : Database) (h : IsIndex db) (q : K) (found : List Row) → IsPermutation (filter (is_at q) (db.trees tree)) found
      → option_map value (slice_get found 0) ≡ get (map_in db) q
  found_is db h q found p =
      ap (λ l. option_map value (slice_get l 0)) (short_permutation _ found (once db h q) p)
      ∙ ap (option_map value) (slice_get-filter (is_at q) (db.trees tree)) ∙ sym (get-map_from total exact key value (db.trees tree) q)

  -- what the map has at a key is the record of a row with that key
  pub row_at_key : (db : Database) (q : K) (v : X) → get (map_in db) q ≡ Some v
      → (r : Row) × Has (db.trees tree) r × (is_at q r ≡ true) × (value r ≡ v)
  row_at_key db q v e = go (find (is_at q) (db.trees tree)) refl (sym (answer db q) ∙ e)
    where
      answer : (db : Database) (q : K) → get (map_in db) q ≡ option_map value (find (is_at q) (db.trees tree))
      answer db q = get-map_from total exact key value (db.trees tree) q

      go : (found : Option Row) → find (is_at q) (db.trees tree) ≡ found → option_map value found ≡ Some v
          → (r : Row) × Has (db.trees tree) r × (is_at q r ≡ true) × (value r ≡ v)
      go None f e = absurd (let g = e in cc)
      go (Some r) f e = let it = find_has (is_at q) (db.trees tree) r f in let is : value r ≡ v = cc in (r, it.0, it.1, is)

  find_row : (rows : List Row) (r : Row) → IsAscending (λ a b. eq_by_cmp R (key a) (key b) ≡ false) rows → Has rows r
      → find (is_at (key r)) rows ≡ Some r
  find_row [] r apart none = absurd none
  find_row (x ∷ rows) r apart (inl is) = rw (ap (λ y. eq_by_cmp R (key r) (key y)) (sym is) ∙ (eq_by_cmp_equiv total).refl (key r))
      (ap Some (sym is))
  find_row (x ∷ rows) r apart (inr more) = rw ((eq_by_cmp_equiv total).symm (key r) (key x)
      ∙ has_all (λ y. eq_by_cmp R (key x) (key y) ≡ false) rows r apart.0 more) (find_row rows r apart.1 more)

  -- the map has the record of each row at its key
  pub get_row : (db : Database) → IsIndex db → (r : Row) → Has (db.trees tree) r → get (map_in db) (key r) ≡ Some (value r)
  get_row db h r has = get-map_from total exact key value (db.trees tree) (key r)
      ∙ ap (option_map value) (find_row (db.trees tree) r (apart db h) has)
