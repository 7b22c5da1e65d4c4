-- The rows of meta, and the one among them that has the version: there is one at most.
use Rattle.index_sql_schema.proofs.Words.{◌≡◌, ◌≤◌, pos, Bool, true, false, not, ◌&&◌, ◌||◌, cond, List, [], ◌∷◌, drop, filter, find}
use Rattle.index_sql_schema.proofs.Words.{length, map, option_map, slice_get, None, Some, refl, sym, ap, subst, ◌∙◌, true≢false, arith}
use Rattle.index_sql_schema.proofs.Words.{int_eq, AllByRecursion, match_ordering, ints, Row, column, value_cmp, rowid, put_row, is_null}
use Rattle.index_sql_schema.proofs.Words.{put_all, Table, Schema, Constraint, Datatype, NotNull, Keeps, passes, are_typed, are_present}
use Rattle.index_sql_schema.proofs.Words.{has_computed, Database, IsDatabase, delete_where, all_both, all_weaker, all-slice_get, same_int}
use Rattle.index_sql_schema.proofs.Words.{meta_at, rowid_in, AreRows, as_version_2, is_first, is_version, raised, number_in}
use Rattle.std.proofs.Common.{Ordering, Less, Equal, Greater}
use Rattle.index_sql_schema.proofs.Permutations.{one_passes}
use Rattle.index_sql_schema.specs.Index.{version_among}
use Rattle.index_sql_schema.proofs.EditLemmas.{Differ, filter_passes}
use Rattle.index_sql_schema.proofs.KeyLemmas.{IsText}
use Rattle.index_sql_schema.proofs.TypedLemmas.{as_text, first_part, second_part}

-- ---- the rows

absent : (n : Bool) → (false || (not true || not n)) ≡ true → n ≡ false
absent true h = absurd (true≢false (sym h))
absent false h = refl

kind_text : (r : Row) → are_typed (Some 0) 0 (meta_at 0).columns (drop 1 r) ≡ true → is_null (column r 2) ≡ false → IsText 2 r
kind_text [] h none = absurd (true≢false none)
kind_text (a ∷ []) h none = absurd (true≢false none)
kind_text (a ∷ b ∷ []) h none = absurd (true≢false none)
kind_text (a ∷ b ∷ c ∷ r) h none = as_text c (first_part _ _ (second_part _ _ h)) none

meta_row : (r : Row) → (are_typed (Some 0) 0 (meta_at 0).columns (drop 1 r) && has_computed (meta_at 0) r) ≡ true
    → are_present (Some 0) 0 (meta_at 0).columns r ≡ true → IsText 2 r
meta_row r typed present = kind_text r (first_part _ _ typed) (absent (is_null (column r 2)) (first_part _ _ present))

module _ (schema : Schema) (first : slice_get schema.tables 0 ≡ Some (meta_at 0)) (db : Database) (has : db.schema ≡ schema)
    (sound : IsDatabase db) where
  passing : (rule : Constraint) → AllByRecursion (λ row. passes rule schema db.trees (meta_at 0) row ≡ true) (db.trees 0)
  passing rule = all-slice_get (λ (t : Table). AllByRecursion (λ row. passes rule schema db.trees t row ≡ true) (db.trees t.tree))
      schema.tables 0 (meta_at 0) first (subst (λ s. Keeps rule s db.trees) has (sound.obeys.rules rule))

  -- the kind is a text in each row
  pub kind_texts : AllByRecursion (IsText 2) (db.trees 0)
  kind_texts = all_both _ _ (IsText 2) meta_row (db.trees 0) (passing Datatype) (passing NotNull)

-- ---- the one with the version

other_first : (a b : Row) → Differ a b → is_first a ≡ true → is_first b ≡ false
other_first a b apart here = go (is_first b) refl
  where
    go : (c : Bool) → is_first b ≡ c → is_first b ≡ false
    go false e = e
    go true e =
        let first = same_int (rowid_in a) (pos 1) here in
        let second = same_int (rowid_in b) (pos 1) e in
        let same : int_eq (rowid_in a) (rowid_in b) ≡ true = grind (arith, ints) in
        absurd (true≢false (sym same ∙ apart))

-- no two rows have id 1
pub one_first : (rows : List Row) → AreRows rows → length (filter is_first rows) ≤ 1
one_first rows are = one_passes Differ is_first rows other_first are.0

other_id : (r : Row) → is_first r ≡ false → is_version r ≡ false
other_id r other = rw other refl

pub one_version : (rows : List Row) → AreRows rows → length (filter is_version rows) ≤ 1
one_version rows are = one_passes Differ is_version rows (λ a b apart here. other_id b (other_first a b apart (first_part _ _ here))) are.0

-- ---- the version after the row with id 1 is put back

none_found : (rows : List Row) → AllByRecursion (λ r. is_first r ≡ false) rows → find is_version rows ≡ None
none_found [] all = refl
none_found (r ∷ rows) all = rw all.0 (none_found rows all.1)

put_found : (n : Row) (rows : List Row) → AllByRecursion (λ r. is_first r ≡ false) rows
    → find is_version (put_row n rows) ≡ cond (is_version n) (Some n) None
put_found n [] all = refl
put_found n (r ∷ rows) all = go (value_cmp (rowid r) (rowid n)) (put_found n rows all.1)
  where
    go : (o : Ordering) → find is_version (put_row n rows) ≡ cond (is_version n) (Some n) None
        → find is_version (match_ordering o (r ∷ put_row n rows) (n ∷ rows) (n ∷ r ∷ rows)) ≡ cond (is_version n) (Some n) None
    go Less more = rw all.0 more
    go Equal more = ap (cond (is_version n) (Some n)) (none_found rows all.1)
    go Greater more = ap (cond (is_version n) (Some n)) (none_found (r ∷ rows) all)

found_first : (rows : List Row) → find is_version rows ≡ find is_version (filter is_first rows)
found_first [] = refl
found_first (r ∷ rows) = go (is_first r) refl (found_first rows)
  where
    go : (b : Bool) → is_first r ≡ b → find is_version rows ≡ find is_version (filter is_first rows)
        → find is_version (r ∷ rows) ≡ find is_version (cond b (r ∷ filter is_first rows) (filter is_first rows))
    go true e more = ap (cond (is_version r) (Some r)) more
    go false e more = rw e more

put_tells : (found rest : List Row) → length found ≤ 1 → AllByRecursion (λ r. is_first r ≡ false) rest
    → version_among (put_all rest (map as_version_2 found)) ≡ option_map (λ _. 2) (version_among found)
put_tells [] rest short all = ap (option_map (λ r. number_in (column r 3))) (none_found rest all)
put_tells (r ∷ []) rest short all =
    ap (option_map (λ r. number_in (column r 3))) (put_found (as_version_2 r) rest all)
    ∙ elim (is_version r) as (λ b. option_map (λ r. number_in (column r 3)) (cond b (Some (as_version_2 r)) None)
    ≡ option_map (λ _. 2) (option_map (λ r. number_in (column r 3)) (cond b (Some r) None))) [ true ↦ refl | false ↦ refl ]
put_tells (r ∷ s ∷ more) rest short all = absurd (omega arith)

was_false : (b : Bool) → not b ≡ true → b ≡ false
was_false true h = absurd (true≢false (sym h))
was_false false h = refl

-- version 2 is told, if a version was
pub raised_tells : (rows : List Row) → AreRows rows → version_among (raised rows) ≡ option_map (λ _. 2) (version_among rows)
raised_tells rows are =
    let others = all_weaker _ (λ r. is_first r ≡ false) (λ r it. was_false (is_first r) it.1) (delete_where is_first rows)
    (filter_passes (λ r. not (is_first r)) rows) in
    put_tells (filter is_first rows) (delete_where is_first rows) (one_first rows are) others
    ∙ ap (λ found. option_map (λ _. 2) (option_map (λ r. number_in (column r 3)) found)) (sym (found_first rows))
