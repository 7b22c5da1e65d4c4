-- UPDATE meta: the version of the row with id 1 is 2.
use Rattle.index_sql_schema.proofs.Words.{◌≡◌, ℕ, pos, false, ◌==◌, List, [], ◌∷◌, filter, map, length, Ok, refl, sym, ap, subst, ◌∙◌}
use Rattle.index_sql_schema.proofs.Words.{arith, IsPermutation, list_all, filter_map, everything, Null, Int, Binary, Row, joined, rowid}
use Rattle.index_sql_schema.proofs.Words.{Term, lit, col, op2, eval_all, holds, Compare, Eq, same_name, parent_key, Table, Enforced, Update}
use Rattle.index_sql_schema.proofs.Words.{works, work_by, deed_for, pairs, cast_row, put_all, row_at, understood, State, Executes, IsPlain}
use Rattle.index_sql_schema.proofs.Words.{command_of, delete_where, all_weaker, all_both, all-filter, at_ints, last_term, index_schema}
use Rattle.index_sql_schema.proofs.Words.{meta_at, rowid_in, HasRowid, AreRows, IsIndex, Rewrites, as_version_2, is_first, raised}
use Rattle.std.specs.List.{flat_map}
use Rattle.index_sql_schema.specs.StatementTexts.{update_version_text}
use Rattle.index_sql_schema.proofs.Permutations.{short_permutation}
use Rattle.index_sql_schema.proofs.QueryShapes.{plan, from_one}
use Rattle.index_sql_schema.proofs.EditLemmas.{as_int}
use Rattle.index_sql_schema.proofs.KeyLemmas.{IsText, are_rows}
use Rattle.index_sql_schema.proofs.TableLemmas.{cast_null, cast_int}
use Rattle.index_sql_schema.proofs.WriteLemmas.{updates_rows}
use Rattle.index_sql_schema.proofs.VersionLemmas.{kind_texts, one_first}
use Rattle.index_sql_schema.proofs.AfterLemmas.{meta_change}

abbrev tests : List Term
tests = op2 (Compare Eq Binary) (col 1 0) (lit (Int (pos 1))) ∷ []

abbrev project : List Term
project = col 1 0 ∷ lit Null ∷ col 1 2 ∷ lit (Int (pos 2)) ∷ []

compiled : command_of (understood index_schema update_version_text) ≡ Update 0 (plan (from_one 0 tests (col 1 0 ∷ project) []))
unfolding understood everything
compiled = refl

is_plain : IsPlain (understood index_schema update_version_text)
unfolding understood everything
is_plain = (refl, refl)

changes_no_key : (olds : List Row) (x : Row) (xs : List Row) → works index_schema Enforced 0 0 olds (x ∷ xs) ≡ []
unfolding same_name joined
changes_no_key olds x xs =
    let some : (length (x ∷ xs) == 0) ≡ false = grind arith in
    subst (λ b. flat_map (λ (child : Table). filter_map
    (λ ref. work_by 0 0 (pairs olds (x ∷ xs)) child ref (deed_for Enforced b ref) (parent_key index_schema.tables ref))
    child.references) index_schema.tables ≡ []) (sym some) refl

no_works : (rs found : List Row) → works index_schema Enforced 0 0 (map (row_at rs) (map rowid_in found)) (map as_version_2 found) ≡ []
unfolding same_name joined
no_works rs [] = refl
no_works rs (m ∷ found) = changes_no_key (map (row_at rs) (map rowid_in (m ∷ found))) (as_version_2 m) (map as_version_2 found)

tested : (r : Row) → HasRowid r → list_all (holds ([] ∷ r ∷ [])) tests ≡ is_first r
tested r whole = rw (as_int (rowid r) whole) (last_term (at_ints false Eq (rowid_in r) (pos 1)))

casts : (r : Row) → HasRowid r → IsText 2 r → cast_row (meta_at 0) (eval_all project ([] ∷ r ∷ [])) ≡ as_version_2 r
casts r whole is = rw (as_int (rowid r) whole, is, cast_int (rowid_in r), cast_int (pos 2), cast_null) refl

-- no two rows have id 1, so they are found in one order
found_alone : (rows found : List Row) → AreRows rows → IsPermutation (filter is_first rows) found → found ≡ filter is_first rows
found_alone rows found are same = short_permutation (filter is_first rows) found (one_first rows are) same

-- the tables are as they were, and so is meta, but for the version
pub updates : (old new : State) (count : ℕ) → IsIndex old.now → Executes update_version_text [] old new (Ok count)
    → Rewrites (λ T. T) raised old.now new.now
updates old new count h ran =
    let rs = old.now.trees 0 in
    let are = are_rows 0 (meta_at 0) refl old.now h in
    let whole = are.1 in
    let passes = all_weaker HasRowid (λ r. list_all (holds ([] ∷ r ∷ [])) tests ≡ is_first r) tested rs whole in
    let all = all_both HasRowid (IsText 2) (λ r. cast_row (meta_at 0) (eval_all project ([] ∷ r ∷ [])) ≡ as_version_2 r) casts rs whole
    (kind_texts index_schema refl old.now h.schema h.sound) in
    let it = updates_rows 0 (meta_at 0) refl (λ db. refl) update_version_text
    [] is_plain old new count h tests project is_first as_version_2 compiled (no_works rs) (all-filter _ is_first rs all) (λ r _. tt)
    passes ran in
    let alone = found_alone rs it.2.0 are it.2.1 in
    meta_change old.now new.now it.1.1 raised (it.2.2 ∙ ap (λ l. put_all (delete_where is_first rs) (map as_version_2 l)) alone) it.1.0
