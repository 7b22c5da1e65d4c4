-- UPDATE files: each file of the name is deleted.
use Rattle.index_sql_schema.proofs.Words.{◌≡◌, inl, ℕ, pos, Bool, true, false, cond, List, [], ◌∷◌, map, Ok, refl, sym, subst, ◌∙◌}
use Rattle.index_sql_schema.proofs.Words.{list_all, exact_bytes, is_eq-slice_cmp, everything, Int, Text, Row, column, bytes, joined, rowid}
use Rattle.index_sql_schema.proofs.Words.{Term, lit, col, eval_all, holds, same_name, Enforced, Update, works, id_in, row_at, cast_row}
use Rattle.index_sql_schema.proofs.Words.{understood, State, Executes, IsPlain, command_of, update_where, all_weaker, all_both, all-filter}
use Rattle.index_sql_schema.proofs.Words.{last_term, Bytes, same, change_values, nat_list_cmp_total, text_key, file_in, index_schema}
use Rattle.index_sql_schema.proofs.Words.{files_at, rowid_in, HasRowid, IsIndex, Changes, IsFiledRow, IsPermutation-sym}
use Rattle.index_sql_schema.proofs.Words.{IsPermutation-trans, length, ◌==◌, arith, filter_map, Table, parent_key, work_by, deed_for, pairs}
use Rattle.index_sql_schema.proofs.RowLemmas.{same_rows, map_from-update, split_update}
use Rattle.index_rules.specs.Effect.{as_deleted, as_deleted_of}
use Rattle.index_sql_schema.proofs.QueryShapes.{plan, from_one, is_param}
use Rattle.index_sql_schema.proofs.EditLemmas.{as_int}
use Rattle.index_sql_schema.proofs.KeyLemmas.{IsText, are_rows, text_test}
use Rattle.index_sql_schema.proofs.TableLemmas.{is_key, cast_int, files_keyed}
use Rattle.index_sql_schema.proofs.WriteLemmas.{updates_rows}
use Rattle.index_sql_schema.proofs.KeyLemmas.{texts, wholes}
use Rattle.std.specs.List.{flat_map}
use Rattle.index_sql_schema.specs.StatementTexts.{update_files_text}
use Rattle.index_sql_schema.proofs.AfterLemmas.{files_change}

abbrev project : List Term
project = col 1 0 ∷ col 1 1 ∷ col 1 2 ∷ col 1 3 ∷ col 1 4 ∷ col 1 5 ∷ col 1 6 ∷ lit (Int (pos 0)) ∷ []

compiled : command_of (understood index_schema update_files_text) ≡ Update 4 (plan (from_one 8 (is_param 2 0 ∷ []) (col 1 0 ∷ project) []))
unfolding understood everything
compiled = refl

is_plain : IsPlain (understood index_schema update_files_text)
unfolding understood everything
is_plain = (refl, refl)

-- the row of a deleted file
abbrev pub deleted_row : Row → Row
deleted_row r = Int (rowid_in r) ∷ column r 1 ∷ column r 2 ∷ column r 3 ∷ column r 4 ∷ column r 5 ∷ column r 6 ∷ Int (pos 0) ∷ []

-- it is that of a record if the row was
deleted_record : (r : Row) → IsFiledRow r → IsFiledRow (deleted_row r)
deleted_record r it = record {
  file = it.file;
  known = record {
    project = it.known.project;
    release = it.known.release;
    digest = it.known.digest;
    size = it.known.size;
    requires_python = it.known.requires_python;
    is_undeleted = inl refl;
  };
}

changes_no_key : (olds : List Row) (x : Row) (xs : List Row) → works index_schema Enforced 0 8 olds (x ∷ xs) ≡ []
unfolding same_name joined
changes_no_key olds x xs =
    let some : (length (x ∷ xs) == 0) ≡ false = grind arith in
    subst (λ b. flat_map (λ (child : Table). filter_map
    (λ ref. work_by 0 8 (pairs olds (x ∷ xs)) child ref (deed_for Enforced b ref) (parent_key index_schema.tables ref))
    child.references) index_schema.tables ≡ []) (sym some) refl

no_works : (rs found : List Row) → works index_schema Enforced 0 8 (map (row_at rs) (map rowid_in found)) (map deleted_row found) ≡ []
unfolding same_name joined
no_works rs [] = refl
no_works rs (m ∷ found) = changes_no_key (map (row_at rs) (map rowid_in (m ∷ found))) (deleted_row m) (map deleted_row found)

record IsTypedRow (r : Row) : Type 0 where
  id : HasRowid r
  file : IsText 1 r
  name : IsText 2 r
  release : IsText 3 r
  size : column r 5 ≡ Int (id_in (column r 5))
  requires : IsText 6 r

module _ (name : Bytes) where
  abbrev of_name : Row → Bool
  of_name r = same name (bytes (column r 2))

  tested : (r : Row) → IsText 2 r → list_all (holds ((Text name ∷ []) ∷ r ∷ [])) (is_param 2 0 ∷ []) ≡ of_name r
  tested r is = last_term (text_test (Text name ∷ []) 2 0 r name refl is ∙ is_key name (bytes (column r 2))
      ∙ is_eq-slice_cmp name (bytes (column r 2)))

  becomes : (r : Row) → IsTypedRow r → cast_row (files_at 8) (eval_all project ((Text name ∷ []) ∷ r ∷ [])) ≡ deleted_row r
  becomes r is = rw (
    as_int (rowid r) is.id,
    is.file,
    is.name,
    is.release,
    is.size,
    is.requires,
    cast_int (rowid_in r),
    cast_int (id_in (column r 5)),
    cast_int (pos 0),
  ) refl

  does : (r : Row) → file_in (cond (of_name r) (deleted_row r) r) ≡ as_deleted_of name (file_in r)
  does r = elim (of_name r) as (λ b. file_in (cond b (deleted_row r) r) ≡ cond b (as_deleted (file_in r)) (file_in r))
      [ true ↦ refl | false ↦ refl ]

  pub updates : (old new : State) (count : ℕ) → IsIndex old.now → Executes update_files_text (Text name ∷ []) old new (Ok count)
      → Changes (λ T. record T { files = change_values (as_deleted_of name) T.files }) old.now new.now
  updates old new count h ran =
      let rs = old.now.trees 8 in
      let names = texts 4 (files_at 8) refl old.now h refl 1 _ refl refl refl refl in
      let releases = texts 4 (files_at 8) refl old.now h refl 2 _ refl refl refl refl in
      let requires = texts 4 (files_at 8) refl old.now h refl 5 _ refl refl refl refl in
      let sizes = wholes 4 (files_at 8) refl old.now h refl 4 _ refl refl refl refl in
      let whole = (are_rows 4 (files_at 8) refl old.now h).1 in
      let three = all_both (IsText 1) (IsText 2) (λ r. IsText 1 r × IsText 2 r) (λ r a b. (a, b)) rs (files_keyed.texts old.now h) names in
      let five = all_both (IsText 3) (IsText 6) (λ r. IsText 3 r × IsText 6 r) (λ r a b. (a, b)) rs releases requires in
      let texts_all = all_both _ _ (λ r. (IsText 1 r × IsText 2 r) × (IsText 3 r × IsText 6 r)) (λ r a b. (a, b)) rs three five in
      let numbers = all_both HasRowid _ (λ r. HasRowid r × (column r 5 ≡ Int (id_in (column r 5)))) (λ r a b. (a, b)) rs whole sizes in
      let all = all_both _ _ IsTypedRow (λ r t n. record {
        id = n.0;
        file = t.0.0;
        name = t.0.1;
        release = t.1.0;
        size = n.1;
        requires = t.1.1;
      }) rs texts_all numbers in
      let tests = all_weaker (IsText 2) (λ r. list_all (holds ((Text name ∷ []) ∷ r ∷ [])) (is_param 2 0 ∷ []) ≡ of_name r)
      tested rs names in
      let casts = all-filter (λ r. cast_row (files_at 8) (eval_all project ((Text name ∷ []) ∷ r ∷ [])) ≡ deleted_row r) of_name rs
      (all_weaker IsTypedRow (λ r. cast_row (files_at 8) (eval_all project ((Text name ∷ []) ∷ r ∷ [])) ≡ deleted_row r) becomes rs all)
      in
      let it = updates_rows 4 (files_at 8) refl (λ db. refl) update_files_text (Text name ∷ []) is_plain old new count h (is_param 2 0 ∷ [])
      project of_name deleted_row compiled (no_works rs) casts deleted_record tests ran in
      let order = IsPermutation-trans _ _ _ (IsPermutation-sym _ _ it.0) (split_update of_name deleted_row rs) in
      let is =
      same_rows nat_list_cmp_total exact_bytes text_key file_in (new.now.trees 8) (update_where of_name deleted_row rs)
      (files_keyed.apart new.now it.1.1) order
      ∙ map_from-update text_key file_in of_name deleted_row (as_deleted_of name) (λ r. refl) does rs in
      files_change old.now new.now it.1.1 (λ T. change_values (as_deleted_of name) T.files) is it.1.0
