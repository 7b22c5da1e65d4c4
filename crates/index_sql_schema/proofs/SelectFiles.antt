-- SELECT FROM files .. LEFT JOIN yanks .. ORDER BY file: the undeleted files of a name with their yanks, in byte order.
use Rattle.index_sql_schema.proofs.Words.{◌≡◌, ◌≤◌, Bool, true, false, ◌&&◌, cond, ℕ, List, [], ◌∷◌, append-nil, codes, filter, find}
use Rattle.index_sql_schema.proofs.Words.{flat_map, map, length, slice_get, Option, Some, None, option_map, refl, sym, ap, ap₂, subst, ◌∙◌}
use Rattle.index_sql_schema.proofs.Words.{arith, IsPermutation, inl, inr, AllByRecursion, list_all, eq_by_cmp, nat_list_cmp_total}
use Rattle.index_sql_schema.proofs.Words.{exact_bytes, bytes_eq-Decides, everything, Null, Text, Binary, Row, column, bytes, Trees, Term}
use Rattle.index_sql_schema.proofs.Words.{Env, col, op2, eval_all, holds, Compare, Eq, Join, IsAnswer, left, end, matches_as, overlay}
use Rattle.index_sql_schema.proofs.Words.{Select, Has, Database, understood, reads_listing, State, Shown, IsPlain, command_of, reads_as}
use Rattle.index_sql_schema.proofs.Words.{all_weaker, all_both, map-map, filter-map, slice_get-filter, at_texts, last_term, is_eq-slice_cmp}
use Rattle.index_sql_schema.proofs.Words.{Bytes, same, pair_cmp, Tables, pair_total, exact_pair, index_schema, files_at, yanks_at}
use Rattle.index_sql_schema.proofs.Words.{tables_in, text_key, pair_key, file_in, reason_in, IsIndex, IsSure, IsFiledRow, IsYankedRow}
use Rattle.std.proofs.Common.{unwrap_or}
use Rattle.sqlite_sql.specs.Query.{or_nulls}
use Rattle.index_rules.specs.declared.rows.FileRow.{FileRow}
use Rattle.index_rules.specs.Facts.{yank_in}
use Rattle.index_rules.specs.Sound.{is_undeleted_of}
use Rattle.index_rules.specs.TableRows.{file_row_in, file_rows_in}
use Rattle.index_sql_schema.proofs.EntryLemmas.{sorted_entries}
use Rattle.index_sql_schema.proofs.RowLemmas.{get-map_from}
use Rattle.index_sql_schema.specs.Records.{text_if_any}
use Rattle.index_sql_schema.specs.ShownRows.{file_row_shown}
use Rattle.index_sql_schema.specs.StatementTexts.{select_files_text}
use Rattle.index_sql_schema.specs.RecordRows.{IsListedRow, IsTextIfAny}
use Rattle.index_sql_schema.proofs.SelectLemmas.{read_all}
use Rattle.index_sql_schema.proofs.SureLemmas.{readable_left}
use Rattle.index_sql_schema.proofs.QueryShapes.{plan, from_with, is_param}
use Rattle.index_sql_schema.proofs.EditLemmas.{filter_with, filter_passes, has_all}
use Rattle.index_sql_schema.proofs.KeyLemmas.{IsText, IsPair, IsNumber, texts, wholes, text_test}
use Rattle.index_sql_schema.proofs.KeyedLemmas.{once, find_has}
use Rattle.index_sql_schema.proofs.TypedLemmas.{second_part}
use Rattle.index_sql_schema.proofs.NumberLemmas.{is_number, number_test}
use Rattle.index_sql_schema.proofs.TableLemmas.{same-turned, files_keyed, yanks_keyed, is_pair_key}
use Rattle.index_sql_schema.proofs.WriteLemmas.{map_with}
use Rattle.index_sql_schema.proofs.OrderLemmas.{by_column, listed}

abbrev tests : List Term
tests = is_number Eq 7 1 ∷ is_param 2 0 ∷ []

-- the yank has the name and the release of the file
abbrev on : List Term
on = op2 (Compare Eq Binary) (col 2 1) (col 1 2) ∷ op2 (Compare Eq Binary) (col 2 2) (col 1 3) ∷ []

abbrev more : Join
more = left 13 on end

abbrev project : List Term
project = col 1 0 ∷ col 1 1 ∷ col 1 2 ∷ col 1 3 ∷ col 1 4 ∷ col 1 5 ∷ col 1 6 ∷ col 1 7 ∷ col 2 3 ∷ []

abbrev headings : List (List ℕ)
headings = codes "rowid" ∷ codes "file" ∷ codes "name" ∷ codes "rel" ∷ codes "digest" ∷ codes "size" ∷ codes "requires" ∷ codes "live" ∷
    codes "reason" ∷ []

compiled : command_of (understood index_schema select_files_text) ≡ Select (plan (from_with 8 more tests project (by_column 1))) headings
unfolding understood everything
compiled = refl

pub is_plain : IsPlain (understood index_schema select_files_text)
unfolding understood everything
is_plain = (refl, refl)

unlisted : reads_listing index_schema select_files_text ≡ false
unfolding understood everything
unlisted = refl

record IsRow (r : Row) : Type 0 where
  file : IsText 1 r
  name : IsText 2 r
  release : IsText 3 r
  live : IsNumber 7 r

-- if at most one row is joined, it is that one or the row of NULLs
joined : (found : List Row) (f : Row → List Env) → length found ≤ 1 → flat_map f (or_nulls found) ≡ f (unwrap_or (slice_get found 0) [])
joined [] f short = append-nil (f [])
joined (y ∷ []) f short = append-nil (f y)
joined (y ∷ z ∷ found) f short = absurd (omega arith)

module _ (name : Bytes) (db : Database) (h : IsIndex db) where
  abbrev params : Row
  params = Text name ∷ []

  abbrev trees : Trees
  trees = db.trees

  abbrev T : Tables
  T = tables_in trees

  -- the yank of the release of a row
  abbrev is_yank : Row → Row → Bool
  is_yank r y = eq_by_cmp pair_cmp (bytes (column r 2), bytes (column r 3)) (pair_key y)

  abbrev yank_of : Row → Row
  yank_of r = unwrap_or (find (is_yank r) (trees 13)) []

  abbrev env_of : Row → Env
  env_of r = params ∷ r ∷ yank_of r ∷ []

  abbrev passes : Row → Bool
  passes r = is_undeleted_of name (file_in r)

  abbrev IsOn : Row → Row → Bool
  IsOn r y = list_all (holds (params ∷ r ∷ y ∷ [])) on

  on_is : (r y : Row) → IsRow r → IsPair y → IsOn r y ≡ is_yank r y
  on_is r y is pair =
      rw (is.name, is.release, pair.0, pair.1) (ap₂ (λ a b. a && b)
      (at_texts false Eq (text_key y) (bytes (column r 2)) ∙ is_eq-slice_cmp (text_key y) (bytes (column r 2)))
      (last_term (at_texts false Eq (bytes (column y 2)) (bytes (column r 3)) ∙ is_eq-slice_cmp (bytes (column y 2)) (bytes (column r 3)))))
      ∙ is_pair_key (bytes (column r 2)) (bytes (column r 3)) (pair_key y)

  looks_once : (r : Row) → IsRow r → matches_as Null (overlay trees []) tests more (params ∷ r ∷ [])
      ≡ cond (list_all (holds (env_of r)) tests) (env_of r ∷ []) []
  looks_once r is =
      let each : Row → List Env = λ y. cond (list_all (holds (params ∷ r ∷ y ∷ [])) tests) ((params ∷ r ∷ y ∷ []) ∷ []) [] in
      let found = filter_with IsPair (IsOn r) (is_yank r) (λ y pair. on_is r y is pair) (trees 13) (yanks_keyed.pairs db h) in
      let short = once pair_total exact_pair pair_key reason_in 13 yanks_keyed.apart db h (bytes (column r 2), bytes (column r 3)) in
      ap (λ l. flat_map each (or_nulls l)) found ∙ joined (filter (is_yank r) (trees 13)) each short
      ∙ ap (λ o. each (unwrap_or o [])) (slice_get-filter (is_yank r) (trees 13))

  tested : (r : Row) → IsRow r → list_all (holds (env_of r)) tests ≡ passes r
  tested r is = ap₂ (λ a b. a && b) (number_test params 7 0 r is.live)
      (last_term (text_test params 2 0 r name refl is.name ∙ same-turned (bytes (column r 2)) name))

  reason_is : (r : Row) → AllByRecursion (IsText 3) (trees 13)
      → text_if_any (column (yank_of r) 3) ≡ yank_in T (bytes (column r 2)) (bytes (column r 3))
  reason_is r reasons = go (find (is_yank r) (trees 13)) refl
      ∙ sym (get-map_from pair_total exact_pair pair_key reason_in (trees 13) (bytes (column r 2), bytes (column r 3)))
    where
      go : (o : Option Row) → find (is_yank r) (trees 13) ≡ o → text_if_any (column (unwrap_or o []) 3) ≡ option_map reason_in o
      go None e = refl
      go (Some y) e = ap text_if_any (has_all (IsText 3) (trees 13) y reasons (find_has (is_yank r) (trees 13) y e).0)

  -- what a row that passes is shown as
  shown_as : (r : Row) → AllByRecursion (IsText 3) (trees 13) → passes r ≡ true
      → file_row_shown (eval_all project (env_of r)) ≡ file_row_in T name (text_key r, file_in r)
  shown_as r reasons passed =
      let own : name ≡ bytes (column r 2) = (bytes_eq-Decides name (bytes (column r 2))).0
      (second_part (file_in r).is_undeleted (same name (bytes (column r 2))) passed) in
      let reason = reason_is r reasons ∙ ap (λ n. yank_in T n (bytes (column r 3))) (sym own) in
      ap (λ y. record (file_row_in T name (text_key r, file_in r)) { yanked = y }) reason

  -- the rows as they are typed
  all_rows : AllByRecursion IsRow (trees 8)
  all_rows =
      let rs = trees 8 in
      let names = texts 4 (files_at 8) refl db h refl 1 _ refl refl refl refl in
      let releases = texts 4 (files_at 8) refl db h refl 2 _ refl refl refl refl in
      let lives = wholes 4 (files_at 8) refl db h refl 6 _ refl refl refl refl in
      let first = all_both (IsText 1) (IsText 2) (λ r. IsText 1 r × IsText 2 r) (λ r a b. (a, b)) rs (files_keyed.texts db h) names in
      let second = all_both (IsText 3) (IsNumber 7) (λ r. IsText 3 r × IsNumber 7 r) (λ r a b. (a, b)) rs releases lives in
      all_both _ _ IsRow (λ r a b. record { file = a.0; name = a.1; release = b.0; live = b.1 }) rs first second

  -- the reason of a yank is a text, or there is none
  reason_text : (r : Row) → AllByRecursion IsYankedRow (trees 13) → IsTextIfAny (eval_all project (env_of r)) 8
  reason_text r yanks = go (find (is_yank r) (trees 13)) refl
    where
      go : (o : Option Row) → find (is_yank r) (trees 13) ≡ o → IsTextIfAny (eval_all project (params ∷ r ∷ unwrap_or o [] ∷ [])) 8
      go None e = inl (omega arith, refl)
      go (Some y) e = inr (has_all IsYankedRow (trees 13) y yanks (find_has (is_yank r) (trees 13) y e).0).reason

  pub lists_records : AllByRecursion IsFiledRow (trees 8) → AllByRecursion IsYankedRow (trees 13) → (rows : List Row)
      → IsAnswer (from_with 8 more tests project (by_column 1)) (overlay trees []) params rows → AllByRecursion IsListedRow rows
  lists_records files yanks rows answer =
      let rs = trees 8 in
      let looks = all_weaker IsRow (λ r. matches_as Null (overlay trees []) tests more (params ∷ r ∷ [])
      ≡ cond (list_all (holds (env_of r)) tests) (env_of r ∷ []) []) looks_once rs all_rows in
      let same = all_weaker IsRow (λ r. list_all (holds (env_of r)) tests ≡ passes r) tested rs all_rows in
      read_all 8 more tests project (by_column 1) (overlay trees []) params env_of passes looks same IsFiledRow IsListedRow
      (λ r it. record {
        file = it.file;
        release = it.known.release;
        digest = it.known.digest;
        size = it.known.size;
        requires_python = it.known.requires_python;
        yanked = reason_text r yanks;
      }) rows answer files

  pub lists_files : (rows : List Row) → IsAnswer (from_with 8 more tests project (by_column 1)) (overlay trees []) params rows
      → map file_row_shown rows ≡ file_rows_in T name
  lists_files rows answer =
      let rs = trees 8 in
      let names = texts 4 (files_at 8) refl db h refl 1 _ refl refl refl refl in
      let releases = texts 4 (files_at 8) refl db h refl 2 _ refl refl refl refl in
      let lives = wholes 4 (files_at 8) refl db h refl 6 _ refl refl refl refl in
      let reasons = texts 6 (yanks_at 13) refl db h refl 2 _ refl refl refl refl in
      let first = all_both (IsText 1) (IsText 2) (λ r. IsText 1 r × IsText 2 r) (λ r a b. (a, b)) rs (files_keyed.texts db h) names in
      let second = all_both (IsText 3) (IsNumber 7) (λ r. IsText 3 r × IsNumber 7 r) (λ r a b. (a, b)) rs releases lives in
      let all = all_both _ _ IsRow (λ r a b. record { file = a.0; name = a.1; release = b.0; live = b.1 }) rs first second in
      let looks = all_weaker IsRow (λ r. matches_as Null (overlay trees []) tests more (params ∷ r ∷ [])
      ≡ cond (list_all (holds (env_of r)) tests) (env_of r ∷ []) []) looks_once rs all in
      let same = all_weaker IsRow (λ r. list_all (holds (env_of r)) tests ≡ passes r) tested rs all in
      let keyed = all_weaker IsRow (λ r. eval_all (col 1 1 ∷ []) (env_of r) ≡ Text (text_key r) ∷ []) (λ r is. ap (λ v. v ∷ []) is.file)
      rs all in
      let found = listed 8 more tests project 1 (overlay trees []) params env_of passes looks same file_row_shown
      (λ (row : FileRow). row.file) keyed rows answer in
      let listed_as : map (λ r. file_row_shown (eval_all project (env_of r))) (filter passes rs)
      ≡ map (λ r. file_row_in T name (text_key r, file_in r)) (filter passes rs) =
      map_with (λ r. Has rs r × (passes r ≡ true)) _ (λ r. file_row_in T name (text_key r, file_in r)) (λ r it. shown_as r reasons it.1)
      (filter passes rs) (filter_passes passes rs) in
      let entered : map (λ r. file_row_in T name (text_key r, file_in r)) (filter passes rs)
      ≡ map (file_row_in T name) (filter (λ e. is_undeleted_of name e.1) (map (λ r. (text_key r, file_in r)) rs)) =
      sym (ap (map (file_row_in T name)) (filter-map (λ e. is_undeleted_of name e.1) (λ r. (text_key r, file_in r)) rs)
      ∙ map-map (file_row_in T name) (λ r. (text_key r, file_in r)) (filter passes rs)) in
      let order = subst (λ l. IsPermutation l (map file_row_shown rows)) (listed_as ∙ entered) found.0 in
      sorted_entries nat_list_cmp_total exact_bytes text_key file_in (λ e. is_undeleted_of name e.1) (file_row_in T name)
      (λ (row : FileRow). row.file) (λ e. refl) rs (map file_row_shown rows) (files_keyed.apart db h) order found.1

pub sure : (name : Bytes) → IsSure select_files_text (Text name ∷ [])
unfolding understood everything IsSure
sure name = ((omega arith, refl, refl, refl, readable_left 8 13 on tests project (by_column 1) headings (Text name ∷ []) refl), refl)

pub records : (name : Bytes) (old new : State) (rows : List Row) → IsIndex old.now → Shown select_files_text (Text name ∷ []) old new rows
    → AllByRecursion IsFiledRow (old.now.trees 8) → AllByRecursion IsYankedRow (old.now.trees 13)
    → AllByRecursion IsListedRow rows
records name old new rows h shown files yanks =
    let answer = reads_as select_files_text (Text name ∷ []) old new index_schema h.schema _ compiled is_plain unlisted rows shown in
    lists_records name old.now h files yanks rows (answer.answer Null)

pub selects : (name : Bytes) (old new : State) (rows : List Row) → IsIndex old.now → Shown select_files_text (Text name ∷ []) old new rows
    → map file_row_shown rows ≡ file_rows_in (tables_in old.now.trees) name
selects name old new rows h shown =
    let answer = reads_as select_files_text (Text name ∷ []) old new index_schema h.schema _ compiled is_plain unlisted rows shown in
    lists_files name old.now h rows (answer.answer Null)
