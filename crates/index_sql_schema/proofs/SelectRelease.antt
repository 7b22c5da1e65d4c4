-- SELECT FROM files by name and release: whether the release has an undeleted file.
use Rattle.index_sql_schema.proofs.Words.{◌≡◌, ◌==◌, Bool, true, false, ◌&&◌, ◌||◌, cond, List, [], ◌∷◌, codes, filter, map, slice_get}
use Rattle.index_sql_schema.proofs.Words.{refl, sym, ap, ap₂, ◌∙◌, arith, list_all, list_any, entries, nat_list_cmp_total}
use Rattle.index_sql_schema.proofs.Words.{list_any-IsPermutation, exact_bytes, everything, Null, Text, Row, column, bytes, Term, col}
use Rattle.index_sql_schema.proofs.Words.{eval_all, holds, Eq, IsAnswer, Output, overlay, Trees, Select, understood, reads_listing, State}
use Rattle.index_sql_schema.proofs.Words.{Shown, IsPlain, command_of, reads_as, all_weaker, all_both, last_term, Bytes, same, index_schema}
use Rattle.index_sql_schema.proofs.Words.{files_at, text_key, file_in, tables_in, number_in, IsIndex, IsSure}
use Rattle.std.proofs.Common.{take, is_some}
use Rattle.index_rules.specs.Facts.{has_release_in, is_undeleted_of_release}
use Rattle.index_sql_schema.proofs.EntryLemmas.{entries_permutation}
use Rattle.index_sql_schema.specs.StatementTexts.{select_release_text}
use Rattle.index_sql_schema.proofs.QueryShapes.{first_from, from_one, is_param, plan}
use Rattle.index_sql_schema.proofs.KeyLemmas.{IsText, IsNumber, texts, wholes, text_test}
use Rattle.index_sql_schema.proofs.NumberLemmas.{is_number, number_test}
use Rattle.index_sql_schema.proofs.TableLemmas.{same-turned, files_keyed}
use Rattle.index_sql_schema.proofs.WriteLemmas.{answered}
use Rattle.index_sql_schema.proofs.SureLemmas.{readable_first}

abbrev tests : List Term
tests = is_number Eq 7 1 ∷ is_param 2 0 ∷ is_param 3 1 ∷ []

compiled : command_of (understood index_schema select_release_text) ≡ Select (plan (first_from 8 tests (col 1 0 ∷ []))) (codes "rowid" ∷ [])
unfolding understood everything
compiled = refl

pub is_plain : IsPlain (understood index_schema select_release_text)
unfolding understood everything
is_plain = (refl, refl)

unlisted : reads_listing index_schema select_release_text ≡ false
unfolding understood everything
unlisted = refl

-- one of the rows is found if all of them have a first
first_is : {A : Type 0} (xs : List A) → is_some (slice_get (take 1 xs) 0) ≡ is_some (slice_get xs 0)
first_is [] = refl
first_is (x ∷ xs) = refl

first_shown : (db : Trees) (params : Row) (rows : List Row) → IsAnswer (first_from 8 tests (col 1 0 ∷ [])) db params rows
    → (all : List Row) × IsAnswer (from_one 8 tests (col 1 0 ∷ []) []) db params all
    × (is_some (slice_get rows 0) ≡ is_some (slice_get all 0))
first_shown db params rows a = (
  map (λ (o : Output). o.1) a.ordered,
  record {
    staged = a.staged;
    grouped = a.grouped;
    kept = a.kept;
    distinct = a.distinct;
    ordered = a.ordered;
    same = a.same;
    sorted = a.sorted;
    shown = refl;
  },
  ap (λ l. is_some (slice_get l 0)) a.shown ∙ first_is (map (λ (o : Output). o.1) a.ordered),
)

-- a list has a first element if some element passes a test that all pass
first_any : {A : Type 0} (xs : List A) → is_some (slice_get xs 0) ≡ list_any (λ _. true) xs
first_any [] = refl
first_any (x ∷ xs) = refl

list_any-map : {A B : Type 0} (p : B → Bool) (f : A → B) (xs : List A) → list_any p (map f xs) ≡ list_any (λ x. p (f x)) xs
list_any-map p f [] = refl
list_any-map p f (x ∷ xs) = ap (λ b. p (f x) || b) (list_any-map p f xs)

list_any-filter : {A : Type 0} (p : A → Bool) (xs : List A) → list_any (λ _. true) (filter p xs) ≡ list_any p xs
list_any-filter p [] = refl
list_any-filter p (x ∷ xs) = elim (p x) as (λ b. list_any (λ _. true) (cond b (x ∷ filter p xs) (filter p xs)) ≡ (b || list_any p xs))
    [ true ↦ refl | false ↦ list_any-filter p xs ]

regrouped : (a b c : Bool) → (a && (b && c)) ≡ ((a && b) && c)
regrouped true b c = refl
regrouped false b c = refl

-- a row whose texts and number are such
record IsRow (r : Row) : Type 0 where
  name : IsText 2 r
  release : IsText 3 r
  live : IsNumber 7 r

module _ (name release : Bytes) where
  abbrev params : Row
  params = Text name ∷ Text release ∷ []

  abbrev passes : Row → Bool
  passes r = is_undeleted_of_release name release (file_in r)

  tested : (r : Row) → IsRow r → list_all (holds (params ∷ r ∷ [])) tests ≡ passes r
  tested r is =
      ap₂ (λ a b. a && b) (number_test params 7 0 r is.live)
      (ap₂ (λ a b. a && b) (text_test params 2 0 r name refl is.name ∙ same-turned (bytes (column r 2)) name)
      (last_term (text_test params 3 1 r release refl is.release ∙ same-turned (bytes (column r 3)) release)))
      ∙ regrouped (number_in (column r 7) == 1) (same name (bytes (column r 2))) (same release (bytes (column r 3)))

  pub selects : (old new : State) (rows : List Row) → IsIndex old.now → Shown select_release_text params old new rows
      → is_some (slice_get rows 0) ≡ has_release_in (tables_in old.now.trees) name release
  selects old new rows h ran =
      let rs = old.now.trees 8 in
      let answer = reads_as select_release_text params old new index_schema h.schema _ compiled is_plain unlisted rows ran in
      let names = texts 4 (files_at 8) refl old.now h refl 1 _ refl refl refl refl in
      let releases = texts 4 (files_at 8) refl old.now h refl 2 _ refl refl refl refl in
      let lives = wholes 4 (files_at 8) refl old.now h refl 6 _ refl refl refl refl in
      let both = all_both (IsText 2) (IsText 3) (λ r. IsText 2 r × IsText 3 r) (λ r a b. (a, b)) rs names releases in
      let all = all_both _ (IsNumber 7) IsRow (λ r t n. record { name = t.0; release = t.1; live = n }) rs both lives in
      let one = first_shown (overlay old.now.trees []) params rows (answer.answer Null) in
      let found = answered 4 (files_at 8) refl (λ db. refl) params tests (col 1 0 ∷ []) passes old.now.trees one.0
      (all_weaker IsRow (λ r. list_all (holds (params ∷ r ∷ [])) tests ≡ passes r) tested rs all) one.1 in
      let entered = entries_permutation nat_list_cmp_total exact_bytes text_key file_in rs (files_keyed.apart old.now h) in
      one.2 ∙ ap (λ l. is_some (slice_get l 0)) found.2
      ∙ first_any (map (λ r. eval_all (col 1 0 ∷ []) (params ∷ r ∷ [])) found.0)
      ∙ list_any-map (λ _. true) _ found.0
      ∙ sym (list_any-IsPermutation (λ _. true) (filter passes rs) found.0 found.1)
      ∙ list_any-filter passes rs
      ∙ sym (list_any-map (λ file. is_undeleted_of_release name release file.1) (λ r. (text_key r, file_in r)) rs)
      ∙ list_any-IsPermutation (λ file. is_undeleted_of_release name release file.1) _ (entries (tables_in old.now.trees).files) entered

pub sure : (name release : Bytes) → IsSure select_release_text (Text name ∷ Text release ∷ [])
unfolding understood everything IsSure
sure name release = (
  (
    omega arith,
    refl,
    refl,
    refl,
    readable_first 8 tests (col 1 0 ∷ []) (codes "rowid" ∷ []) (Text name ∷ Text release ∷ []) refl,
  ),
  refl,
)
