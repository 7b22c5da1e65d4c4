-- SELECT by the key of a table: the first row of the answer has the record.
use Rattle.index_sql_schema.proofs.Words.{◌≡◌, ℕ, Bool, false, List, [], ◌∷◌, map, filter, slice_get, Option, Some, None, option_map, refl}
use Rattle.index_sql_schema.proofs.Words.{sym, ap, subst, ◌∙◌, IsPermutation, list_all, AllByRecursion, eq_by_cmp, get, nat_list_cmp_total}
use Rattle.index_sql_schema.proofs.Words.{exact_bytes, Null, Text, Row, Term, eval_all, holds, Table, Select, understood, reads_listing}
use Rattle.index_sql_schema.proofs.Words.{State, Shown, IsPlain, command_of, reads_as, all_weaker, all-filter, all_map, Bytes, bytes_cmp}
use Rattle.index_sql_schema.proofs.Words.{pair_cmp, pair_total, exact_pair, map_from, index_schema, text_key, pair_key, IsIndex}
use Rattle.index_sql_schema.proofs.Permutations.{all_permutation}
use Rattle.index_sql_schema.proofs.QueryShapes.{plan, from_one, is_param}
use Rattle.index_sql_schema.proofs.KeyLemmas.{IsText, IsPair}
use Rattle.index_sql_schema.proofs.KeyedLemmas.{found_is}
use Rattle.index_sql_schema.proofs.TableLemmas.{TextKeyed, PairKeyed, key_test, pair_key_test}
use Rattle.index_sql_schema.proofs.WriteLemmas.{answered}

option_map-option_map : {A B C : Type 0} (g : B → C) (f : A → B) (o : Option A)
    → option_map g (option_map f o) ≡ option_map (λ a. g (f a)) o
option_map-option_map g f None = refl
option_map-option_map g f (Some a) = refl

first-map : {A B : Type 0} (f : A → B) (xs : List A) → slice_get (map f xs) 0 ≡ option_map f (slice_get xs 0)
first-map f [] = refl
first-map f (x ∷ xs) = refl

-- what the first row shows is what the first row of the table that was found has
pub first_shown : {X : Type 0} (read value : Row → X) (show : Row → Row) → ((r : Row) → read (show r) ≡ value r) → (found rows : List Row)
    → rows ≡ map show found
    → option_map read (slice_get rows 0) ≡ option_map value (slice_get found 0)
first_shown read value show same found rows is =
    ap (λ l. option_map read (slice_get l 0)) is ∙ ap (option_map read) (first-map show found)
    ∙ option_map-option_map read show (slice_get found 0) ∙ same_value (slice_get found 0)
  where
    same_value : (o : Option Row) → option_map (λ r. read (show r)) o ≡ option_map value o
    same_value None = refl
    same_value (Some r) = ap Some (same r)

-- what is known of each row of the table is known of the rows that it is shown as
pub shown_all : (P Q : Row → Type 0) (show : Row → Row) → ((r : Row) → P r → Q (show r)) → (p : Row → Bool) (table found rows : List Row)
    → IsPermutation (filter p table) found → rows ≡ map show found → AllByRecursion P table → AllByRecursion Q rows
shown_all P Q show keeps p table found rows order is all =
    subst (AllByRecursion Q) (sym is) (all_map Q show found
    (all_weaker P (λ r. Q (show r)) keeps found (all_permutation P (filter p table) found order (all-filter P p table all))))

-- what is to be shown of the text of a query that looks rows up by these tests
pub record Selects (table : Table) (text : List ℕ) (tests project : List Term) : Type 0 where
  pub names : List (List ℕ)
  pub compiled : command_of (understood index_schema text) ≡ Select (plan (from_one table.tree tests project [])) names
  pub is_plain : IsPlain (understood index_schema text)
  pub unlisted : reads_listing index_schema text ≡ false

module _ (at : ℕ) (table : Table) (t : TextKeyed at table) (text : List ℕ) (project : List Term)
    (it : Selects table text (is_param 1 0 ∷ []) project) where
  found_text : (key : Bytes) (old new : State) (rows : List Row) → IsIndex old.now → Shown text (Text key ∷ []) old new rows
      → (found : List Row) × IsPermutation (filter (λ r. eq_by_cmp bytes_cmp key (text_key r)) (old.now.trees table.tree)) found
      × (rows ≡ map (λ r. eval_all project ((Text key ∷ []) ∷ r ∷ [])) found)
  found_text key old new rows h shown =
      let params = Text key ∷ [] in
      let answer = reads_as text params old new index_schema h.schema _ it.compiled it.is_plain it.unlisted rows shown in
      let here : Row → Bool = λ r. eq_by_cmp bytes_cmp key (text_key r) in
      let tests = all_weaker (IsText 1) (λ r. list_all (holds (params ∷ r ∷ [])) (is_param 1 0 ∷ []) ≡ here r)
      (λ r. key_test params 0 key r refl) (old.now.trees table.tree) (t.texts old.now h) in
      answered at table t.is t.low params (is_param 1 0 ∷ []) project here old.now.trees rows tests (answer.answer Null)

  -- the first row has the record at the key
  pub selects_text : {X : Type 0} (value : Row → X) → ((params r : Row) → value (eval_all project (params ∷ r ∷ [])) ≡ value r)
      → (key : Bytes) (old new : State) (rows : List Row)
      → IsIndex old.now → Shown text (Text key ∷ []) old new rows
      → option_map value (slice_get rows 0) ≡ get (map_from {R = bytes_cmp} text_key value (old.now.trees table.tree)) key
  selects_text value same key old new rows h shown =
      let found = found_text key old new rows h shown in
      first_shown value value (λ r. eval_all project ((Text key ∷ []) ∷ r ∷ [])) (same (Text key ∷ [])) found.0 rows found.2
      ∙ found_is nat_list_cmp_total exact_bytes text_key value table.tree t.apart old.now h key found.0 found.1

  -- what is known of each row of the table is known of those that are shown
  pub shows_text : (P Q : Row → Type 0) → ((params r : Row) → P r → Q (eval_all project (params ∷ r ∷ [])))
      → (key : Bytes) (old new : State) (rows : List Row)
      → IsIndex old.now → Shown text (Text key ∷ []) old new rows → AllByRecursion P (old.now.trees table.tree) → AllByRecursion Q rows
  shows_text P Q keeps key old new rows h shown all =
      let found = found_text key old new rows h shown in
      shown_all P Q (λ r. eval_all project ((Text key ∷ []) ∷ r ∷ [])) (keeps (Text key ∷ [])) (λ r. eq_by_cmp bytes_cmp key (text_key r))
      (old.now.trees table.tree) found.0 rows found.1 found.2 all

module _ (at : ℕ) (table : Table) (t : PairKeyed at table) (text : List ℕ) (project : List Term)
    (it : Selects table text (is_param 1 0 ∷ is_param 2 1 ∷ []) project) where
  found_pair : (key : Bytes × Bytes) (old new : State) (rows : List Row) → IsIndex old.now
      → Shown text (Text key.0 ∷ Text key.1 ∷ []) old new rows
      → (found : List Row) × IsPermutation (filter (λ r. eq_by_cmp pair_cmp key (pair_key r)) (old.now.trees table.tree)) found
      × (rows ≡ map (λ r. eval_all project ((Text key.0 ∷ Text key.1 ∷ []) ∷ r ∷ [])) found)
  found_pair key old new rows h shown =
      let params = Text key.0 ∷ Text key.1 ∷ [] in
      let answer = reads_as text params old new index_schema h.schema _ it.compiled it.is_plain it.unlisted rows shown in
      let here : Row → Bool = λ r. eq_by_cmp pair_cmp key (pair_key r) in
      let tests = all_weaker IsPair (λ r. list_all (holds (params ∷ r ∷ [])) (is_param 1 0 ∷ is_param 2 1 ∷ []) ≡ here r)
      (λ r. pair_key_test params 0 1 key r refl refl) (old.now.trees table.tree) (t.pairs old.now h) in
      answered at table t.is t.low params (is_param 1 0 ∷ is_param 2 1 ∷ []) project here old.now.trees rows tests (answer.answer Null)

  -- the same of a key of two texts
  pub selects_pair : {X : Type 0} (value : Row → X) → ((params r : Row) → value (eval_all project (params ∷ r ∷ [])) ≡ value r)
      → (key : Bytes × Bytes) (old new : State) (rows : List Row)
      → IsIndex old.now → Shown text (Text key.0 ∷ Text key.1 ∷ []) old new rows
      → option_map value (slice_get rows 0) ≡ get (map_from {R = pair_cmp} pair_key value (old.now.trees table.tree)) key
  selects_pair value same key old new rows h shown =
      let found = found_pair key old new rows h shown in
      first_shown value value (λ r. eval_all project ((Text key.0 ∷ Text key.1 ∷ []) ∷ r ∷ [])) (same (Text key.0 ∷ Text key.1 ∷ []))
      found.0 rows found.2
      ∙ found_is pair_total exact_pair pair_key value table.tree t.apart old.now h key found.0 found.1

  -- what is known of each row of the table is known of those that are shown
  pub shows_pair : (P Q : Row → Type 0) → ((params r : Row) → P r → Q (eval_all project (params ∷ r ∷ [])))
      → (key : Bytes × Bytes) (old new : State) (rows : List Row)
      → IsIndex old.now → Shown text (Text key.0 ∷ Text key.1 ∷ []) old new rows → AllByRecursion P (old.now.trees table.tree)
      → AllByRecursion Q rows
  shows_pair P Q keeps key old new rows h shown all =
      let found = found_pair key old new rows h shown in
      shown_all P Q (λ r. eval_all project ((Text key.0 ∷ Text key.1 ∷ []) ∷ r ∷ [])) (keeps (Text key.0 ∷ Text key.1 ∷ []))
      (λ r. eq_by_cmp pair_cmp key (pair_key r)) (old.now.trees table.tree) found.0 rows found.1 found.2 all
