-- SELECT file FROM files by name: the files of the name, the deleted ones too.
use Rattle.index_sql_schema.proofs.Words.{◌≡◌, arith, IsPermutation, Bool, true, false, ◌&&◌, ◌||◌, cond, List, [], ◌∷◌, codes, filter, map}
use Rattle.index_sql_schema.proofs.Words.{refl, sym, ap, ap₂, ◌∙◌, AllByRecursion, list_all, list_any, nat_list_cmp_total}
use Rattle.index_sql_schema.proofs.Words.{list_any-IsPermutation, exact_bytes, is_eq-slice_cmp, everything, Null, Text, Row, column, bytes}
use Rattle.index_sql_schema.proofs.Words.{Term, col, eval_all, holds, understood, State, Shown, IsPlain, reads_as, all_weaker, last_term}
use Rattle.index_sql_schema.proofs.Words.{FileRecord, Bytes, same, index_schema, files_at, text_key, file_in, tables_in, IsIndex, IsSure}
use Rattle.index_rules.specs.Effect.{is_file_of}
use Rattle.index_sql_schema.proofs.RowLemmas.{any_at}
use Rattle.index_sql_schema.specs.ShownRows.{file_shown}
use Rattle.index_sql_schema.specs.StatementTexts.{select_named_text}
use Rattle.index_sql_schema.proofs.QueryShapes.{is_param}
use Rattle.index_sql_schema.proofs.KeyLemmas.{IsText, texts, text_test}
use Rattle.index_sql_schema.proofs.TableLemmas.{same-turned, files_keyed}
use Rattle.index_sql_schema.proofs.LookupLemmas.{Selects, shown_all}
use Rattle.index_sql_schema.proofs.SureLemmas.{readable_one}
use Rattle.index_sql_schema.proofs.WriteLemmas.{answered}

abbrev tests : List Term
tests = is_param 2 0 ∷ []

shown : Selects (files_at 8) select_named_text tests (col 1 1 ∷ [])
unfolding understood everything
shown = record { names = codes "file" ∷ []; compiled = refl; is_plain = (refl, refl); unlisted = refl }

pub sure : (name : Bytes) → IsSure select_named_text (Text name ∷ [])
unfolding understood everything IsSure
sure name = ((omega arith, refl, refl, refl, readable_one 8 tests (col 1 1 ∷ []) [] (codes "file" ∷ []) (Text name ∷ []) refl), refl)

pub is_plain : IsPlain (understood index_schema select_named_text)
is_plain = shown.is_plain

-- some row that is kept passes if some row passes and is kept
one_more : {A : Type 0} (p : A → Bool) (x : A) (kept passes : Bool) (xs : List A) (rest : Bool) → p x ≡ passes → list_any p xs ≡ rest
    → list_any p (cond kept (x ∷ xs) xs) ≡ ((passes && kept) || rest)
one_more p x true true xs rest here is = ap₂ (λ a b. a || b) here is
one_more p x true false xs rest here is = ap₂ (λ a b. a || b) here is
one_more p x false true xs rest here is = is
one_more p x false false xs rest here is = is

list_any-filter : {A : Type 0} (p q : A → Bool) (xs : List A) → list_any p (filter q xs) ≡ list_any (λ x. p x && q x) xs
list_any-filter p q [] = refl
list_any-filter p q (x ∷ xs) = one_more p x (q x) (p x) (filter q xs) _ refl (list_any-filter p q xs)

list_any-map : {A B : Type 0} (p : B → Bool) (f : A → B) (xs : List A) → list_any p (map f xs) ≡ list_any (λ x. p (f x)) xs
list_any-map p f [] = refl
list_any-map p f (x ∷ xs) = ap (λ b. p (f x) || b) (list_any-map p f xs)

list_any-same : {A : Type 0} (p q : A → Bool) → ((a : A) → p a ≡ q a) → (xs : List A) → list_any p xs ≡ list_any q xs
list_any-same p q each xs = λ i. list_any (λ a. each a i) xs

module _ (name : Bytes) where
  abbrev params : Row
  params = Text name ∷ []

  abbrev owns : Row → Bool
  owns r = same name (file_in r).project

  tested : (r : Row) → IsText 2 r → list_all (holds (params ∷ r ∷ [])) tests ≡ owns r
  tested r is = last_term (text_test params 2 0 r name refl is ∙ same-turned (bytes (column r 2)) name)

  found_named : (old new : State) (rows : List Row) → IsIndex old.now → Shown select_named_text params old new rows
      → (found : List Row) × IsPermutation (filter owns (old.now.trees 8)) found
      × (rows ≡ map (λ r. eval_all (col 1 1 ∷ []) (params ∷ r ∷ [])) found)
  found_named old new rows h ran =
      let rs = old.now.trees 8 in
      let answer = reads_as select_named_text params old new index_schema h.schema _ shown.compiled shown.is_plain shown.unlisted rows ran
      in
      let names = texts 4 (files_at 8) refl old.now h refl 1 _ refl refl refl refl in
      answered 4 (files_at 8) refl (λ db. refl) params tests (col 1 1 ∷ []) owns old.now.trees rows
      (all_weaker (IsText 2) (λ r. list_all (holds (params ∷ r ∷ [])) tests ≡ owns r) tested rs names) (answer.answer Null)

  -- what is known of the file in each row of the table is known of those that are shown
  pub records : (P Q : Row → Type 0) → ((r : Row) → P r → Q (column r 1 ∷ [])) → (old new : State) (rows : List Row) → IsIndex old.now
      → Shown select_named_text params old new rows
      → AllByRecursion P (old.now.trees 8) → AllByRecursion Q rows
  records P Q keeps old new rows h ran all =
      let found = found_named old new rows h ran in
      shown_all P Q (λ r. eval_all (col 1 1 ∷ []) (params ∷ r ∷ [])) keeps owns (old.now.trees 8) found.0 rows found.1 found.2 all

  -- a file is in a row that is shown exactly if its record has the name
  pub selects : (old new : State) (rows : List Row) → IsIndex old.now → Shown select_named_text params old new rows
      → (file : Bytes) → list_any (λ r. same file (file_shown r)) rows ≡ is_file_of (tables_in old.now.trees).files name file
  selects old new rows h ran file =
      let rs = old.now.trees 8 in
      let found = found_named old new rows h ran in
      ap (list_any (λ r. same file (file_shown r))) found.2
      ∙ list_any-map (λ r. same file (file_shown r)) (λ r. eval_all (col 1 1 ∷ []) (params ∷ r ∷ [])) found.0
      ∙ sym (list_any-IsPermutation (λ r. same file (text_key r)) (filter owns rs) found.0 found.1)
      ∙ list_any-filter (λ r. same file (text_key r)) owns rs
      ∙ list_any-same _ _ (λ r. ap (λ b. b && owns r) (sym (is_eq-slice_cmp file (text_key r)))) rs
      ∙ any_at nat_list_cmp_total exact_bytes text_key file_in file (λ (known : FileRecord). same name known.project) rs
      (files_keyed.apart old.now h)
