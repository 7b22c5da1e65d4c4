-- SELECT version FROM meta: the version of an index.
use Rattle.index_sql_schema.proofs.Words.{◌≡◌, pos, false, ◌&&◌, List, [], ◌∷◌, codes, Some, refl, sym, ap, ap₂, ◌∙◌, list_all}
use Rattle.index_sql_schema.proofs.Words.{is_eq-slice_cmp, everything, Null, Int, Text, Row, column, bytes, rowid, eval_all, Term, lit, col}
use Rattle.index_sql_schema.proofs.Words.{op2, holds, Compare, Binary, Eq, Select, Database, IsDatabase, understood, State, Shown, IsPlain}
use Rattle.index_sql_schema.proofs.Words.{command_of, all_both, at_ints, at_texts, last_term, number_in, index_schema, rowid_in, HasRowid}
use Rattle.index_sql_schema.proofs.Words.{AreRows, Schema, first_version_schema, reads_listing, reads_as, slice_get, option_map, inl, inr}
use Rattle.index_sql_schema.proofs.Words.{subst, slice_get-filter, meta_at, is_version}
use Rattle.index_sql_schema.proofs.Permutations.{short_permutation}
use Rattle.index_sql_schema.specs.FirstVersion.{IsAnyVersion}
use Rattle.index_sql_schema.proofs.VersionLemmas.{kind_texts, one_version}
use Rattle.index_sql_schema.proofs.QueryShapes.{plan, from_one}
use Rattle.index_sql_schema.proofs.EditLemmas.{as_int}
use Rattle.index_sql_schema.proofs.KeyLemmas.{IsText}
use Rattle.index_sql_schema.specs.Index.{version_in}
use Rattle.index_sql_schema.proofs.LookupLemmas.{first_shown}
use Rattle.index_sql_schema.proofs.WriteLemmas.{answered}
use Rattle.index_sql_schema.specs.StatementTexts.{select_version_text}

abbrev tests : List Term
tests = op2 (Compare Eq Binary) (col 1 0) (lit (Int (pos 1))) ∷ op2 (Compare Eq Binary) (col 1 2) (lit (Text (codes "python-index"))) ∷ []

-- what is to be shown of the text under a schema that begins with meta
record Looks (schema : Schema) : Type 0 where
  first : slice_get schema.tables 0 ≡ Some (meta_at 0)
  compiled : command_of (understood schema select_version_text) ≡ Select (plan (from_one 0 tests (col 1 3 ∷ []) [])) (codes "version" ∷ [])
  is_plain : IsPlain (understood schema select_version_text)
  unlisted : reads_listing schema select_version_text ≡ false

looks : Looks index_schema
unfolding understood everything
looks = record { first = refl; compiled = refl; is_plain = (refl, refl); unlisted = refl }

looks_first : Looks first_version_schema
unfolding understood everything
looks_first = record { first = refl; compiled = refl; is_plain = (refl, refl); unlisted = refl }

pub is_plain : (db : Database) → IsAnyVersion db → IsPlain (understood db.schema select_version_text)
is_plain db (inl h) = subst (λ s. IsPlain (understood s select_version_text)) (sym h.schema) looks.is_plain
is_plain db (inr h) = subst (λ s. IsPlain (understood s select_version_text)) (sym h.schema) looks_first.is_plain

tested : (r : Row) → IsText 2 r → HasRowid r → list_all (holds ([] ∷ r ∷ [])) tests ≡ is_version r
tested r is whole = rw (is, as_int (rowid r) whole)
    (ap₂ (λ a b. a && b) (at_ints false Eq (rowid_in r) (pos 1))
    (last_term (at_texts false Eq (bytes (column r 2)) (codes "python-index")
    ∙ is_eq-slice_cmp (bytes (column r 2)) (codes "python-index"))))

selects_by : (schema : Schema) → Looks schema → (old new : State) (rows : List Row) → old.now.schema ≡ schema → IsDatabase old.now
    → AreRows (old.now.trees 0)
    → Shown select_version_text [] old new rows → option_map (λ r. number_in (column r 0)) (slice_get rows 0) ≡ version_in old.now.trees
selects_by schema it old new rows has sound are shown =
    let db = old.now.trees in
    let read = reads_as select_version_text [] old new schema has _ it.compiled it.is_plain it.unlisted rows shown in
    let same = all_both (IsText 2) HasRowid (λ r. list_all (holds ([] ∷ r ∷ [])) tests ≡ is_version r) tested (db 0)
    (kind_texts schema it.first old.now has sound) are.1 in
    let found = answered 0 (meta_at 0) refl (λ d. refl) [] tests (col 1 3 ∷ []) is_version db rows same (read.answer Null) in
    first_shown (λ r. number_in (column r 0)) (λ r. number_in (column r 3)) (λ r. eval_all (col 1 3 ∷ []) ([] ∷ r ∷ [])) (λ r. refl)
    found.0 rows found.2
    ∙ ap (λ l. option_map (λ r. number_in (column r 3)) (slice_get l 0)) (short_permutation _ found.0 (one_version (db 0) are) found.1)
    ∙ ap (option_map (λ r. number_in (column r 3))) (slice_get-filter is_version (db 0))

-- the first row of the answer has the version
pub selects : (old new : State) (rows : List Row) → IsAnyVersion old.now → Shown select_version_text [] old new rows
    → option_map (λ r. number_in (column r 0)) (slice_get rows 0) ≡ version_in old.now.trees
selects old new rows (inl h) = selects_by index_schema looks old new rows h.schema h.sound h.numbered.0
selects old new rows (inr h) = selects_by first_version_schema looks_first old new rows h.schema h.sound h.numbered.0
