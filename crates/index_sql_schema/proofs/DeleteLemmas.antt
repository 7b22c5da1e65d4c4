-- DELETE by the key of a table, or by the name that its key begins with.
use Rattle.index_sql_schema.proofs.Words.{◌≡◌, ℕ, Bool, not, List, [], ◌∷◌, Ok, refl, ◌∙◌, list_all, eq_by_cmp, remove, nat_list_cmp_total}
use Rattle.index_sql_schema.proofs.Words.{exact_bytes, is_eq-slice_cmp, Text, Row, Term, col, holds, Table, Enforced, Delete, works}
use Rattle.index_sql_schema.proofs.Words.{understood, State, Executes, IsPlain, command_of, all_weaker, Bytes, same, bytes_cmp, pair_cmp}
use Rattle.index_sql_schema.proofs.Words.{without_name, pair_total, exact_pair, map_from, index_schema, text_key, pair_key, IsIndex}
use Rattle.index_sql_schema.proofs.QueryShapes.{plan, from_one, is_param}
use Rattle.index_sql_schema.proofs.EditLemmas.{Alters}
use Rattle.index_sql_schema.proofs.KeyLemmas.{IsText, IsPair}
use Rattle.index_sql_schema.proofs.KeyedLemmas.{gone_is, kept_is}
use Rattle.index_sql_schema.proofs.TableLemmas.{TextKeyed, PairKeyed, key_test, pair_key_test}
use Rattle.index_sql_schema.proofs.WriteLemmas.{deletes_rows}

-- what is to be shown of the text of a DELETE that finds rows by these tests: no other table refers to its own
pub record Deletes (at : ℕ) (table : Table) (text : List ℕ) (tests : List Term) : Type 0 where
  pub compiled : command_of (understood index_schema text) ≡ Delete at (plan (from_one table.tree tests (col 1 0 ∷ []) []))
  pub is_plain : IsPlain (understood index_schema text)
  pub none : (olds : List Row) → works index_schema Enforced 0 table.tree olds [] ≡ []

module _ (at : ℕ) (table : Table) (t : TextKeyed at table) (text : List ℕ) (it : Deletes at table text (is_param 1 0 ∷ [])) where
  -- the record at the key goes
  pub deletes_text : {X : Type 0} (value : Row → X) (key : Bytes) (old new : State) (count : ℕ) → IsIndex old.now
      → Executes text (Text key ∷ []) old new (Ok count)
      → (map_from {R = bytes_cmp} text_key value (new.now.trees table.tree)
      ≡ remove (map_from text_key value (old.now.trees table.tree)) key) × Alters table.tree old.now new.now × IsIndex new.now
  deletes_text value key old new count h ran =
      let params = Text key ∷ [] in
      let here : Row → Bool = λ r. eq_by_cmp bytes_cmp key (text_key r) in
      let tests = all_weaker (IsText 1) (λ r. list_all (holds (params ∷ r ∷ [])) (is_param 1 0 ∷ []) ≡ here r)
      (λ r. key_test params 0 key r refl) (old.now.trees table.tree) (t.texts old.now h) in
      let did = deletes_rows at table t.is t.low text params it.is_plain old new count h (is_param 1 0 ∷ [])
      here it.compiled it.none tests ran in
      (gone_is nat_list_cmp_total exact_bytes text_key value table.tree t.apart old.now new.now key did.0, did.1.0, did.1.1)

module _ (at : ℕ) (table : Table) (t : PairKeyed at table) (text : List ℕ) (it : Deletes at table text (is_param 1 0 ∷ is_param 2 1 ∷ []))
  where
    -- the same of a key of two texts
    pub deletes_pair : {X : Type 0} (value : Row → X) (key : Bytes × Bytes) (old new : State) (count : ℕ) → IsIndex old.now
        → Executes text (Text key.0 ∷ Text key.1 ∷ []) old new (Ok count)
        → (map_from {R = pair_cmp} pair_key value (new.now.trees table.tree)
        ≡ remove (map_from pair_key value (old.now.trees table.tree)) key) × Alters table.tree old.now new.now × IsIndex new.now
    deletes_pair value key old new count h ran =
        let params = Text key.0 ∷ Text key.1 ∷ [] in
        let here : Row → Bool = λ r. eq_by_cmp pair_cmp key (pair_key r) in
        let tests = all_weaker IsPair (λ r. list_all (holds (params ∷ r ∷ [])) (is_param 1 0 ∷ is_param 2 1 ∷ []) ≡ here r)
        (λ r. pair_key_test params 0 1 key r refl refl) (old.now.trees table.tree) (t.pairs old.now h) in
        let did = deletes_rows at table t.is t.low text params it.is_plain old new count h (is_param 1 0 ∷ is_param 2 1 ∷ [])
        here it.compiled it.none tests ran in
        (gone_is pair_total exact_pair pair_key value table.tree t.apart old.now new.now key did.0, did.1.0, did.1.1)

module _ (at : ℕ) (table : Table) (t : PairKeyed at table) (text : List ℕ) (it : Deletes at table text (is_param 1 0 ∷ [])) where
  -- all records go whose key begins with the name
  pub deletes_name : {X : Type 0} (value : Row → X) (name : Bytes) (old new : State) (count : ℕ) → IsIndex old.now
      → Executes text (Text name ∷ []) old new (Ok count)
      → (map_from {R = pair_cmp} pair_key value (new.now.trees table.tree)
      ≡ without_name name (map_from pair_key value (old.now.trees table.tree))) × Alters table.tree old.now new.now × IsIndex new.now
  deletes_name value name old new count h ran =
      let params = Text name ∷ [] in
      let here : Row → Bool = λ r. same name (text_key r) in
      let tests = all_weaker IsPair (λ r. list_all (holds (params ∷ r ∷ [])) (is_param 1 0 ∷ []) ≡ here r)
      (λ r is. key_test params 0 name r refl is.0 ∙ is_eq-slice_cmp name (text_key r)) (old.now.trees table.tree) (t.pairs old.now h) in
      let did = deletes_rows at table t.is t.low text params it.is_plain old new count h (is_param 1 0 ∷ [])
      here it.compiled it.none tests ran in (
        kept_is pair_total exact_pair pair_key value table.tree t.apart old.now new.now (λ pair. not (same name pair.0)) did.0,
        did.1.0,
        did.1.1,
      )
