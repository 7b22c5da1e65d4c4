-- SELECT FROM users by the token: who bears it.
use Rattle.index_sql_schema.proofs.Words.{◌≡◌, Bool, true, false, List, [], ◌∷◌, codes, map, filter, slice_get, option_map, inl, refl, sym}
use Rattle.index_sql_schema.proofs.Words.{subst, ◌∙◌, IsPermutation, arith, list_all, nat_list_cmp_total, IsPermutation-sym, exact_bytes}
use Rattle.index_sql_schema.proofs.Words.{everything, Null, Blob, Row, column, bytes, Term, col, eval_all, holds, Has, understood, State}
use Rattle.index_sql_schema.proofs.Words.{Shown, reads_as, Database, all_weaker, last_term, UserRecord, Bytes, same, index_schema, users_at}
use Rattle.index_sql_schema.proofs.Words.{text_key, user_in, tables_in, IsIndex, AllByRecursion, IsAccountRow, IsSure}
use Rattle.index_rules.specs.Facts.{IsBearer}
use Rattle.index_sql_schema.specs.ShownRows.{account_in}
use Rattle.index_sql_schema.specs.StatementTexts.{select_bearer_text}
use Rattle.index_sql_schema.proofs.QueryShapes.{is_param}
use Rattle.index_sql_schema.proofs.EditLemmas.{has_all, has_filter, has_permutation, filter_passes}
use Rattle.index_sql_schema.proofs.KeyLemmas.{IsBlob, blobs, blob_test}
use Rattle.index_sql_schema.proofs.KeyedLemmas.{row_at_key, get_row}
use Rattle.index_sql_schema.proofs.TableLemmas.{users_keyed, same-turned}
use Rattle.index_sql_schema.proofs.LookupLemmas.{Selects, first_shown, shown_all}
use Rattle.index_sql_schema.proofs.WriteLemmas.{answered}
use Rattle.index_sql_schema.proofs.SureLemmas.{readable_one}
use Rattle.index_sql_schema.proofs.ShownRecords.{account_shown}

abbrev project : List Term
project = col 1 0 ∷ col 1 1 ∷ col 1 2 ∷ col 1 3 ∷ []

pub shown : Selects (users_at 1) select_bearer_text (is_param 3 0 ∷ []) project
unfolding understood everything
shown = record {
  names = codes "rowid" ∷ codes "user" ∷ codes "office" ∷ codes "token" ∷ [];
  compiled = refl;
  is_plain = (refl, refl);
  unlisted = refl;
}

module _ (token : Bytes) where
  abbrev bears : Row → Bool
  bears r = same token (bytes (column r 3))

  tested : (r : Row) → IsBlob 3 r → list_all (holds ((Blob token ∷ []) ∷ r ∷ [])) (is_param 3 0 ∷ []) ≡ bears r
  tested r is = last_term (blob_test (Blob token ∷ []) 3 0 r token refl is ∙ same-turned (bytes (column r 3)) token)

  -- the first of the rows found, or nobody
  bearer_is : (db : Database) → IsIndex db → (found : List Row) → IsPermutation (filter bears (db.trees 1)) found
      → IsBearer (tables_in db.trees) token (option_map account_in (slice_get found 0))
  bearer_is db h [] none = λ user account has.
      let it = row_at_key nat_list_cmp_total exact_bytes text_key user_in 1 users_keyed.apart db user account has in
      subst (λ (it : UserRecord). same token it.token ≡ false) it.3 (unborne it.0 it.1)
    where
      unborne : (r : Row) → Has (db.trees 1) r → bears r ≡ false
      unborne r has = go (bears r) refl
        where
          go : (b : Bool) → bears r ≡ b → b ≡ false
          go true e = absurd (has_permutation r (filter bears (db.trees 1)) [] none (has_filter bears (db.trees 1) r has e))
          go false e = refl
  bearer_is db h (r ∷ found) order =
      let passed = has_permutation r (r ∷ found) (filter bears (db.trees 1)) (IsPermutation-sym _ _ order) (inl refl) in
      let it = has_all _ (filter bears (db.trees 1)) r (filter_passes bears (db.trees 1)) passed in
      (get_row nat_list_cmp_total exact_bytes text_key user_in 1 users_keyed.apart db h r it.0, it.1)

  found_with : (old new : State) (rows : List Row) → IsIndex old.now → Shown select_bearer_text (Blob token ∷ []) old new rows
      → (found : List Row) × IsPermutation (filter bears (old.now.trees 1)) found
      × (rows ≡ map (λ r. eval_all project ((Blob token ∷ []) ∷ r ∷ [])) found)
  found_with old new rows h ran =
      let params = Blob token ∷ [] in
      let answer = reads_as select_bearer_text params old new index_schema h.schema _ shown.compiled shown.is_plain shown.unlisted rows ran
      in
      let tokens = blobs 1 (users_at 1) refl old.now h refl 2 _ refl refl refl refl in
      let tests = all_weaker (IsBlob 3) (λ r. list_all (holds (params ∷ r ∷ [])) (is_param 3 0 ∷ []) ≡ bears r) tested (old.now.trees 1)
      tokens in
      answered 1 (users_at 1) refl (λ db. refl) params (is_param 3 0 ∷ []) project bears old.now.trees rows tests (answer.answer Null)

  pub selects : (old new : State) (rows : List Row) → IsIndex old.now → Shown select_bearer_text (Blob token ∷ []) old new rows
      → IsBearer (tables_in old.now.trees) token (option_map account_in (slice_get rows 0))
  selects old new rows h ran =
      let found = found_with old new rows h ran in
      let first = first_shown account_in account_in (λ r. eval_all project ((Blob token ∷ []) ∷ r ∷ [])) (λ r. refl) found.0 rows found.2 in
      subst (IsBearer (tables_in old.now.trees) token) (sym first) (bearer_is old.now h found.0 found.1)

  -- the rows that it shows are those of records
  pub records : (old new : State) (rows : List Row) → IsIndex old.now → Shown select_bearer_text (Blob token ∷ []) old new rows
      → AllByRecursion IsAccountRow (old.now.trees 1) → AllByRecursion IsAccountRow rows
  records old new rows h ran all =
      let found = found_with old new rows h ran in
      shown_all IsAccountRow IsAccountRow (λ r. eval_all project ((Blob token ∷ []) ∷ r ∷ [])) account_shown bears (old.now.trees 1)
      found.0 rows found.1 found.2 all

pub sure : (token : Bytes) → IsSure select_bearer_text (Blob token ∷ [])
unfolding understood everything IsSure
sure token = (
  (
    omega arith,
    refl,
    refl,
    refl,
    readable_one 1 (is_param 3 0 ∷ []) project []
        (codes "rowid" ∷ codes "user" ∷ codes "office" ∷ codes "token" ∷ []) (Blob token ∷ []) refl,
  ),
  refl,
)
