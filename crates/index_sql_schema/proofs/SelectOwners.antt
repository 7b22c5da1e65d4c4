-- SELECT user FROM owners .. ORDER BY user: the owners of a name, in byte order.
use Rattle.index_sql_schema.proofs.Words.{◌≡◌, Bool, false, List, [], ◌∷◌, codes, filter, map, refl, ap, subst, ◌∙◌, IsPermutation, arith}
use Rattle.index_sql_schema.proofs.Words.{list_all, AllByRecursion, nat_list_cmp_total, IsPermutation-map, IsPermutation-sym}
use Rattle.index_sql_schema.proofs.Words.{IsPermutation-trans, is_eq-slice_cmp, everything, Null, Text, Row, column, bytes, col, eval_all}
use Rattle.index_sql_schema.proofs.Words.{holds, end, overlay, Select, understood, reads_listing, State, Shown, IsPlain, command_of}
use Rattle.index_sql_schema.proofs.Words.{reads_as, all_weaker, all_of, map-map, filter-map, IsPermutation-filter, sorted_unique, Bytes}
use Rattle.index_sql_schema.proofs.Words.{same, bytes_cmp, pair_total, exact_pair, index_schema, tables_in, text_key, pair_key, nothing_in}
use Rattle.index_sql_schema.proofs.Words.{IsIndex, IsSure, IsOwnedRow}
use Rattle.std.specs.FinMap.{keys}
use Rattle.index_rules.specs.Tables.{owners_in}
use Rattle.index_rules.proofs.OwnerLists.{IsStrictlySortedBy-owners_in}
use Rattle.index_sql_schema.proofs.EntryLemmas.{ascends, entries_permutation}
use Rattle.index_sql_schema.specs.ShownRows.{user_shown}
use Rattle.index_sql_schema.specs.StatementTexts.{select_owners_text}
use Rattle.index_sql_schema.specs.RecordRows.{IsOwnerRow}
use Rattle.index_sql_schema.proofs.SelectLemmas.{read_all}
use Rattle.index_sql_schema.proofs.SureLemmas.{readable_one}
use Rattle.index_sql_schema.proofs.QueryShapes.{plan, from_one, is_param}
use Rattle.index_sql_schema.proofs.KeyLemmas.{IsPair}
use Rattle.index_sql_schema.proofs.TableLemmas.{key_test, owners_keyed}
use Rattle.index_sql_schema.proofs.OrderLemmas.{by_column, listed}

compiled : command_of (understood index_schema select_owners_text)
    ≡ Select (plan (from_one 6 (is_param 1 0 ∷ []) (col 1 2 ∷ []) (by_column 2))) (codes "user" ∷ [])
unfolding understood everything
compiled = refl

pub is_plain : IsPlain (understood index_schema select_owners_text)
unfolding understood everything
is_plain = (refl, refl)

unlisted : reads_listing index_schema select_owners_text ≡ false
unfolding understood everything
unlisted = refl

module _ (name : Bytes) where
  abbrev params : Row
  params = Text name ∷ []

  abbrev owns : Row → Bool
  owns r = same name (text_key r)

  tested : (r : Row) → IsPair r → list_all (holds (params ∷ r ∷ [])) (is_param 1 0 ∷ []) ≡ owns r
  tested r is = key_test params 0 name r refl is.0 ∙ is_eq-slice_cmp name (text_key r)

  pub sure : IsSure select_owners_text params
  unfolding understood everything IsSure
  sure = (
    (omega arith, refl, refl, refl, readable_one 6 (is_param 1 0 ∷ []) (col 1 2 ∷ []) (by_column 2) (codes "user" ∷ []) params refl),
    refl,
  )

  -- the rows that it shows are those of users
  pub records : (old new : State) (rows : List Row) → IsIndex old.now → Shown select_owners_text params old new rows
      → AllByRecursion IsOwnedRow (old.now.trees 6) → AllByRecursion IsOwnerRow rows
  records old new rows h shown all =
      let db = old.now.trees in
      let it = reads_as select_owners_text params old new index_schema h.schema _ compiled is_plain unlisted rows shown in
      let tests = all_weaker IsPair (λ r. list_all (holds (params ∷ r ∷ [])) (is_param 1 0 ∷ []) ≡ owns r) tested (db 6)
      (owners_keyed.pairs old.now h) in
      read_all 6 end (is_param 1 0 ∷ []) (col 1 2 ∷ []) (by_column 2) (overlay db []) params (λ r. params ∷ r ∷ []) owns
      (all_of _ (λ r. refl) (db 6)) tests IsOwnedRow IsOwnerRow (λ r it. it.user) rows (it.answer Null) all

  pub selects : (old new : State) (rows : List Row) → IsIndex old.now → Shown select_owners_text params old new rows
      → map user_shown rows ≡ owners_in (tables_in old.now.trees) name
  selects old new rows h shown =
      let db = old.now.trees in
      let T = tables_in db in
      let it = reads_as select_owners_text params old new index_schema h.schema _ compiled is_plain unlisted rows shown in
      let pairs = owners_keyed.pairs old.now h in
      let tests = all_weaker IsPair (λ r. list_all (holds (params ∷ r ∷ [])) (is_param 1 0 ∷ []) ≡ owns r) tested (db 6) pairs in
      let ordered = all_weaker IsPair (λ r. eval_all (col 1 2 ∷ []) (params ∷ r ∷ []) ≡ Text (bytes (column r 2)) ∷ [])
      (λ r p. ap (λ v. v ∷ []) p.1) (db 6) pairs in
      let found = listed 6 end (is_param 1 0 ∷ []) (col 1 2 ∷ []) 2 (overlay db []) params (λ r. params ∷ r ∷ []) owns
      (all_of _ (λ r. refl) (db 6)) tests user_shown (λ user. user) ordered rows (it.answer Null) in
      let entered = entries_permutation pair_total exact_pair pair_key nothing_in (db 6) (owners_keyed.apart old.now h) in
      let keyed : IsPermutation (map pair_key (db 6)) (keys T.owners) =
      subst (λ l. IsPermutation l (keys T.owners)) (map-map (λ e. e.0) _ (db 6)) (IsPermutation-map (λ e. e.0) _ _ entered) in
      let kept = IsPermutation-map (λ p. p.1) _ _ (IsPermutation-filter (λ pair. same name pair.0) _ _ keyed) in
      let owners : IsPermutation (map (λ r. bytes (column r 2)) (filter owns (db 6))) (owners_in T name) =
      subst (λ l. IsPermutation l (owners_in T name))
      (ap (map (λ p. p.1)) (filter-map (λ pair. same name pair.0) pair_key (db 6)) ∙ map-map (λ p. p.1) pair_key (filter owns (db 6)))
      kept in
      sorted_unique bytes_cmp nat_list_cmp_total (owners_in T name) (map user_shown rows)
      (ascends bytes_cmp _ (IsStrictlySortedBy-owners_in T name)) (IsPermutation-trans _ _ _ (IsPermutation-sym _ _ owners) found.0)
      found.1
