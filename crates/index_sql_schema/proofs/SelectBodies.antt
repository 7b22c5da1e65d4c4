-- SELECT FROM blobs .. ORDER BY file: what is stored for each file, in byte order.
use Rattle.index_sql_schema.proofs.Words.{◌≡◌, Bool, true, false, ℕ, List, [], ◌∷◌, codes, map, refl, sym, ap, subst, ◌∙◌, IsPermutation}
use Rattle.index_sql_schema.proofs.Words.{arith, entries, AllByRecursion, nat_list_cmp_total, exact_bytes, everything, Null, Text, Row}
use Rattle.index_sql_schema.proofs.Words.{Term, col, eval_all, end, overlay, Select, understood, reads_listing, State, Shown, IsPlain}
use Rattle.index_sql_schema.proofs.Words.{command_of, reads_as, all_weaker, all_of, map-map, filter-map, filter_all, Bytes, index_schema}
use Rattle.index_sql_schema.proofs.Words.{tables_in, text_key, body_in, AreRecords, IsStoredRow, IsIndex, IsSure}
use Rattle.index_sql_schema.proofs.EntryLemmas.{sorted_entries}
use Rattle.index_sql_schema.specs.ShownRows.{stored_in}
use Rattle.index_sql_schema.specs.StatementTexts.{select_bodies_text}
use Rattle.index_sql_schema.proofs.SelectLemmas.{read_all}
use Rattle.index_sql_schema.proofs.ShownRecords.{known_records}
use Rattle.index_sql_schema.proofs.SureLemmas.{readable_one}
use Rattle.index_sql_schema.proofs.QueryShapes.{plan, from_one}
use Rattle.index_sql_schema.proofs.KeyLemmas.{IsText}
use Rattle.index_sql_schema.proofs.TableLemmas.{blobs_keyed}
use Rattle.index_sql_schema.proofs.OrderLemmas.{by_column, listed}

abbrev project : List Term
project = col 1 0 ∷ col 1 1 ∷ col 1 2 ∷ []

abbrev headings : List (List ℕ)
headings = codes "rowid" ∷ codes "file" ∷ codes "body" ∷ []

-- a file with what is stored for it
abbrev stored_of : Bytes × Bytes → Bytes × Bytes
stored_of e = (e.0, e.1)

same_stored : (es : List (Bytes × Bytes)) → map stored_of es ≡ es
same_stored [] = refl
same_stored (e ∷ es) = ap (λ es. e ∷ es) (same_stored es)

compiled : command_of (understood index_schema select_bodies_text) ≡ Select (plan (from_one 11 [] project (by_column 1))) headings
unfolding understood everything
compiled = refl

pub is_plain : IsPlain (understood index_schema select_bodies_text)
unfolding understood everything
is_plain = (refl, refl)

unlisted : reads_listing index_schema select_bodies_text ≡ false
unfolding understood everything
unlisted = refl

pub sure : IsSure select_bodies_text []
unfolding understood everything IsSure
sure = ((omega arith, refl, refl, refl, readable_one 11 [] project (by_column 1) headings [] refl), refl)

-- the rows that it shows are those of records
pub records : (old new : State) (rows : List Row) → IsIndex old.now → AreRecords old.now → Shown select_bodies_text [] old new rows
    → AllByRecursion IsStoredRow rows
records old new rows h are shown =
    let rs = old.now.trees 11 in
    let answer = reads_as select_bodies_text [] old new index_schema h.schema _ compiled is_plain unlisted rows shown in
    read_all 11 end [] project (by_column 1) (overlay old.now.trees []) [] (λ r. [] ∷ r ∷ []) (λ r. true) (all_of _ (λ r. refl) rs)
    (all_of _ (λ r. refl) rs) IsStoredRow IsStoredRow (λ r it. record { file = it.file; body = it.body }) rows (answer.answer Null)
    (known_records old.now h are).1.1.1.1.1.0

pub selects : (old new : State) (rows : List Row) → IsIndex old.now → Shown select_bodies_text [] old new rows
    → map stored_in rows ≡ entries (tables_in old.now.trees).bodies
selects old new rows h shown =
    let rs = old.now.trees 11 in
    let passes : Bytes × Bytes → Bool = λ e. true in
    let answer = reads_as select_bodies_text [] old new index_schema h.schema _ compiled is_plain unlisted rows shown in
    let keyed = all_weaker (IsText 1) (λ r. eval_all (col 1 1 ∷ []) ([] ∷ r ∷ []) ≡ Text (text_key r) ∷ []) (λ r t. ap (λ v. v ∷ []) t) rs
    (blobs_keyed.texts old.now h) in
    let found = listed 11 end [] project 1 (overlay old.now.trees []) [] (λ r. [] ∷ r ∷ []) (λ r. true) (all_of _ (λ r. refl) rs)
    (all_of _ (λ r. refl) rs) stored_in (λ (row : Bytes × Bytes). row.0) keyed rows (answer.answer Null) in
    let order = subst (λ l. IsPermutation l (map stored_in rows))
    (sym (ap (map stored_of) (filter-map passes (λ r. (text_key r, body_in r)) rs)
    ∙ map-map stored_of (λ r. (text_key r, body_in r)) _)) found.0 in
    sorted_entries nat_list_cmp_total exact_bytes text_key body_in passes stored_of (λ (row : Bytes × Bytes). row.0) (λ e. refl) rs
    (map stored_in rows) (blobs_keyed.apart old.now h) order found.1
    ∙ ap (map stored_of) (filter_all passes (entries (tables_in old.now.trees).bodies) (all_of _ (λ e. refl) _))
    ∙ same_stored (entries (tables_in old.now.trees).bodies)
