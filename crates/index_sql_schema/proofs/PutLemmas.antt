-- INSERT .. ON CONFLICT DO UPDATE by the key of a table: the key has this record.
use Rattle.index_sql_schema.proofs.Words.{◌≡◌, ℕ, ℤ, Bool, true, false, not, ◌||◌, ◌/◌, List, [], ◌∷◌, ◌++◌, length, Some, Ok, refl, sym}
use Rattle.index_sql_schema.proofs.Words.{ap, ◌∙◌, true≢false, Ordering, Less, Equal, Greater, eq_by_cmp, is_eq, insert, nat_list_cmp_total}
use Rattle.index_sql_schema.proofs.Words.{exact_bytes, bytes_eq-Decides, Null, Int, Text, Row, column, rowid, Term, col, eval_all, Table}
use Rattle.index_sql_schema.proofs.Words.{Enforced, InsertOr, Abort, Values, agree, works, conflicts, cast_row, value_rows, shown, stamped}
use Rattle.index_sql_schema.proofs.Words.{understood, State, Executes, IsPlain, command_of, all_weaker, all_both, all-filter, Bytes}
use Rattle.index_sql_schema.proofs.Words.{bytes_cmp, pair_cmp, pair_total, exact_pair, map_from, index_schema, text_key, pair_key, rowid_in}
use Rattle.index_sql_schema.proofs.Words.{HasRowid, IsIndex, IsRecordIn}
use Rattle.sqlite_value.specs.Keys as keys
use Rattle.index_sql_schema.proofs.Permutations.{all_permutation}
use Rattle.index_sql_schema.proofs.QueryShapes.{on_conflict}
use Rattle.index_sql_schema.proofs.EditLemmas.{as_int, Alters, altered}
use Rattle.index_sql_schema.proofs.KeyLemmas.{IsText, IsPair, agree_texts, agree_pairs, are_rows}
use Rattle.index_sql_schema.proofs.KeyedLemmas.{once, put_is}
use Rattle.index_sql_schema.proofs.RowLemmas.{or_false}
use Rattle.index_sql_schema.proofs.TableLemmas.{TextKeyed, PairKeyed, is_key, is_pair_key}
use Rattle.index_sql_schema.proofs.WriteLemmas.{puts_row}

tied : (o : Ordering) → is_eq o ≡ true → o ≡ Equal
tied Less h = absurd (true≢false (sym h))
tied Equal h = refl
tied Greater h = absurd (true≢false (sym h))

-- what is to be shown of the text and the values, whatever the key is: the cells are the parameters, each column in its
-- place, and no other table sees the row change
pub record PutsAt (at : ℕ) (table : Table) (text : List ℕ) (cells : Row) (terms project : List Term) (width : ℕ) (places : List ℕ)
    : Type 0 where
  pub is_plain : IsPlain (understood index_schema text)
  pub compiled : command_of (understood index_schema text)
      ≡ InsertOr at Abort (Values terms width) (on_conflict table.tree (length cells) places (col 1 0 ∷ project) ∷ [])
  pub uncounted : table.is_counted ≡ false
  pub source : value_rows (stamped table cells) width (length terms / width) terms ≡ (Null ∷ cells) ∷ []
  pub cast_new : cast_row table (Null ∷ cells) ≡ Null ∷ cells
  pub cast_again : (id : ℤ) → cast_row table (Int id ∷ cells) ≡ Int id ∷ cells
  pub conflicting : (id : ℤ) (r : Row) → conflicts (Some places) index_schema.indexes table (Int id ∷ cells) r
      ≡ (agree keys.plain places r places (Int id ∷ cells) || false)
  pub none : (olds : List Row) (id : ℤ) → works index_schema Enforced 0 table.tree olds ((Int id ∷ cells) ∷ []) ≡ []

-- what DO UPDATE makes of a row
abbrev pub updated : Table → Row → List Term → ℤ → Row → Row
updated table cells project made r = cast_row table
    (eval_all project ((cells ++ Int (rowid_in r) ∷ shown table (Int made ∷ cells)) ∷ r ∷ []))

module _ (at : ℕ) (table : Table) (t : TextKeyed at table) (text : List ℕ) (key : Bytes) (more : Row) (terms project : List Term)
    (width : ℕ) where
  abbrev cells : Row
  cells = Text key ∷ more

  -- the record at the key is that of the new row
  pub puts_text : {X : Type 0} (value : Row → X) (v : X) → ((id : ℤ) → value (Int id ∷ cells) ≡ v)
      → PutsAt at table text cells terms project width (1 ∷ [])
      → ((made : ℤ) (r : Row) → rowid r ≡ Int (rowid_in r) → column r 1 ≡ Text key
      → updated table cells project made r ≡ Int (rowid_in r) ∷ cells)
      → ((id : ℤ) → IsRecordIn table.tree (Int id ∷ cells)) → (old new : State) (count : ℕ) → IsIndex old.now
      → Executes text cells old new (Ok count)
      → (map_from {R = bytes_cmp} text_key value (new.now.trees table.tree)
      ≡ insert (map_from text_key value (old.now.trees table.tree)) key v) × Alters table.tree old.now new.now × IsIndex new.now
  puts_text value v constant it becomes fits old new count h ran =
      let rows = old.now.trees table.tree in
      let here : Row → Bool = λ r. eq_by_cmp bytes_cmp key (text_key r) in
      let meets : (id : ℤ) (r : Row) → IsText 1 r → conflicts (Some (1 ∷ [])) index_schema.indexes table (Int id ∷ cells) r ≡ here r =
      λ id r is. it.conflicting id r ∙ or_false _ ∙ agree_texts (Int id ∷ cells) r refl is ∙ is_key key (text_key r) in
      let turns : (made : ℤ) (r : Row) → IsText 1 r → HasRowid r → here r ≡ true
      → updated table cells project made r ≡ Int (rowid_in r) ∷ cells =
      λ made r is whole k. becomes made r (as_int (rowid r) whole)
      (is ∙ ap Text ((bytes_eq-Decides (text_key r) key).0 (is_key key (text_key r) ∙ k))) in
      let did = puts_row at table t.is t.low text cells it.is_plain old new count h cells here terms project width (1 ∷ []) (record {
        compiled = it.compiled;
        uncounted = it.uncounted;
        source = it.source;
        cast_new = it.cast_new;
        cast_again = it.cast_again;
        meets = λ id. all_weaker (IsText 1) (λ r. conflicts (Some (1 ∷ [])) index_schema.indexes table (Int id ∷ cells) r ≡ here r)
            (meets id) rows (t.texts old.now h);
        short = once nat_list_cmp_total exact_bytes text_key value table.tree t.apart old.now h key;
        casts = λ made. all_both (IsText 1) HasRowid (λ r. here r ≡ true
            → updated table cells project made r ≡ Int (rowid_in r) ∷ cells) (turns made) rows (t.texts old.now h)
            (are_rows at table t.is old.now h).1;
        none = it.none;
      }) ran in
      let is = put_is nat_list_cmp_total exact_bytes text_key value table.tree t.apart old.now new.now did.1 (Int did.0.0 ∷ cells)
      did.0.1 in
      let alters = altered table.tree old.now new.now h did.1 did.0.3
      (λ before. all_permutation (IsRecordIn table.tree) _ _ did.0.1 (
        fits did.0.0,
        all-filter (IsRecordIn table.tree) (λ r. not (here r)) rows before,
      )) in
      (is ∙ ap (insert (map_from text_key value rows) key) (constant did.0.0), alters, did.1)

module _ (at : ℕ) (table : Table) (t : PairKeyed at table) (text : List ℕ) (first second : Bytes) (more : Row) (terms project : List Term)
    (width : ℕ) where
  abbrev pair_cells : Row
  pair_cells = Text first ∷ Text second ∷ more

  -- the same of a key of two texts
  pub puts_pair : {X : Type 0} (value : Row → X) (v : X) → ((id : ℤ) → value (Int id ∷ pair_cells) ≡ v)
      → PutsAt at table text pair_cells terms project width (1 ∷ 2 ∷ [])
      → ((made : ℤ) (r : Row) → rowid r ≡ Int (rowid_in r) → column r 1 ≡ Text first → column r 2 ≡ Text second
      → updated table pair_cells project made r ≡ Int (rowid_in r) ∷ pair_cells)
      → ((id : ℤ) → IsRecordIn table.tree (Int id ∷ pair_cells)) → (old new : State) (count : ℕ) → IsIndex old.now
      → Executes text pair_cells old new (Ok count)
      → (map_from {R = pair_cmp} pair_key value (new.now.trees table.tree)
      ≡ insert (map_from pair_key value (old.now.trees table.tree)) (first, second) v) × Alters table.tree old.now new.now
      × IsIndex new.now
  puts_pair value v constant it becomes fits old new count h ran =
      let rows = old.now.trees table.tree in
      let here : Row → Bool = λ r. eq_by_cmp pair_cmp (first, second) (pair_key r) in
      let meets : (id : ℤ) (r : Row) → IsPair r
      → conflicts (Some (1 ∷ 2 ∷ [])) index_schema.indexes table (Int id ∷ pair_cells) r ≡ here r =
      λ id r is. it.conflicting id r ∙ or_false _ ∙ agree_pairs (Int id ∷ pair_cells) r (refl, refl) is
      ∙ is_pair_key first second (pair_key r) in
      let same : (r : Row) → here r ≡ true → pair_key r ≡ (first, second) =
      λ r k. sym (exact_pair (first, second) (pair_key r) (tied _ k)) in
      let turns : (made : ℤ) (r : Row) → IsPair r → HasRowid r → here r ≡ true
      → updated table pair_cells project made r ≡ Int (rowid_in r) ∷ pair_cells =
      λ made r is whole k. becomes made r (as_int (rowid r) whole) (is.0 ∙ ap (λ p. Text p.0) (same r k))
      (is.1 ∙ ap (λ p. Text p.1) (same r k)) in
      let did = puts_row at table t.is t.low text pair_cells it.is_plain old new count h pair_cells here terms project width (1 ∷ 2 ∷ [])
      (record {
        compiled = it.compiled;
        uncounted = it.uncounted;
        source = it.source;
        cast_new = it.cast_new;
        cast_again = it.cast_again;
        meets = λ id. all_weaker IsPair (λ r. conflicts (Some (1 ∷ 2 ∷ [])) index_schema.indexes table (Int id ∷ pair_cells) r ≡ here r)
            (meets id) rows (t.pairs old.now h);
        short = once pair_total exact_pair pair_key value table.tree t.apart old.now h (first, second);
        casts = λ made. all_both IsPair HasRowid (λ r. here r ≡ true
            → updated table pair_cells project made r ≡ Int (rowid_in r) ∷ pair_cells) (turns made) rows (t.pairs old.now h)
            (are_rows at table t.is old.now h).1;
        none = it.none;
      }) ran in
      let is = put_is pair_total exact_pair pair_key value table.tree t.apart old.now new.now did.1 (Int did.0.0 ∷ pair_cells) did.0.1 in
      let alters = altered table.tree old.now new.now h did.1 did.0.3
      (λ before. all_permutation (IsRecordIn table.tree) _ _ did.0.1 (
        fits did.0.0,
        all-filter (IsRecordIn table.tree) (λ r. not (here r)) rows before,
      )) in
      (is ∙ ap (insert (map_from pair_key value rows) (first, second)) (constant did.0.0), alters, did.1)
