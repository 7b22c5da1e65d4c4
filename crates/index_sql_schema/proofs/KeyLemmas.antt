-- What the rules say of the rows of any table: their types, and that no two have one key.
use Rattle.index_sql_schema.proofs.Words.{ℤ, ◌≡◌, ℕ, suc, ◌+◌, ◌&&◌, ◌||◌, not, Bool, true, false, List, [], ◌∷◌, drop, slice_get}
use Rattle.index_sql_schema.proofs.Words.{slice_index_or, Some, None, refl, sym, ap, ap₂, subst, ◌∙◌, arith, true≢false, AllByRecursion}
use Rattle.index_sql_schema.proofs.Words.{is_eq-slice_cmp, bytes_eq, eq_by_cmp, Value, Null, Int, Text, Blob, Order, Row, column, bytes}
use Rattle.index_sql_schema.proofs.Words.{plain, first_key, rowid, IsAscending, is_null, holds, Eq, Ne, Column, Index, Table, Constraint}
use Rattle.index_sql_schema.proofs.Words.{Datatype, NotNull, is_of, Keeps, passes, are_typed, are_present, has_computed, guards, agree}
use Rattle.index_sql_schema.proofs.Words.{at_texts, at_blobs, at_ints, last_term, id_in, Database, all_both, all_weaker, all_from_test}
use Rattle.index_sql_schema.proofs.Words.{all-slice_get, none_from_any, bytes_cmp, pair_cmp, same_pair, pair_total, nat_list_cmp_total}
use Rattle.index_sql_schema.proofs.Words.{text_key, pair_key, eq_by_cmp_equiv, index_schema, rowid_in, HasRowid, AreRows, IsIndex}
use Rattle.std.specs.Ordering.{int_eq}
use Rattle.sqlite_schema.specs.declared.schema.Kind.{Kind}
use Rattle.sqlite_schema.specs.declared.schema.Kind.TheVariants as kind
use Rattle.sqlite_schema.specs.declared.schema.Constraint.TheVariants.{Unique}
use Rattle.sqlite_schema.specs.Rules.{clashes, differ}
use Rattle.index_sql_schema.proofs.QueryShapes.{is_param}
use Rattle.index_sql_schema.proofs.EditLemmas.{as_int, Differ, other_way}
use Rattle.index_sql_schema.proofs.TypedLemmas.{typed_at, present_at, as_text, as_blob, as_whole, first_part}

pub column_drop : (r : Row) (at : ℕ) → slice_index_or (drop 1 r) at Null ≡ column r (suc at)
column_drop [] at = refl
column_drop (v ∷ vs) at = refl

pub keeps : (db : Database) → IsIndex db → (rule : Constraint) → Keeps rule index_schema db.trees
keeps db h rule = subst (λ s. Keeps rule s db.trees) h.schema (h.sound.obeys.rules rule)

unclashing : (a b : Bool) → a ≡ true → not (a && b) ≡ true → b ≡ false
unclashing true true e h = absurd (true≢false (sym h))
unclashing true false e h = refl
unclashing false b e h = absurd (true≢false (sym e))

not_both : (a b : Bool) → (a && b) ≡ false → b ≡ true → a ≡ false
not_both true b h t = absurd (true≢false (sym t ∙ h))
not_both false b h t = refl

not_either : (a b : Bool) → (a || b) ≡ false → b ≡ false
not_either true b h = absurd (true≢false h)
not_either false b h = h

later_differs : (x r : Row) → HasRowid x → HasRowid r → Differ x r → differ (rowid r) (rowid x) ≡ true
later_differs x r a b apart =
    let back = other_way x r apart in
    ap₂ differ (as_int (rowid r) b) (as_int (rowid x) a) ∙ at_ints false Ne (id_in (rowid r)) (id_in (rowid x)) ∙ ap not back

-- each later row has another key
pub keys_apart : (o : Order) (places : List ℕ) (rs : List Row) → AreRows rs → AllByRecursion (λ row. clashes o places rs row ≡ false) rs
    → IsAscending (λ a b. agree o places b places a ≡ false) rs
keys_apart o places [] are none = tt
keys_apart o places (x ∷ rs) are none = (first, keys_apart o places rs (are.0.1, are.1.1) rest)
  where
    others : AllByRecursion (λ r. (agree o places r places x && differ (rowid r) (rowid x)) ≡ false) rs
    others = none_from_any (λ r. agree o places r places x && differ (rowid r) (rowid x)) rs
        (not_either (agree o places x places x && differ (rowid x) (rowid x)) _ none.0)

    first : AllByRecursion (λ r. agree o places r places x ≡ false) rs
    first =
        let differing = all_both _ _ (λ r. differ (rowid r) (rowid x) ≡ true) (λ r apart whole. later_differs x r are.1.0 whole apart)
        rs are.0.0 are.1.1 in
        all_both _ _ (λ r. agree o places r places x ≡ false) (λ r h t. not_both _ _ h t) rs others differing

    rest : AllByRecursion (λ row. clashes o places rs row ≡ false) rs
    rest = all_weaker _ (λ row. clashes o places rs row ≡ false) (λ row h. not_either _ _ h) rs none.1

ascending_with : {A : Type 0} (P : A → Type 0) (R S : A → A → Type 0) → ((a b : A) → P a → P b → R a b → S a b) → (xs : List A)
    → AllByRecursion P xs → IsAscending R xs → IsAscending S xs
ascending_with P R S f [] all up = tt
ascending_with P R S f (x ∷ xs) all up = (
  all_both P (R x) (S x) (λ y p r. f x y all.0 p r) xs all.1 up.0,
  ascending_with P R S f xs all.1 up.1,
)

-- ---- values of one type

abbrev pub IsBlob : ℕ → Row → Type 0
IsBlob at r = column r at ≡ Blob (bytes (column r at))

abbrev pub IsNumber : ℕ → Row → Type 0
IsNumber at r = column r at ≡ Int (id_in (column r at))

-- ---- texts as keys

abbrev pub IsText : ℕ → Row → Type 0
IsText at r = column r at ≡ Text (bytes (column r at))

pub agree_texts : (a b : Row) → IsText 1 a → IsText 1 b → agree plain (1 ∷ []) b (1 ∷ []) a ≡ bytes_eq (text_key b) (text_key a)
unfolding first_key
agree_texts a b p q = rw (p, q) (last_term (at_texts false Eq (text_key b) (text_key a) ∙ is_eq-slice_cmp (text_key b) (text_key a)))

swapped_texts : (a b : Row) → bytes_eq (text_key b) (text_key a) ≡ false → eq_by_cmp bytes_cmp (text_key a) (text_key b) ≡ false
swapped_texts a b h = (eq_by_cmp_equiv nat_list_cmp_total).symm (text_key a) (text_key b) ∙ is_eq-slice_cmp (text_key b) (text_key a) ∙ h

abbrev pub IsPair : Row → Type 0
IsPair r = IsText 1 r × IsText 2 r

pub agree_pairs : (a b : Row) → IsPair a → IsPair b
    → agree plain (1 ∷ 2 ∷ []) b (1 ∷ 2 ∷ []) a ≡ (bytes_eq (text_key b) (text_key a) && bytes_eq (bytes (column b 2)) (bytes (column a 2)))
unfolding first_key
agree_pairs a b p q = rw (p.0, p.1, q.0, q.1) (ap₂ (λ x y. x && y)
    (at_texts false Eq (text_key b) (text_key a) ∙ is_eq-slice_cmp (text_key b) (text_key a))
    (last_term (at_texts false Eq (bytes (column b 2)) (bytes (column a 2)) ∙ is_eq-slice_cmp (bytes (column b 2)) (bytes (column a 2)))))

swapped_pairs : (a b : Row) → (bytes_eq (text_key b) (text_key a) && bytes_eq (bytes (column b 2)) (bytes (column a 2))) ≡ false
    → eq_by_cmp pair_cmp (pair_key a) (pair_key b) ≡ false
swapped_pairs a b h = (eq_by_cmp_equiv pair_total).symm (pair_key a) (pair_key b) ∙ same_pair (pair_key b) (pair_key a) ∙ h

module _ (at : ℕ) (table : Table) (is : slice_get index_schema.tables at ≡ Some table) (db : Database) (h : IsIndex db) where
  abbrev pub rows : List Row
  rows = db.trees table.tree

  pub are_rows : AreRows rows
  are_rows = all-slice_get (λ (t : Table). AreRows (db.trees t.tree)) index_schema.tables at table is h.numbered

  pub passing : (rule : Constraint) → AllByRecursion (λ row. passes rule index_schema db.trees table row ≡ true) rows
  passing rule = all-slice_get (λ (t : Table). AllByRecursion (λ row. passes rule index_schema db.trees t row ≡ true) (db.trees t.tree))
      index_schema.tables at table is (keeps db h rule)

  -- a column that takes one type and no NULL has a value of that type in each row
  typed_values : (type : Kind) (P : Value → Type 0) → ((v : Value) → is_of type v ≡ true → is_null v ≡ false → P v) → table.key ≡ None
      → (place : ℕ) (c : Column) → slice_get table.columns place ≡ Some c → c.is_strict ≡ true → c.not_null ≡ true → c.kind ≡ type
      → AllByRecursion (λ r. P (column r (suc place))) rows
  typed_values type P typed_value keyless place c found strict needed same =
      all_both _ _ (λ r. P (column r (suc place))) one rows (passing Datatype) (passing NotNull)
    where
      one : (r : Row) → (are_typed table.key 0 table.columns (drop 1 r) && has_computed table r) ≡ true
          → are_present table.key 0 table.columns r ≡ true → P (column r (suc place))
      one r typed present =
          let t = subst (λ k. are_typed k 0 table.columns (drop 1 r) ≡ true) keyless (first_part _ _ typed) in
          let p = subst (λ k. are_present k 0 table.columns r ≡ true) keyless present in
          let suited = typed_at table.columns (drop 1 r) 0 place c t found strict in
          let none : is_null (column r (suc place)) ≡ false = let same : 0 + place + 1 ≡ suc place = omega arith in
          subst (λ n. is_null (column r n) ≡ false) same (present_at table.columns r 0 place c p found needed) in
          typed_value (column r (suc place)) (subst (λ k. is_of k (column r (suc place)) ≡ true) same
          (rw (column_drop r place) at (rw strict at suited))) none

  pub texts : table.key ≡ None → (place : ℕ) (c : Column) → slice_get table.columns place ≡ Some c → c.is_strict ≡ true → c.not_null ≡ true
      → c.kind ≡ kind.Text → AllByRecursion (IsText (suc place)) rows
  texts = typed_values kind.Text (λ v. v ≡ Text (bytes v)) as_text

  pub blobs : table.key ≡ None → (place : ℕ) (c : Column) → slice_get table.columns place ≡ Some c → c.is_strict ≡ true → c.not_null ≡ true
      → c.kind ≡ kind.Blob → AllByRecursion (IsBlob (suc place)) rows
  blobs = typed_values kind.Blob (λ v. v ≡ Blob (bytes v)) as_blob

  pub wholes : table.key ≡ None → (place : ℕ) (c : Column) → slice_get table.columns place ≡ Some c → c.is_strict ≡ true → c.not_null ≡ true
      → c.kind ≡ kind.Integer → AllByRecursion (IsNumber (suc place)) rows
  wholes = typed_values kind.Integer (λ v. v ≡ Int (id_in v)) as_whole

  -- a UNIQUE tells the rows apart
  pub apart_by : (place : ℕ) (index : Index) → slice_get index_schema.indexes place ≡ Some index → guards index table ≡ true
      → IsAscending (λ a b. agree index.order index.columns b index.columns a ≡ false) rows
  apart_by place index found own =
      let free = all_weaker _ (λ row. clashes index.order index.columns rows row ≡ false)
      (λ row t. unclashing (guards index table) _ own
      (all-slice_get (λ (x : Index). not (guards x table && clashes x.order x.columns rows row) ≡ true)
      index_schema.indexes place index found
      (all_from_test (λ (x : Index). not (guards x table && clashes x.order x.columns rows row)) index_schema.indexes t))) rows
      (passing Unique) in
      keys_apart index.order index.columns rows are_rows free

  -- rows with a text as their key
  pub texts_apart : (place : ℕ) (index : Index) → slice_get index_schema.indexes place ≡ Some index → guards index table ≡ true
      → index.order ≡ plain → index.columns ≡ 1 ∷ [] → AllByRecursion (IsText 1) rows
      → IsAscending (λ a b. eq_by_cmp bytes_cmp (text_key a) (text_key b) ≡ false) rows
  texts_apart place index found own order columns all =
      let up = subst (λ cs. IsAscending (λ a b. agree index.order cs b cs a ≡ false) rows) columns (apart_by place index found own) in
      let plain_up = subst (λ o. IsAscending (λ a b. agree o (1 ∷ []) b (1 ∷ []) a ≡ false) rows) order up in
      ascending_with (IsText 1) _ _ (λ a b p q r. swapped_texts a b (sym (agree_texts a b p q) ∙ r)) rows all plain_up

  -- rows with two texts as their key
  pub pairs_apart : (place : ℕ) (index : Index) → slice_get index_schema.indexes place ≡ Some index → guards index table ≡ true
      → index.order ≡ plain → index.columns ≡ 1 ∷ 2 ∷ [] → AllByRecursion IsPair rows
      → IsAscending (λ a b. eq_by_cmp pair_cmp (pair_key a) (pair_key b) ≡ false) rows
  pairs_apart place index found own order columns all =
      let up = subst (λ cs. IsAscending (λ a b. agree index.order cs b cs a ≡ false) rows) columns (apart_by place index found own) in
      let plain_up = subst (λ o. IsAscending (λ a b. agree o (1 ∷ 2 ∷ []) b (1 ∷ 2 ∷ []) a ≡ false) rows) order up in
      ascending_with IsPair _ _ (λ a b p q r. swapped_pairs a b (sym (agree_pairs a b p q) ∙ r)) rows all plain_up

-- ---- keys as WHERE tests them

-- the row has this text
abbrev pub has_text : ℕ → List ℕ → Row → Bool
has_text place text r = bytes_eq (bytes (column r place)) text

abbrev pub eval_at : Row → Row → ℕ → ℕ → Bool
eval_at params r place param = holds (params ∷ r ∷ []) (is_param place param)

-- a text column against a text
pub text_test : (params : Row) (place param : ℕ) (r : Row) (text : List ℕ) → column params param ≡ Text text → IsText place r
    → eval_at params r place param ≡ has_text place text r
text_test params place param r text given is =
    rw (given, is) (at_texts false Eq (bytes (column r place)) text ∙ is_eq-slice_cmp (bytes (column r place)) text)

-- the rowid against a number
pub rowid_test : (params : Row) (param : ℕ) (r : Row) (id : ℤ) → column params param ≡ Int id → HasRowid r
    → eval_at params r 0 param ≡ int_eq (rowid_in r) id
rowid_test params param r id given is = rw (given, as_int (rowid r) is) (at_ints false Eq (rowid_in r) id)

-- a column of bytes against bytes
pub blob_test : (params : Row) (place param : ℕ) (r : Row) (value : List ℕ) → column params param ≡ Blob value → IsBlob place r
    → eval_at params r place param ≡ has_text place value r
blob_test params place param r value given is =
    rw (given, is) (at_blobs false Eq (bytes (column r place)) value ∙ is_eq-slice_cmp (bytes (column r place)) value)
