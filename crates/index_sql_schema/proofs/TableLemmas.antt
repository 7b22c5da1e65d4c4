-- The key of each table: one text or two.
use Rattle.index_sql_schema.proofs.Words.{◌≡◌, ℕ, ◌&&◌, Bool, true, false, cond, [], ◌∷◌, slice_get, refl, sym, ap₂, ◌∙◌, ℤ, bytes_eq}
use Rattle.index_sql_schema.proofs.Words.{AllByRecursion, list_all, eq_by_cmp, eq_by_cmp_equiv, is_eq-slice_cmp, Value, Null, Int, Text}
use Rattle.index_sql_schema.proofs.Words.{Row, column, Trees, IsAscending, holds, Table, Column, Index, guards, overlay, plain, Database}
use Rattle.index_sql_schema.proofs.Words.{or_null, Option, Some, None, all_both, last_term, Bytes, same, bytes_cmp, pair_cmp, same_pair}
use Rattle.index_sql_schema.proofs.Words.{pair_total, nat_list_cmp_total, text_key, pair_key, index_schema, users_at, names_at, owners_at}
use Rattle.index_sql_schema.proofs.Words.{files_at, blobs_at, yanks_at, cases_at, bans_at, IsIndex}
use Rattle.sqlite_sql.specs.Ops.{unary}
use Rattle.sqlite_schema.specs.declared.schema.Kind.TheVariants.{Integer}
use Rattle.sqlite_schema.specs.declared.schema.Kind.TheVariants as kind
use Rattle.sqlite_rules.specs.Cast.{cast}
use Rattle.index_sql_schema.proofs.QueryShapes.{is_param}
use Rattle.index_sql_schema.proofs.KeyLemmas.{IsText, IsPair, texts, texts_apart, pairs_apart, text_test}

-- ---- tests of a key

pub is_key : (q k : Bytes) → bytes_eq k q ≡ eq_by_cmp bytes_cmp q k
is_key q k = sym (is_eq-slice_cmp k q) ∙ (eq_by_cmp_equiv nat_list_cmp_total).symm k q

pub same-turned : (a b : Bytes) → same a b ≡ same b a
same-turned a b = is_key b a ∙ is_eq-slice_cmp b a

pub key_test : (params : Row) (param : ℕ) (q : Bytes) (r : Row) → column params param ≡ Text q → IsText 1 r
    → list_all (holds (params ∷ r ∷ [])) (is_param 1 param ∷ []) ≡ eq_by_cmp bytes_cmp q (text_key r)
key_test params param q r given is = last_term (text_test params 1 param r q given is ∙ is_key q (text_key r))

pub is_pair_key : (n v : Bytes) (k : Bytes × Bytes) → (bytes_eq k.0 n && bytes_eq k.1 v) ≡ eq_by_cmp pair_cmp (n, v) k
is_pair_key n v k = sym (same_pair k (n, v)) ∙ (eq_by_cmp_equiv pair_total).symm k (n, v)

-- the same of a key of two texts
pub pair_key_test : (params : Row) (first second : ℕ) (q : Bytes × Bytes) (r : Row) → column params first ≡ Text q.0
    → column params second ≡ Text q.1 → IsPair r
    → list_all (holds (params ∷ r ∷ [])) (is_param 1 first ∷ is_param 2 second ∷ []) ≡ eq_by_cmp pair_cmp q (pair_key r)
pair_key_test params first second q r one two is =
    ap₂ (λ a b. a && b) (text_test params 1 first r q.0 one is.0) (last_term (text_test params 2 second r q.1 two is.1))
    ∙ is_pair_key q.0 q.1 (pair_key r)

-- ---- casts

either : (b : Bool) (x : Value) → cond b x x ≡ x
either true x = refl
either false x = refl

pub cast_null : cast Integer Null ≡ Null
unfolding unary
cast_null = either _ Null

pub cast_int : (n : ℤ) → cast Integer (Int n) ≡ Int n
unfolding unary
cast_int n = either _ (Int n)

pub cast_if_any : (o : Option ℤ) → cast Integer (or_null Int o) ≡ or_null Int o
cast_if_any None = cast_null
cast_if_any (Some n) = cast_int n

-- ---- tables with a text as their key

-- the key is the first column
pub record TextKeyed (at : ℕ) (table : Table) : Type 0 where
  pub is : slice_get index_schema.tables at ≡ Some table
  pub low : (db : Trees) → overlay db [] table.tree ≡ db table.tree
  pub texts : (db : Database) → IsIndex db → AllByRecursion (IsText 1) (db.trees table.tree)
  pub apart : (db : Database) → IsIndex db → IsAscending (λ a b. eq_by_cmp bytes_cmp (text_key a) (text_key b) ≡ false)
      (db.trees table.tree)

text_keyed : (at : ℕ) (table : Table) → slice_get index_schema.tables at ≡ Some table
    → ((db : Trees) → overlay db [] table.tree ≡ db table.tree) → table.key ≡ None
    → (c : Column) → slice_get table.columns 0 ≡ Some c → c.is_strict ≡ true → c.not_null ≡ true → c.kind ≡ kind.Text
    → (place : ℕ) (index : Index) → slice_get index_schema.indexes place ≡ Some index → guards index table ≡ true → index.order ≡ plain
    → index.columns ≡ 1 ∷ [] → TextKeyed at table
text_keyed at table is low keyless c first strict needed text place index found own order columns =
    let all : (db : Database) → IsIndex db → AllByRecursion (IsText 1) (db.trees table.tree) =
    λ db h. texts at table is db h keyless 0 c first strict needed text in
    record { is = is; low = low; texts = all; apart = λ db h. texts_apart at table is db h place index found own order columns (all db h) }

pub users_keyed : TextKeyed 1 (users_at 1)
users_keyed = text_keyed 1 (users_at 1) refl (λ db. refl) refl _ refl refl refl refl 0 _ refl refl refl refl

pub names_keyed : TextKeyed 2 (names_at 4)
names_keyed = text_keyed 2 (names_at 4) refl (λ db. refl) refl _ refl refl refl refl 2 _ refl refl refl refl

pub files_keyed : TextKeyed 4 (files_at 8)
files_keyed = text_keyed 4 (files_at 8) refl (λ db. refl) refl _ refl refl refl refl 4 _ refl refl refl refl

pub blobs_keyed : TextKeyed 5 (blobs_at 11)
blobs_keyed = text_keyed 5 (blobs_at 11) refl (λ db. refl) refl _ refl refl refl refl 6 _ refl refl refl refl

pub cases_keyed : TextKeyed 7 (cases_at 15)
cases_keyed = text_keyed 7 (cases_at 15) refl (λ db. refl) refl _ refl refl refl refl 8 _ refl refl refl refl

pub bans_keyed : TextKeyed 8 (bans_at 17)
bans_keyed = text_keyed 8 (bans_at 17) refl (λ db. refl) refl _ refl refl refl refl 9 _ refl refl refl refl

-- ---- tables with two texts as their key

-- the key is the first two columns
pub record PairKeyed (at : ℕ) (table : Table) : Type 0 where
  pub is : slice_get index_schema.tables at ≡ Some table
  pub low : (db : Trees) → overlay db [] table.tree ≡ db table.tree
  pub pairs : (db : Database) → IsIndex db → AllByRecursion IsPair (db.trees table.tree)
  pub apart : (db : Database) → IsIndex db → IsAscending (λ a b. eq_by_cmp pair_cmp (pair_key a) (pair_key b) ≡ false) (db.trees table.tree)

pair_keyed : (at : ℕ) (table : Table) → slice_get index_schema.tables at ≡ Some table
    → ((db : Trees) → overlay db [] table.tree ≡ db table.tree) → table.key ≡ None
    → (c : Column) → slice_get table.columns 0 ≡ Some c → c.is_strict ≡ true → c.not_null ≡ true → c.kind ≡ kind.Text
    → (d : Column) → slice_get table.columns 1 ≡ Some d → d.is_strict ≡ true → d.not_null ≡ true → d.kind ≡ kind.Text
    → (place : ℕ) (index : Index) → slice_get index_schema.indexes place ≡ Some index → guards index table ≡ true → index.order ≡ plain
    → index.columns ≡ 1 ∷ 2 ∷ [] → PairKeyed at table
pair_keyed at table is low keyless c first strict needed text d second strict_too needed_too text_too place index found own order columns =
    let all : (db : Database) → IsIndex db → AllByRecursion IsPair (db.trees table.tree) =
    λ db h. all_both (IsText 1) (IsText 2) IsPair (λ r p q. (p, q)) (db.trees table.tree)
    (texts at table is db h keyless 0 c first strict needed text)
    (texts at table is db h keyless 1 d second strict_too needed_too text_too) in
    record { is = is; low = low; pairs = all; apart = λ db h. pairs_apart at table is db h place index found own order columns (all db h) }

pub owners_keyed : PairKeyed 3 (owners_at 6)
owners_keyed = pair_keyed 3 (owners_at 6) refl (λ db. refl) refl _ refl refl refl refl _ refl refl refl refl 3 _ refl refl refl refl

pub yanks_keyed : PairKeyed 6 (yanks_at 13)
yanks_keyed = pair_keyed 6 (yanks_at 13) refl (λ db. refl) refl _ refl refl refl refl _ refl refl refl refl 7 _ refl refl refl refl
