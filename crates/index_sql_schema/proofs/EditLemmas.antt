-- What an edit makes of a table without a repeated rowid, whatever the order of its rows.
use Rattle.index_sql_schema.proofs.Words.{◌≡◌, ◌≢◌, inl, inr, ℕ, ℤ, Bool, true, false, not, ◌||◌, ◌&&◌, cond, List, [], ◌∷◌, ◌++◌, map}
use Rattle.index_sql_schema.proofs.Words.{filter, refl, sym, ap, ap₂, subst, ◌∙◌, arith, true≢false, IsTrue, int_eq, IsPermutation}
use Rattle.index_sql_schema.proofs.Words.{AllByRecursion, list_any, match_ordering, ints, IsPermutation-refl, IsPermutation-sym}
use Rattle.index_sql_schema.proofs.Words.{IsPermutation-cons, IsPermutation-trans, IsPermutation-middle, Value, Null, Int, Real, Text, Blob}
use Rattle.index_sql_schema.proofs.Words.{Row, value_cmp, Trees, rowid, IsAscending, put_row, has_rowid, Table, Schema, Has, id_in}
use Rattle.index_sql_schema.proofs.Words.{numbered, put_all, without_all, are_fresh, Given, Database, delete_where, all_weaker, all_both}
use Rattle.index_sql_schema.proofs.Words.{all-filter, none_from_any, ascending-filter, along_permutation, all_from_test, same_int}
use Rattle.index_sql_schema.proofs.Words.{index_schema, rowid_in, HasRowid, AreRows, IsIndex, IsRecordIn, AreRecords, AreRecordsIn}
use Rattle.index_sql_schema.proofs.Words.{AreRecordsOf}
use Rattle.std.proofs.Common.{fold}
use Rattle.std.proofs.Common.{is_eq, Ordering, Less, Equal, Greater, eqb}
use Rattle.std.proofs.lemmas.List.Sorted.{IsPermutation-append_right}
use Rattle.sqlite_value.proofs.OrderLemmas.{value_cmp-Int}
use Rattle.sqlite_trees.specs.View.{is_int}
use Rattle.sqlite_rules.specs.Edit.{is_taken, have_rowids}
use Rattle.sqlite_keyed.specs.Lists.{without_key}
use Rattle.index_sql_schema.proofs.Permutations.{all_permutation, ascending_permutation}
use Rattle.index_sql_schema.specs.Index.{IsNumbered}

pub as_int : (v : Value) → IsTrue (is_int v) → v ≡ Int (id_in v)
as_int Null h = absurd (true≢false (sym h))
as_int (Int n) h = refl
as_int (Real x) h = absurd (true≢false (sym h))
as_int (Text t) h = absurd (true≢false (sym h))
as_int (Blob b) h = absurd (true≢false (sym h))

abbrev pub Differ : Row → Row → Type 0
Differ a b = int_eq (rowid_in a) (rowid_in b) ≡ false

pub other_way : (a b : Row) → Differ a b → Differ b a
other_way a b h = grind (arith, ints)

-- ---- membership

pub has_all : {A : Type 0} (P : A → Type 0) (xs : List A) (x : A) → AllByRecursion P xs → Has xs x → P x
has_all P [] x all none = absurd none
has_all P (y ∷ xs) x all (inl e) = subst P (sym e) all.0
has_all P (y ∷ xs) x all (inr h) = has_all P xs x all.1 h

pub all_has : {A : Type 0} (xs : List A) → AllByRecursion (λ x. Has xs x) xs
all_has [] = tt
all_has (x ∷ xs) = (inl refl, all_weaker _ (λ y. Has (x ∷ xs) y) (λ y h. inr h) xs (all_has xs))

pub has_permutation : {A : Type 0} (x : A) (xs ys : List A) → IsPermutation xs ys → Has xs x → Has ys x
has_permutation x = along_permutation (λ xs ys. Has xs x → Has ys x)
    (λ xs h. h)
    (λ a xs ys more. elim [ inl e ↦ inl e | inr h ↦ inr (more h) ])
    (λ a b xs. elim [ inl e ↦ inr (inl e) | inr h ↦ elim h [ inl e ↦ inl e | inr k ↦ inr (inr k) ] ])
    (λ xs ys zs f g h. g (f h))

pub has_filter : {A : Type 0} (p : A → Bool) (xs : List A) (x : A) → Has xs x → p x ≡ true → Has (filter p xs) x
has_filter p [] x none t = absurd none
has_filter p (y ∷ xs) x (inl e) t = rw (ap p (sym e) ∙ t) (inl e)
has_filter p (y ∷ xs) x (inr h) t = elim (p y) as (λ b. Has (cond b (y ∷ filter p xs) (filter p xs)) x)
    [ true ↦ inr (has_filter p xs x h t) | false ↦ has_filter p xs x h t ]

pub filter_passes : {A : Type 0} (p : A → Bool) (xs : List A) → AllByRecursion (λ x. Has xs x × (p x ≡ true)) (filter p xs)
filter_passes p [] = tt
filter_passes p (x ∷ xs) = go (p x) refl (all_weaker _ (λ y. Has (x ∷ xs) y × (p y ≡ true)) (λ y h. (inr h.0, h.1)) (filter p xs)
    (filter_passes p xs))
  where
    go : (b : Bool) → p x ≡ b → AllByRecursion (λ y. Has (x ∷ xs) y × (p y ≡ true)) (filter p xs)
        → AllByRecursion (λ y. Has (x ∷ xs) y × (p y ≡ true)) (cond b (x ∷ filter p xs) (filter p xs))
    go true e more = ((inl refl, e), more)
    go false e more = more

-- ---- rows that are put in

pub put_fresh : (new : Row) (rows : List Row) → is_taken rows new ≡ false → IsPermutation (new ∷ rows) (put_row new rows)
put_fresh new [] free = IsPermutation-refl (new ∷ [])
put_fresh new (r ∷ rows) free = go (value_cmp (rowid r) (rowid new)) free (put_fresh new rows)
  where
    go : (o : Ordering) → (is_eq o || is_taken rows new) ≡ false
        → (is_taken rows new ≡ false → IsPermutation (new ∷ rows) (put_row new rows))
        → IsPermutation (new ∷ r ∷ rows) (match_ordering o (r ∷ put_row new rows) (new ∷ rows) (new ∷ r ∷ rows))
    go Less f more = IsPermutation-trans (new ∷ r ∷ rows) (r ∷ new ∷ rows) (r ∷ put_row new rows) (IsPermutation-middle (new ∷ []) r rows)
        (IsPermutation-cons r (new ∷ rows) (put_row new rows) (more f))
    go Equal f more = absurd (true≢false f)
    go Greater f more = IsPermutation-refl (new ∷ r ∷ rows)

differs : (new r : Row) → HasRowid new → is_eq (value_cmp (rowid r) (rowid new)) ≡ false → HasRowid r → Differ new r
differs new r h apart w =
    let same : is_eq (value_cmp (rowid r) (rowid new)) ≡ int_eq (rowid_in r) (rowid_in new) =
    ap₂ (λ a b. is_eq (value_cmp a b)) (as_int (rowid r) w) (as_int (rowid new) h)
    ∙ ap is_eq (value_cmp-Int (rowid_in r) (rowid_in new)) in
    other_way r new (sym same ∙ apart)

pub put_rows : (new : Row) (rows : List Row) → HasRowid new → is_taken rows new ≡ false → AreRows rows → AreRows (put_row new rows)
put_rows new rows h free are =
    let apart = all_both _ HasRowid (Differ new) (λ r. differs new r h) rows (none_from_any _ rows free) are.1 in
    let p = put_fresh new rows free in (
      ascending_permutation Differ other_way (new ∷ rows) (put_row new rows) p (apart, are.0),
      all_permutation HasRowid (new ∷ rows) (put_row new rows) p (h, are.1),
    )

not_taken : (b c : Bool) → (not b && c) ≡ true → b ≡ false
not_taken true c h = absurd (true≢false (sym h))
not_taken false c h = refl

later_fresh : (b c : Bool) → (not b && c) ≡ true → c ≡ true
later_fresh true c h = absurd (true≢false (sym h))
later_fresh false c h = h

-- rows at free rowids are added to the others
pub put_all_fresh : (news rows : List Row) → AllByRecursion HasRowid news → are_fresh rows news ≡ true → AreRows rows
    → IsPermutation (news ++ rows) (put_all rows news) × AreRows (put_all rows news)
put_all_fresh [] rows h fresh are = (IsPermutation-refl rows, are)
put_all_fresh (n ∷ news) rows h fresh are =
    let free = not_taken _ _ fresh in
    let more = put_all_fresh news (put_row n rows) h.1 (later_fresh _ _ fresh) (put_rows n rows h.0 free are) in
    let first = IsPermutation-append_right news (n ∷ rows) (put_row n rows) (put_fresh n rows free) in
    (IsPermutation-trans _ _ _ (IsPermutation-sym _ _ (IsPermutation-middle news n rows)) (IsPermutation-trans _ _ _ first more.0), more.1)

-- ---- rows that are taken out

-- the rowid is one of these
abbrev pub among : List ℤ → Row → Bool
among ids r = list_any (λ id. int_eq (rowid_in r) id) ids

pub filter_with : {A : Type 0} (P : A → Type 0) (p q : A → Bool) → ((a : A) → P a → p a ≡ q a) → (xs : List A) → AllByRecursion P xs
    → filter p xs ≡ filter q xs
filter_with P p q same [] all = refl
filter_with P p q same (x ∷ xs) all = ap₂ (λ b l. cond b (x ∷ l) l) (same x all.0) (filter_with P p q same xs all.1)

pub has_is : (id : ℤ) (r : Row) → HasRowid r → has_rowid id r ≡ int_eq (rowid_in r) id
has_is id r h = ap (λ v. is_eq (value_cmp v (Int id))) (as_int (rowid r) h) ∙ ap is_eq (value_cmp-Int (rowid_in r) id)

without_is : (ids : List ℤ) (rows : List Row) → AllByRecursion HasRowid rows → without_all rows ids ≡ fold (without_key rowid_in) rows ids
without_is [] rows whole = refl
without_is (id ∷ ids) rows whole =
    ap (λ l. without_all l ids) (filter_with HasRowid (λ r. not (has_rowid id r)) (λ r. not (int_eq (rowid_in r) id))
    (λ r h. ap not (has_is id r h)) rows whole)
    ∙ without_is ids (without_key rowid_in rows id) (all-filter HasRowid (λ r. not (int_eq (rowid_in r) id)) rows whole)

fused : {A : Type 0} (p q : A → Bool) (xs : List A)
    → filter (λ x. not (q x)) (filter (λ x. not (p x)) xs) ≡ filter (λ x. not (p x || q x)) xs
fused p q [] = refl
fused p q (x ∷ xs) = go (p x) (fused p q xs)
  where
    go : (b : Bool) → filter (λ x. not (q x)) (filter (λ x. not (p x)) xs) ≡ filter (λ x. not (p x || q x)) xs
        → filter (λ x. not (q x)) (cond (not b) (x ∷ filter (λ x. not (p x)) xs) (filter (λ x. not (p x)) xs))
        ≡ cond (not (b || q x)) (x ∷ filter (λ x. not (p x || q x)) xs) (filter (λ x. not (p x || q x)) xs)
    go true more = more
    go false more = ap (λ l. cond (not (q x)) (x ∷ l) l) more

kept_all : {A : Type 0} (xs : List A) → filter (λ _. true) xs ≡ xs
kept_all [] = refl
kept_all (x ∷ xs) = ap (λ l. x ∷ l) (kept_all xs)

folded : (ids : List ℤ) (rows : List Row) → fold (without_key rowid_in) rows ids ≡ filter (λ r. not (among ids r)) rows
folded [] rows = sym (kept_all rows)
folded (id ∷ ids) rows = folded ids (without_key rowid_in rows id) ∙ fused (λ r. int_eq (rowid_in r) id) (among ids) rows

pub members : {A : Type 0} (p q : A → Bool) (xs : List A) → ((x : A) → Has xs x → p x ≡ q x) → filter p xs ≡ filter q xs
members p q [] same = refl
members p q (x ∷ xs) same = ap₂ (λ b l. cond b (x ∷ l) l) (same x (inl refl)) (members p q xs (λ y h. same y (inr h)))

among_has : (ids : List ℤ) (r : Row) → among ids r ≡ true → Has ids (rowid_in r)
among_has [] r h = absurd (true≢false (sym h))
among_has (id ∷ ids) r h = go (int_eq (rowid_in r) id) refl h (among_has ids r)
  where
    go : (b : Bool) → int_eq (rowid_in r) id ≡ b → (b || among ids r) ≡ true → (among ids r ≡ true → Has ids (rowid_in r))
        → Has (id ∷ ids) (rowid_in r)
    go true e h more = inl (same_int (rowid_in r) id e)
    go false e h more = inr (more h)

has_among : (ids : List ℤ) (r : Row) → Has ids (rowid_in r) → among ids r ≡ true
has_among [] r none = absurd none
has_among (id ∷ ids) r (inl e) = let same : int_eq (rowid_in r) id ≡ true = grind (arith, ints) in rw same refl
has_among (id ∷ ids) r (inr h) = rw (has_among ids r h)
    (elim (int_eq (rowid_in r) id) as (λ b. (b || true) ≡ true) [ true ↦ refl | false ↦ refl ])

never_differ : (a b : Row) → rowid_in a ≡ rowid_in b → Differ a b → ⊥
never_differ a b e h = let same : int_eq (rowid_in a) (rowid_in b) ≡ true = grind (arith, ints) in absurd (true≢false (sym same ∙ h))

-- two rows with one rowid are one row
pub one_row : (rows : List Row) (a b : Row) → IsAscending Differ rows → Has rows a → Has rows b → rowid_in a ≡ rowid_in b → a ≡ b
one_row [] a b apart none other e = absurd none
one_row (x ∷ rows) a b apart (inl p) (inl q) e = p ∙ sym q
one_row (x ∷ rows) a b apart (inl p) (inr q) e = absurd (never_differ x b (ap rowid_in (sym p) ∙ e) (has_all _ rows b apart.0 q))
one_row (x ∷ rows) a b apart (inr p) (inl q) e = absurd (never_differ x a (ap rowid_in (sym q) ∙ sym e) (has_all _ rows a apart.0 p))
one_row (x ∷ rows) a b apart (inr p) (inr q) e = one_row rows a b apart.1 p q e

-- the rowids of the rows that pass, and no others, are taken out
pub passed_gone : (rows : List Row) (ids : List ℤ) (p : Row → Bool) → AreRows rows
    → ((id : ℤ) → Has ids id → (r : Row) × Has rows r × (p r ≡ true) × (rowid_in r ≡ id))
    → ((r : Row) → Has rows r → p r ≡ true → Has ids (rowid_in r)) → without_all rows ids ≡ delete_where p rows
passed_gone rows ids p are sound complete = without_is ids rows are.1 ∙ folded ids rows ∙ members _ _ rows (λ r h. ap not (same r h))
  where
    same : (r : Row) → Has rows r → among ids r ≡ p r
    same r h = go (among ids r) (p r) refl refl
      where
        go : (a b : Bool) → among ids r ≡ a → p r ≡ b → a ≡ b
        go true true s t = refl
        go false false s t = refl
        go true false s t = let it = sound (rowid_in r) (among_has ids r s) in let found = one_row rows it.0 r are.0 it.1 h it.3 in
            absurd (true≢false (sym it.2 ∙ ap p found ∙ t))
        go false true s t = absurd (true≢false (sym (has_among ids r (complete r h t)) ∙ s))

has_map : {A B : Type 0} (f : A → B) (xs : List A) (x : A) → Has xs x → Has (map f xs) (f x)
has_map f [] x none = absurd none
has_map f (y ∷ xs) x (inl e) = inl (ap f e)
has_map f (y ∷ xs) x (inr h) = inr (has_map f xs x h)

map_has : {A B : Type 0} (f : A → B) (xs : List A) (b : B) → Has (map f xs) b → (x : A) × Has xs x × (f x ≡ b)
map_has f [] b none = absurd none
map_has f (y ∷ xs) b (inl e) = (y, inl refl, sym e)
map_has f (y ∷ xs) b (inr h) = let it = map_has f xs b h in (it.0, inr it.1, it.2)

-- the rows that pass are taken out, in whatever order they were found
pub matched_gone : (rows ordered : List Row) (p : Row → Bool) → AreRows rows → IsPermutation (filter p rows) ordered
    → without_all rows (map rowid_in ordered) ≡ delete_where p rows
matched_gone rows ordered p are same =
    passed_gone rows (map rowid_in ordered) p are
    (λ id h. let it = map_has rowid_in ordered id h in let both =
    has_all _ ordered it.0 (all_permutation _ (filter p rows) ordered same (filter_passes p rows)) it.1 in (it.0, both.0, both.1, it.2))
    (λ r h t. has_map rowid_in ordered r (has_permutation r (filter p rows) ordered same (has_filter p rows r h t)))

pub kept_rows : (p : Row → Bool) (rows : List Row) → AreRows rows → AreRows (delete_where p rows)
kept_rows p rows are = (ascending-filter Differ (λ r. not (p r)) rows are.0, all-filter HasRowid (λ r. not (p r)) rows are.1)

pub given_stay : (rows news : List Row) → numbered Given rows news ≡ news
given_stay rows [] = refl
given_stay rows (n ∷ news) = ap (λ l. n ∷ l) (given_stay (put_row n rows) news)

pub are_whole : (news : List Row) → have_rowids news ≡ true → AllByRecursion HasRowid news
are_whole news h = all_from_test (λ r. is_int (rowid r)) news h

-- ---- all tables

-- the rows of the tables but one are as they were
abbrev pub KeepsOthers : ℕ → Trees → Trees → Type 0
KeepsOthers tree db next = AllByRecursion (λ (t : Table). t.tree ≢ tree → next t.tree ≡ db t.tree) index_schema.tables

pub numbered_after : (tree : ℕ) (db next : Trees) → KeepsOthers tree db next → AreRows (next tree) → IsNumbered db → IsNumbered next
numbered_after tree db next others here before = all_both _ _ (λ (t : Table). AreRows (next t.tree)) one index_schema.tables others before
  where
    one : (t : Table) → (t.tree ≢ tree → next t.tree ≡ db t.tree) → AreRows (db t.tree) → AreRows (next t.tree)
    one t same was = go (eqb t.tree tree) refl
      where
        go : (b : Bool) → eqb t.tree tree ≡ b → AreRows (next t.tree)
        go true e = let found : t.tree ≡ tree = grind arith in subst (λ n. AreRows (next n)) (sym found) here
        go false e = let apart : t.tree ≢ tree = grind arith in subst AreRows (sym (same apart)) was

-- the same, and the rows of all tables are records if they were
abbrev pub Alters : ℕ → Database → Database → Type 0
Alters tree old new = KeepsOthers tree old.trees new.trees × (AreRecords old → AreRecords new)

pub altered : (tree : ℕ) (old new : Database) → IsIndex old → IsIndex new → KeepsOthers tree old.trees new.trees
    → (AreRecordsIn old.trees tree → AreRecordsIn new.trees tree) → Alters tree old new
altered tree old new h g others here = (
  others,
  λ before. subst (λ (s : Schema). AreRecordsOf s.tables new.trees) (sym g.schema)
      (all_both _ _ (λ (t : Table). AreRecordsIn new.trees t.tree) one index_schema.tables others
      (subst (λ (s : Schema). AreRecordsOf s.tables old.trees) h.schema before)),
)
  where
    one : (t : Table) → (t.tree ≢ tree → new.trees t.tree ≡ old.trees t.tree) → AreRecordsIn old.trees t.tree
        → AreRecordsIn new.trees t.tree
    one t same was = go (eqb t.tree tree) refl
      where
        go : (b : Bool) → eqb t.tree tree ≡ b → AreRecordsIn new.trees t.tree
        go true e = let found : t.tree ≡ tree = grind arith in
            subst (AreRecordsIn new.trees) (sym found) (here (subst (AreRecordsIn old.trees) found was))
        go false e = let apart : t.tree ≢ tree = grind arith in subst (AllByRecursion (IsRecordIn t.tree)) (sym (same apart)) was
