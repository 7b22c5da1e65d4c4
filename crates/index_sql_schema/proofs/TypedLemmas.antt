-- What the types of the columns say of a row.
use Rattle.index_sql_schema.proofs.Words.{◌≡◌, ℕ, zero, suc, ◌+◌, ◌&&◌, ◌||◌, not, Bool, true, false, List, [], ◌∷◌, slice_get}
use Rattle.index_sql_schema.proofs.Words.{slice_index_or, Some, None, refl, sym, ap, ◌∙◌, true≢false, subst, arith, Value, Null, Int, Real}
use Rattle.index_sql_schema.proofs.Words.{Text, Blob, Row, column, bytes, is_null, Column, id_in, is_of, are_typed, are_present}
use Rattle.sqlite_schema.specs.declared.schema.Kind.TheVariants as kind
use Rattle.sqlite_schema.specs.Rules.{suits}

pub first_part : (a b : Bool) → (a && b) ≡ true → a ≡ true
first_part true b h = refl
first_part false b h = absurd (true≢false (sym h))

pub second_part : (a b : Bool) → (a && b) ≡ true → b ≡ true
second_part true b h = h
second_part false b h = absurd (true≢false (sym h))

-- the column of a row that passes has a value of its type, or NULL
pub typed_at : (cs : List Column) (vs : Row) (k at : ℕ) (c : Column) → are_typed None k cs vs ≡ true → slice_get cs at ≡ Some c
    → c.is_strict ≡ true → suits c (slice_index_or vs at Null) ≡ true
typed_at [] vs k at c h is strict = absurd (let e = is in cc)
typed_at (d ∷ cs) [] k at c h is strict = rw strict
typed_at (d ∷ cs) (v ∷ vs) k zero c h is strict = let same : d ≡ c = cc in rw (← same) (first_part _ _ h)
typed_at (d ∷ cs) (v ∷ vs) k (suc at) c h is strict = typed_at cs vs (k + 1) at c (second_part _ _ h) is strict

pub as_text : (v : Value) → is_of kind.Text v ≡ true → is_null v ≡ false → v ≡ Text (bytes v)
as_text Null h none = absurd (true≢false none)
as_text (Int n) h none = absurd (true≢false (sym h))
as_text (Real x) h none = absurd (true≢false (sym h))
as_text (Text t) h none = refl
as_text (Blob b) h none = absurd (true≢false (sym h))

pub as_blob : (v : Value) → is_of kind.Blob v ≡ true → is_null v ≡ false → v ≡ Blob (bytes v)
as_blob Null h none = absurd (true≢false none)
as_blob (Int n) h none = absurd (true≢false (sym h))
as_blob (Real x) h none = absurd (true≢false (sym h))
as_blob (Text t) h none = absurd (true≢false (sym h))
as_blob (Blob b) h none = refl

never_null : (needed null : Bool) → (false || not needed || not null) ≡ true → needed ≡ true → null ≡ false
never_null true true h e = absurd (true≢false (sym h))
never_null true false h e = refl
never_null false null h e = absurd (true≢false (sym e))

-- a column that may hold no NULL holds none
pub present_at : (cs : List Column) (row : Row) (k at : ℕ) (c : Column) → are_present None k cs row ≡ true → slice_get cs at ≡ Some c
    → c.not_null ≡ true → is_null (column row (k + at + 1)) ≡ false
present_at [] row k at c h is needed = absurd (let e = is in cc)
present_at (d ∷ cs) row k zero c h is needed = let same : d ≡ c = cc in
    let here = never_null d.not_null (is_null (column row (k + 1))) (first_part _ _ h) (ap (λ (x : Column). x.not_null) same ∙ needed) in
    let place : k + 1 ≡ k + 0 + 1 = omega arith in
    subst (λ n. is_null (column row n) ≡ false) place here
present_at (d ∷ cs) row k (suc at) c h is needed =
    let more = present_at cs row (k + 1) at c (second_part _ _ h) is needed in
    let same : k + 1 + at + 1 ≡ k + suc at + 1 = omega arith in
    subst (λ n. is_null (column row n) ≡ false) same more

pub as_whole : (v : Value) → is_of kind.Integer v ≡ true → is_null v ≡ false → v ≡ Int (id_in v)
as_whole Null h none = absurd (true≢false none)
as_whole (Int n) h none = refl
as_whole (Real x) h none = absurd (true≢false (sym h))
as_whole (Text t) h none = absurd (true≢false (sym h))
as_whole (Blob b) h none = absurd (true≢false (sym h))
