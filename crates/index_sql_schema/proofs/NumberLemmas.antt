-- Tests of a column of whole numbers against a number.
use Rattle.index_sql_schema.proofs.Words.{◌≡◌, ◌==◌, ℕ, suc, ℤ, pos, Bool, true, false, not, [], ◌∷◌, refl, sym, ap, ◌∙◌, int_eq, arith}
use Rattle.index_sql_schema.proofs.Words.{true≢false, ints, Int, Binary, Row, column, Term, holds, lit, col, op2, Compare, Eq, Ne, id_in}
use Rattle.index_sql_schema.proofs.Words.{same_int, at_ints, number_in}
use Rattle.std.proofs.Common.{negsuc}
use Rattle.sqlite_sql.specs.declared.ops.CompareOp.{CompareOp}
use Rattle.index_sql_schema.proofs.KeyLemmas.{IsNumber}

-- a column of the table compared with a number
abbrev pub is_number : CompareOp → ℕ → ℕ → Term
is_number op place n = op2 (Compare op Binary) (col 1 place) (lit (Int (pos n)))

same_number : (i : ℤ) (n : ℕ) → int_eq i (pos (suc n)) ≡ (number_in (Int i) == suc n)
same_number (pos m) n = go (int_eq (pos m) (pos (suc n))) (m == suc n) refl refl
  where
    go : (a b : Bool) → int_eq (pos m) (pos (suc n)) ≡ a → (m == suc n) ≡ b → a ≡ b
    go true true s t = refl
    go false false s t = refl
    go true false s t =
        let is : pos m ≡ pos (suc n) = same_int (pos m) (pos (suc n)) s in
        let number : m ≡ suc n = cc in
        let same : (m == suc n) ≡ true = grind arith in
        absurd (true≢false (sym same ∙ t))
    go false true s t =
        let number : m ≡ suc n = grind arith in
        let same : int_eq (pos m) (pos (suc n)) ≡ true = grind (arith, ints) in
        absurd (true≢false (sym same ∙ s))
same_number (negsuc m) n = let none : (0 == suc n) ≡ false = grind arith in sym none

-- it equals a number above 0 if that is the number that it stands for
pub number_test : (params : Row) (place n : ℕ) (r : Row) → IsNumber place r
    → holds (params ∷ r ∷ []) (is_number Eq place (suc n)) ≡ (number_in (column r place) == suc n)
number_test params place n r is = rw is (at_ints false Eq (id_in (column r place)) (pos (suc n)) ∙ same_number (id_in (column r place)) n)

pub other_test : (params : Row) (place n : ℕ) (r : Row) → IsNumber place r
    → holds (params ∷ r ∷ []) (is_number Ne place (suc n)) ≡ not (number_in (column r place) == suc n)
other_test params place n r is = rw is (at_ints false Ne (id_in (column r place)) (pos (suc n))
    ∙ ap not (same_number (id_in (column r place)) n))
