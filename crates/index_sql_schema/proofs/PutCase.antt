-- INSERT INTO cases .. ON CONFLICT: the name has this open case.
use Rattle.index_sql_schema.proofs.Words.{◌≡◌, ℕ, ℤ, pos, List, [], ◌∷◌, Option, Ok, refl, insert, everything, Null, Int, Text, Row, column}
use Rattle.index_sql_schema.proofs.Words.{joined, rowid, Term, lit, col, same_name, Enforced, InsertOr, Abort, Values, works, cast_row}
use Rattle.index_sql_schema.proofs.Words.{understood, State, Executes, or_null, IsPlain, command_of, Bytes, index_schema, cases_at, case_in}
use Rattle.index_sql_schema.proofs.Words.{rowid_in, IsIndex, Changes, IsOpenedRow}
use Rattle.index_sql_schema.specs.StatementTexts.{put_case_text}
use Rattle.index_sql_schema.proofs.QueryShapes.{on_conflict}
use Rattle.index_sql_schema.proofs.TableLemmas.{cases_keyed, cast_null, cast_int, cast_if_any}
use Rattle.index_sql_schema.proofs.PutLemmas.{updated, puts_text}
use Rattle.index_sql_schema.proofs.AfterLemmas.{cases_change}

abbrev terms : List Term
terms = lit Null ∷ col 0 0 ∷ col 0 1 ∷ col 0 2 ∷ col 0 3 ∷ col 0 4 ∷ col 0 5 ∷ col 0 6 ∷ col 0 7 ∷ col 0 8 ∷ col 0 9 ∷ col 0 10 ∷ col 0 11 ∷
    col 0 12 ∷ []

abbrev project : List Term
project = col 1 0 ∷ col 1 1 ∷ col 0 16 ∷ col 0 17 ∷ col 0 18 ∷ col 0 19 ∷ col 0 20 ∷ col 0 21 ∷ col 0 22 ∷ col 0 23 ∷ col 0 24 ∷ col 0 25 ∷
    col 0 26 ∷ col 0 27 ∷ []

is_plain : IsPlain (understood index_schema put_case_text)
unfolding understood everything
is_plain = (refl, refl)

compiled : command_of (understood index_schema put_case_text)
    ≡ InsertOr 7 Abort (Values terms 14) (on_conflict 15 13 (1 ∷ []) (col 1 0 ∷ project) ∷ [])
unfolding understood everything
compiled = refl

module _ (name : Bytes) (kind : ℤ) (candidate contact work why : Bytes) (opened attempts sent profile author pages : ℤ) (first : Option ℤ)
  where
    abbrev pub cells : Row
    cells = Text name ∷ Int kind ∷ Text candidate ∷ Text contact ∷ Text work ∷ Text why ∷ Int opened ∷ Int attempts ∷ Int sent ∷ Int profile
        ∷
        Int author ∷ Int pages ∷ or_null Int first ∷ []

    new_cast : cast_row (cases_at 15) (Null ∷ cells) ≡ Null ∷ cells
    new_cast = rw (
      cast_null,
      cast_int kind,
      cast_int opened,
      cast_int attempts,
      cast_int sent,
      cast_int profile,
      cast_int author,
      cast_int pages,
      cast_if_any first,
    ) refl

    row_cast : (id : ℤ) → cast_row (cases_at 15) (Int id ∷ cells) ≡ Int id ∷ cells
    row_cast id = rw (
      cast_int id,
      cast_int kind,
      cast_int opened,
      cast_int attempts,
      cast_int sent,
      cast_int profile,
      cast_int author,
      cast_int pages,
      cast_if_any first,
    ) refl

    no_works : (olds : List Row) (id : ℤ) → works index_schema Enforced 0 15 olds ((Int id ∷ cells) ∷ []) ≡ []
    unfolding same_name joined
    no_works olds id = refl

    becomes : (made : ℤ) (r : Row) → rowid r ≡ Int (rowid_in r) → column r 1 ≡ Text name
        → updated (cases_at 15) cells project made r ≡ Int (rowid_in r) ∷ cells
    becomes made r is_id is_key = rw (
      is_id,
      is_key,
      cast_int (rowid_in r),
      cast_int kind,
      cast_int opened,
      cast_int attempts,
      cast_int sent,
      cast_int profile,
      cast_int author,
      cast_int pages,
      cast_if_any first,
    ) refl

    pub puts : ((id : ℤ) → IsOpenedRow (Int id ∷ cells)) → (old new : State) (count : ℕ) → IsIndex old.now
        → Executes put_case_text cells old new (Ok count)
        → Changes (λ T. record T { cases = insert T.cases name (case_in (Int (pos 0) ∷ cells)) }) old.now new.now
    puts fits old new count h ran =
        let it = puts_text 7 (cases_at 15) cases_keyed put_case_text name
        (Int kind ∷ Text candidate ∷ Text contact ∷ Text work ∷ Text why ∷ Int opened ∷ Int attempts ∷ Int sent ∷ Int profile ∷ Int author
        ∷ Int pages ∷ or_null Int first ∷ []) terms project 14 case_in (case_in (Int (pos 0) ∷ cells)) (λ id. refl) (record {
          is_plain = is_plain;
          compiled = compiled;
          uncounted = refl;
          source = refl;
          cast_new = new_cast;
          cast_again = row_cast;
          conflicting = λ id r. refl;
          none = no_works;
        }) becomes fits old new count h ran in
        cases_change old.now new.now it.2 (λ T. insert T.cases name (case_in (Int (pos 0) ∷ cells))) it.0 it.1
