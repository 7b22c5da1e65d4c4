-- INSERT INTO names .. ON CONFLICT: the name has this record.
use Rattle.index_sql_schema.proofs.Words.{◌≡◌, ℕ, ℤ, pos, List, [], ◌∷◌, Option, Ok, refl, insert, everything, Null, Int, Text, Row, column}
use Rattle.index_sql_schema.proofs.Words.{joined, rowid, Term, lit, col, same_name, Enforced, InsertOr, Abort, Values, works, cast_row}
use Rattle.index_sql_schema.proofs.Words.{understood, State, Executes, or_null, IsPlain, command_of, Bytes, index_schema, names_at, name_in}
use Rattle.index_sql_schema.proofs.Words.{rowid_in, IsIndex, Changes, IsNamedRow}
use Rattle.index_sql_schema.specs.StatementTexts.{put_name_text}
use Rattle.index_sql_schema.proofs.QueryShapes.{on_conflict}
use Rattle.index_sql_schema.proofs.TableLemmas.{names_keyed, cast_null, cast_int, cast_if_any}
use Rattle.index_sql_schema.proofs.PutLemmas.{updated, puts_text}
use Rattle.index_sql_schema.proofs.AfterLemmas.{names_change}

abbrev terms : List Term
terms = lit Null ∷ col 0 0 ∷ col 0 1 ∷ col 0 2 ∷ col 0 3 ∷ col 0 4 ∷ col 0 5 ∷ col 0 6 ∷ []

abbrev project : List Term
project = col 1 0 ∷ col 1 1 ∷ col 0 10 ∷ col 0 11 ∷ col 0 12 ∷ col 0 13 ∷ col 0 14 ∷ col 0 15 ∷ []

is_plain : IsPlain (understood index_schema put_name_text)
unfolding understood everything
is_plain = (refl, refl)

compiled : command_of (understood index_schema put_name_text)
    ≡ InsertOr 2 Abort (Values terms 8) (on_conflict 4 7 (1 ∷ []) (col 1 0 ∷ project) ∷ [])
unfolding understood everything
compiled = refl

module _ (name : Bytes) (number : ℤ) (shown : Bytes) (quota charged live : ℤ) (last : Option ℤ) where
  abbrev pub cells : Row
  cells = Text name ∷ Int number ∷ Text shown ∷ Int quota ∷ Int charged ∷ Int live ∷ or_null Int last ∷ []

  new_cast : cast_row (names_at 4) (Null ∷ cells) ≡ Null ∷ cells
  new_cast = rw (cast_null, cast_int number, cast_int quota, cast_int charged, cast_int live, cast_if_any last) refl

  row_cast : (id : ℤ) → cast_row (names_at 4) (Int id ∷ cells) ≡ Int id ∷ cells
  row_cast id = rw (cast_int id, cast_int number, cast_int quota, cast_int charged, cast_int live, cast_if_any last) refl

  no_works : (olds : List Row) (id : ℤ) → works index_schema Enforced 0 4 olds ((Int id ∷ cells) ∷ []) ≡ []
  unfolding same_name joined
  no_works olds id = refl

  becomes : (made : ℤ) (r : Row) → rowid r ≡ Int (rowid_in r) → column r 1 ≡ Text name
      → updated (names_at 4) cells project made r ≡ Int (rowid_in r) ∷ cells
  becomes made r is_id is_key = rw (
    is_id,
    is_key,
    cast_int (rowid_in r),
    cast_int number,
    cast_int quota,
    cast_int charged,
    cast_int live,
    cast_if_any last,
  ) refl

  pub puts : ((id : ℤ) → IsNamedRow (Int id ∷ cells)) → (old new : State) (count : ℕ) → IsIndex old.now
      → Executes put_name_text cells old new (Ok count)
      → Changes (λ T. record T { names = insert T.names name (name_in (Int (pos 0) ∷ cells)) }) old.now new.now
  puts fits old new count h ran =
      let it = puts_text 2 (names_at 4) names_keyed put_name_text name
      (Int number ∷ Text shown ∷ Int quota ∷ Int charged ∷ Int live ∷ or_null Int last ∷ []) terms project 8 name_in
      (name_in (Int (pos 0) ∷ cells)) (λ id. refl) (record {
        is_plain = is_plain;
        compiled = compiled;
        uncounted = refl;
        source = refl;
        cast_new = new_cast;
        cast_again = row_cast;
        conflicting = λ id r. refl;
        none = no_works;
      }) becomes fits old new count h ran in
      names_change old.now new.now it.2 (λ T. insert T.names name (name_in (Int (pos 0) ∷ cells))) it.0 it.1
