-- INSERT INTO files .. ON CONFLICT: the file has this record.
use Rattle.index_sql_schema.proofs.Words.{◌≡◌, ℕ, ℤ, pos, List, [], ◌∷◌, Ok, refl, insert, everything, Null, Int, Text, Blob, Row, column}
use Rattle.index_sql_schema.proofs.Words.{joined, rowid, Term, lit, col, same_name, Enforced, InsertOr, Abort, Values, works, cast_row}
use Rattle.index_sql_schema.proofs.Words.{understood, State, Executes, IsPlain, command_of, Bytes, index_schema, files_at, file_in}
use Rattle.index_sql_schema.proofs.Words.{rowid_in, IsIndex, Changes, IsFiledRow}
use Rattle.index_sql_schema.specs.StatementTexts.{put_file_text}
use Rattle.index_sql_schema.proofs.QueryShapes.{on_conflict}
use Rattle.index_sql_schema.proofs.TableLemmas.{files_keyed, cast_null, cast_int}
use Rattle.index_sql_schema.proofs.PutLemmas.{updated, puts_text}
use Rattle.index_sql_schema.proofs.AfterLemmas.{files_change}

abbrev terms : List Term
terms = lit Null ∷ col 0 0 ∷ col 0 1 ∷ col 0 2 ∷ col 0 3 ∷ col 0 4 ∷ col 0 5 ∷ col 0 6 ∷ []

abbrev project : List Term
project = col 1 0 ∷ col 1 1 ∷ col 0 10 ∷ col 0 11 ∷ col 0 12 ∷ col 0 13 ∷ col 0 14 ∷ col 0 15 ∷ []

is_plain : IsPlain (understood index_schema put_file_text)
unfolding understood everything
is_plain = (refl, refl)

compiled : command_of (understood index_schema put_file_text)
    ≡ InsertOr 4 Abort (Values terms 8) (on_conflict 8 7 (1 ∷ []) (col 1 0 ∷ project) ∷ [])
unfolding understood everything
compiled = refl

module _ (file name release digest : Bytes) (size : ℤ) (requires : Bytes) (live : ℤ) where
  abbrev pub cells : Row
  cells = Text file ∷ Text name ∷ Text release ∷ Blob digest ∷ Int size ∷ Text requires ∷ Int live ∷ []

  new_cast : cast_row (files_at 8) (Null ∷ cells) ≡ Null ∷ cells
  new_cast = rw (cast_null, cast_int size, cast_int live) refl

  row_cast : (id : ℤ) → cast_row (files_at 8) (Int id ∷ cells) ≡ Int id ∷ cells
  row_cast id = rw (cast_int id, cast_int size, cast_int live) refl

  no_works : (olds : List Row) (id : ℤ) → works index_schema Enforced 0 8 olds ((Int id ∷ cells) ∷ []) ≡ []
  unfolding same_name joined
  no_works olds id = refl

  becomes : (made : ℤ) (r : Row) → rowid r ≡ Int (rowid_in r) → column r 1 ≡ Text file
      → updated (files_at 8) cells project made r ≡ Int (rowid_in r) ∷ cells
  becomes made r is_id is_key = rw (is_id, is_key, cast_int (rowid_in r), cast_int size, cast_int live) refl

  pub puts : ((id : ℤ) → IsFiledRow (Int id ∷ cells)) → (old new : State) (count : ℕ) → IsIndex old.now
      → Executes put_file_text cells old new (Ok count)
      → Changes (λ T. record T { files = insert T.files file (file_in (Int (pos 0) ∷ cells)) }) old.now new.now
  puts fits old new count h ran =
      let it = puts_text 4 (files_at 8) files_keyed put_file_text file
      (Text name ∷ Text release ∷ Blob digest ∷ Int size ∷ Text requires ∷ Int live ∷ []) terms project 8 file_in
      (file_in (Int (pos 0) ∷ cells)) (λ id. refl) (record {
        is_plain = is_plain;
        compiled = compiled;
        uncounted = refl;
        source = refl;
        cast_new = new_cast;
        cast_again = row_cast;
        conflicting = λ id r. refl;
        none = no_works;
      }) becomes fits old new count h ran in
      files_change old.now new.now it.2 (λ T. insert T.files file (file_in (Int (pos 0) ∷ cells))) it.0 it.1
