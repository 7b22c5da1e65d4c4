-- INSERT INTO users .. ON CONFLICT: the user has this record.
use Rattle.index_sql_schema.proofs.Words.{◌≡◌, ℕ, ℤ, pos, List, [], ◌∷◌, Ok, refl, insert, everything, Null, Int, Text, Blob, Row, column}
use Rattle.index_sql_schema.proofs.Words.{joined, rowid, Term, lit, col, same_name, Enforced, InsertOr, Abort, Values, works, cast_row}
use Rattle.index_sql_schema.proofs.Words.{understood, State, Executes, IsPlain, command_of, Bytes, index_schema, users_at, user_in}
use Rattle.index_sql_schema.proofs.Words.{rowid_in, IsIndex, Changes, IsAccountRow}
use Rattle.index_sql_schema.specs.StatementTexts.{put_user_text}
use Rattle.index_sql_schema.proofs.QueryShapes.{on_conflict}
use Rattle.index_sql_schema.proofs.TableLemmas.{users_keyed, cast_null, cast_int}
use Rattle.index_sql_schema.proofs.PutLemmas.{updated, puts_text}
use Rattle.index_sql_schema.proofs.AfterLemmas.{users_change}

abbrev terms : List Term
terms = lit Null ∷ col 0 0 ∷ col 0 1 ∷ col 0 2 ∷ []

abbrev project : List Term
project = col 1 0 ∷ col 1 1 ∷ col 0 6 ∷ col 0 7 ∷ []

is_plain : IsPlain (understood index_schema put_user_text)
unfolding understood everything
is_plain = (refl, refl)

compiled : command_of (understood index_schema put_user_text)
    ≡ InsertOr 1 Abort (Values terms 4) (on_conflict 1 3 (1 ∷ []) (col 1 0 ∷ project) ∷ [])
unfolding understood everything
compiled = refl

module _ (user : Bytes) (office : ℤ) (token : Bytes) where
  abbrev pub cells : Row
  cells = Text user ∷ Int office ∷ Blob token ∷ []

  new_cast : cast_row (users_at 1) (Null ∷ cells) ≡ Null ∷ cells
  new_cast = rw (cast_null, cast_int office) refl

  row_cast : (id : ℤ) → cast_row (users_at 1) (Int id ∷ cells) ≡ Int id ∷ cells
  row_cast id = rw (cast_int id, cast_int office) refl

  no_works : (olds : List Row) (id : ℤ) → works index_schema Enforced 0 1 olds ((Int id ∷ cells) ∷ []) ≡ []
  unfolding same_name joined
  no_works olds id = refl

  becomes : (made : ℤ) (r : Row) → rowid r ≡ Int (rowid_in r) → column r 1 ≡ Text user
      → updated (users_at 1) cells project made r ≡ Int (rowid_in r) ∷ cells
  becomes made r is_id is_key = rw (is_id, is_key, cast_int (rowid_in r), cast_int office) refl

  pub puts : ((id : ℤ) → IsAccountRow (Int id ∷ cells)) → (old new : State) (count : ℕ) → IsIndex old.now
      → Executes put_user_text cells old new (Ok count)
      → Changes (λ T. record T { users = insert T.users user (user_in (Int (pos 0) ∷ cells)) }) old.now new.now
  puts fits old new count h ran =
      let it = puts_text 1 (users_at 1) users_keyed put_user_text user (Int office ∷ Blob token ∷ []) terms project 4 user_in
      (user_in (Int (pos 0) ∷ cells)) (λ id. refl) (record {
        is_plain = is_plain;
        compiled = compiled;
        uncounted = refl;
        source = refl;
        cast_new = new_cast;
        cast_again = row_cast;
        conflicting = λ id r. refl;
        none = no_works;
      }) becomes fits old new count h ran in
      users_change old.now new.now it.2 (λ T. insert T.users user (user_in (Int (pos 0) ∷ cells))) it.0 it.1
