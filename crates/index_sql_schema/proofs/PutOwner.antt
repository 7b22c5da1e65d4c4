-- INSERT INTO owners .. ON CONFLICT: the user owns the name.
use Rattle.index_sql_schema.proofs.Words.{◌≡◌, ℕ, ℤ, List, [], ◌∷◌, Ok, refl, insert, everything, Null, Int, Text, Row, column, joined}
use Rattle.index_sql_schema.proofs.Words.{rowid, Term, lit, col, same_name, Enforced, InsertOr, Abort, Values, works, cast_row, understood}
use Rattle.index_sql_schema.proofs.Words.{State, Executes, IsPlain, command_of, Bytes, index_schema, owners_at, nothing_in, rowid_in}
use Rattle.index_sql_schema.proofs.Words.{IsIndex, Changes, IsOwnedRow}
use Rattle.index_sql_schema.specs.StatementTexts.{put_owner_text}
use Rattle.index_sql_schema.proofs.QueryShapes.{on_conflict}
use Rattle.index_sql_schema.proofs.TableLemmas.{owners_keyed, cast_null, cast_int}
use Rattle.index_sql_schema.proofs.PutLemmas.{updated, puts_pair}
use Rattle.index_sql_schema.proofs.AfterLemmas.{owners_change}

abbrev terms : List Term
terms = lit Null ∷ col 0 0 ∷ col 0 1 ∷ []

abbrev project : List Term
project = col 1 0 ∷ col 1 1 ∷ col 0 5 ∷ []

is_plain : IsPlain (understood index_schema put_owner_text)
unfolding understood everything
is_plain = (refl, refl)

compiled : command_of (understood index_schema put_owner_text)
    ≡ InsertOr 3 Abort (Values terms 3) (on_conflict 6 2 (1 ∷ 2 ∷ []) (col 1 0 ∷ project) ∷ [])
unfolding understood everything
compiled = refl

module _ (name user : Bytes) where
  abbrev pub cells : Row
  cells = Text name ∷ Text user ∷ []

  new_cast : cast_row (owners_at 6) (Null ∷ cells) ≡ Null ∷ cells
  new_cast = rw cast_null refl

  row_cast : (id : ℤ) → cast_row (owners_at 6) (Int id ∷ cells) ≡ Int id ∷ cells
  row_cast id = rw (cast_int id) refl

  no_works : (olds : List Row) (id : ℤ) → works index_schema Enforced 0 6 olds ((Int id ∷ cells) ∷ []) ≡ []
  unfolding same_name joined
  no_works olds id = refl

  becomes : (made : ℤ) (r : Row) → rowid r ≡ Int (rowid_in r) → column r 1 ≡ Text name → column r 2 ≡ Text user
      → updated (owners_at 6) cells project made r ≡ Int (rowid_in r) ∷ cells
  becomes made r is_id is_first _ = rw (is_id, is_first, cast_int (rowid_in r)) refl

  pub puts : ((id : ℤ) → IsOwnedRow (Int id ∷ cells)) → (old new : State) (count : ℕ) → IsIndex old.now
      → Executes put_owner_text cells old new (Ok count)
      → Changes (λ T. record T { owners = insert T.owners (name, user) tt }) old.now new.now
  puts fits old new count h ran =
      let it = puts_pair 3 (owners_at 6) owners_keyed put_owner_text name user [] terms project 3 nothing_in tt (λ id. refl) (record {
        is_plain = is_plain;
        compiled = compiled;
        uncounted = refl;
        source = refl;
        cast_new = new_cast;
        cast_again = row_cast;
        conflicting = λ id r. refl;
        none = no_works;
      }) becomes fits old new count h ran in
      owners_change old.now new.now it.2 (λ T. insert T.owners (name, user) tt) it.0 it.1
