-- INSERT INTO bans .. ON CONFLICT: the file is banned.
use Rattle.index_sql_schema.proofs.Words.{◌≡◌, ℕ, ℤ, List, [], ◌∷◌, Ok, refl, insert, everything, Null, Int, Text, Row, column, joined}
use Rattle.index_sql_schema.proofs.Words.{rowid, Term, lit, col, same_name, Enforced, InsertOr, Abort, Values, works, cast_row, understood}
use Rattle.index_sql_schema.proofs.Words.{State, Executes, IsPlain, command_of, Bytes, index_schema, bans_at, nothing_in, rowid_in, IsIndex}
use Rattle.index_sql_schema.proofs.Words.{Changes}
use Rattle.index_sql_schema.specs.RecordRows.{IsBannedRow}
use Rattle.index_sql_schema.specs.StatementTexts.{put_ban_text}
use Rattle.index_sql_schema.proofs.QueryShapes.{on_conflict}
use Rattle.index_sql_schema.proofs.TableLemmas.{bans_keyed, cast_null, cast_int}
use Rattle.index_sql_schema.proofs.PutLemmas.{updated, puts_text}
use Rattle.index_sql_schema.proofs.AfterLemmas.{bans_change}

abbrev terms : List Term
terms = lit Null ∷ col 0 0 ∷ []

abbrev project : List Term
project = col 1 0 ∷ col 0 3 ∷ []

is_plain : IsPlain (understood index_schema put_ban_text)
unfolding understood everything
is_plain = (refl, refl)

compiled : command_of (understood index_schema put_ban_text)
    ≡ InsertOr 8 Abort (Values terms 2) (on_conflict 17 1 (1 ∷ []) (col 1 0 ∷ project) ∷ [])
unfolding understood everything
compiled = refl

module _ (file : Bytes) where
  abbrev pub cells : Row
  cells = Text file ∷ []

  new_cast : cast_row (bans_at 17) (Null ∷ cells) ≡ Null ∷ cells
  new_cast = rw cast_null refl

  row_cast : (id : ℤ) → cast_row (bans_at 17) (Int id ∷ cells) ≡ Int id ∷ cells
  row_cast id = rw (cast_int id) refl

  no_works : (olds : List Row) (id : ℤ) → works index_schema Enforced 0 17 olds ((Int id ∷ cells) ∷ []) ≡ []
  unfolding same_name joined
  no_works olds id = refl

  becomes : (made : ℤ) (r : Row) → rowid r ≡ Int (rowid_in r) → column r 1 ≡ Text file
      → updated (bans_at 17) cells project made r ≡ Int (rowid_in r) ∷ cells
  becomes made r is_id _ = rw (is_id, cast_int (rowid_in r)) refl

  pub puts : ((id : ℤ) → IsBannedRow (Int id ∷ cells)) → (old new : State) (count : ℕ) → IsIndex old.now
      → Executes put_ban_text cells old new (Ok count)
      → Changes (λ T. record T { bans = insert T.bans file tt }) old.now new.now
  puts fits old new count h ran =
      let it = puts_text 8 (bans_at 17) bans_keyed put_ban_text file [] terms project 2 nothing_in tt (λ id. refl) (record {
        is_plain = is_plain;
        compiled = compiled;
        uncounted = refl;
        source = refl;
        cast_new = new_cast;
        cast_again = row_cast;
        conflicting = λ id r. refl;
        none = no_works;
      }) becomes fits old new count h ran in
      bans_change old.now new.now it.2 (λ T. insert T.bans file tt) it.0 it.1
