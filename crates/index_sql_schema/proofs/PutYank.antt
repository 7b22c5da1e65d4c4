-- INSERT INTO yanks .. ON CONFLICT: the release is yanked, for this reason.
use Rattle.index_sql_schema.proofs.Words.{◌≡◌, ℕ, ℤ, List, [], ◌∷◌, Ok, refl, insert, everything, Null, Int, Text, Row, column, joined}
use Rattle.index_sql_schema.proofs.Words.{rowid, Term, lit, col, same_name, Enforced, InsertOr, Abort, Values, works, cast_row, understood}
use Rattle.index_sql_schema.proofs.Words.{State, Executes, IsPlain, command_of, Bytes, index_schema, yanks_at, reason_in, rowid_in, IsIndex}
use Rattle.index_sql_schema.proofs.Words.{Changes, IsYankedRow}
use Rattle.index_sql_schema.specs.StatementTexts.{put_yank_text}
use Rattle.index_sql_schema.proofs.QueryShapes.{on_conflict}
use Rattle.index_sql_schema.proofs.TableLemmas.{yanks_keyed, cast_null, cast_int}
use Rattle.index_sql_schema.proofs.PutLemmas.{updated, puts_pair}
use Rattle.index_sql_schema.proofs.AfterLemmas.{yanks_change}

abbrev terms : List Term
terms = lit Null ∷ col 0 0 ∷ col 0 1 ∷ col 0 2 ∷ []

abbrev project : List Term
project = col 1 0 ∷ col 1 1 ∷ col 1 2 ∷ col 0 7 ∷ []

is_plain : IsPlain (understood index_schema put_yank_text)
unfolding understood everything
is_plain = (refl, refl)

compiled : command_of (understood index_schema put_yank_text)
    ≡ InsertOr 6 Abort (Values terms 4) (on_conflict 13 3 (1 ∷ 2 ∷ []) (col 1 0 ∷ project) ∷ [])
unfolding understood everything
compiled = refl

module _ (name release reason : Bytes) where
  abbrev pub cells : Row
  cells = Text name ∷ Text release ∷ Text reason ∷ []

  new_cast : cast_row (yanks_at 13) (Null ∷ cells) ≡ Null ∷ cells
  new_cast = rw cast_null refl

  row_cast : (id : ℤ) → cast_row (yanks_at 13) (Int id ∷ cells) ≡ Int id ∷ cells
  row_cast id = rw (cast_int id) refl

  no_works : (olds : List Row) (id : ℤ) → works index_schema Enforced 0 13 olds ((Int id ∷ cells) ∷ []) ≡ []
  unfolding same_name joined
  no_works olds id = refl

  becomes : (made : ℤ) (r : Row) → rowid r ≡ Int (rowid_in r) → column r 1 ≡ Text name → column r 2 ≡ Text release
      → updated (yanks_at 13) cells project made r ≡ Int (rowid_in r) ∷ cells
  becomes made r is_id is_first is_second = rw (is_id, is_first, is_second, cast_int (rowid_in r)) refl

  pub puts : ((id : ℤ) → IsYankedRow (Int id ∷ cells)) → (old new : State) (count : ℕ) → IsIndex old.now
      → Executes put_yank_text cells old new (Ok count)
      → Changes (λ T. record T { yanks = insert T.yanks (name, release) reason }) old.now new.now
  puts fits old new count h ran =
      let it = puts_pair 6 (yanks_at 13) yanks_keyed put_yank_text name release (Text reason ∷ []) terms project 4 reason_in reason
      (λ id. refl) (record {
        is_plain = is_plain;
        compiled = compiled;
        uncounted = refl;
        source = refl;
        cast_new = new_cast;
        cast_again = row_cast;
        conflicting = λ id r. refl;
        none = no_works;
      }) becomes fits old new count h ran in
      yanks_change old.now new.now it.2 (λ T. insert T.yanks (name, release) reason) it.0 it.1
