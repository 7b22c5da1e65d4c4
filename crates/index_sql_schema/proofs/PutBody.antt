-- INSERT INTO blobs: the file has these bytes. It had none, for it has one row after that.
use Rattle.index_sql_schema.proofs.Words.{◌≡◌, ℕ, ℤ, not, false, List, [], ◌∷◌, None, Ok, refl, sym, ap, subst, ◌∙◌, IsPermutation}
use Rattle.index_sql_schema.proofs.Words.{eq_by_cmp, insert, nat_list_cmp_total, eq_by_cmp_equiv, IsPermutation-sym, exact_bytes}
use Rattle.index_sql_schema.proofs.Words.{everything, Null, Int, Text, Blob, Row, joined, Term, lit, col, same_name, Enforced, Command}
use Rattle.index_sql_schema.proofs.Words.{Insert, Values, Writes, works, cast_row, edit_of, next_rowid, with_rowid, Chosen, delete_where}
use Rattle.index_sql_schema.proofs.Words.{all_weaker, filter_all, Does, value_rows, understood, stamped, State, Executes, mode_of, IsPlain}
use Rattle.index_sql_schema.proofs.Words.{command_of, runs_as, statement_of, one_step, Bytes, bytes_cmp, index_schema, blobs_at, body_in}
use Rattle.index_sql_schema.proofs.Words.{text_key, AreRows, IsIndex, Changes, IsRecordIn, IsStoredRow}
use Rattle.index_sql_schema.specs.StatementTexts.{put_body_text}
use Rattle.index_sql_schema.proofs.Permutations.{all_permutation, ascending_permutation}
use Rattle.index_sql_schema.proofs.KeyLemmas.{are_rows}
use Rattle.index_sql_schema.proofs.KeyedLemmas.{put_is}
use Rattle.index_sql_schema.proofs.EditLemmas.{put_all_fresh, numbered_after, altered}
use Rattle.index_sql_schema.proofs.StatementLemmas.{insert_edit}
use Rattle.index_sql_schema.proofs.TableLemmas.{blobs_keyed, cast_null}
use Rattle.index_sql_schema.proofs.WriteLemmas.{edit_with}
use Rattle.index_sql_schema.proofs.AfterLemmas.{bodies_change}

abbrev terms : List Term
terms = lit Null ∷ col 0 0 ∷ col 0 1 ∷ []

abbrev command : Command
command = Insert 5 (Values terms 3)

is_plain : IsPlain (understood index_schema put_body_text)
unfolding understood everything
is_plain = (refl, refl)

compiled : command_of (understood index_schema put_body_text) ≡ command
unfolding understood everything
compiled = refl

module _ (file body : Bytes) where
  abbrev pub cells : Row
  cells = Text file ∷ Blob body ∷ []

  abbrev row : ℤ → Row
  row id = Int id ∷ cells

  new_cast : cast_row (blobs_at 11) (Null ∷ cells) ≡ Null ∷ cells
  new_cast = rw cast_null refl

  no_works : (olds : List Row) (id : ℤ) → works index_schema Enforced 0 11 olds (row id ∷ []) ≡ []
  unfolding same_name joined
  no_works olds id = refl

  pub puts : ((id : ℤ) → IsStoredRow (Int id ∷ cells)) → (old new : State) (count : ℕ) → IsIndex old.now
      → Executes put_body_text cells old new (Ok count)
      → Changes (λ T. record T { bodies = insert T.bodies file body }) old.now new.now
  puts fits old new count h ran =
      let db = old.now.trees in
      let next = new.now.trees in
      let w = runs_as put_body_text cells old new index_schema h.schema command compiled is_plain count ran in
      let t = statement_of put_body_text (understood index_schema put_body_text) in
      let did = subst (λ s. Does old.step_limit (mode_of old) cells (record { schema = s; trees = db }) t None command
      (Ok (w.tally, new.now))) h.schema w.changed in
      let wrote = insert_edit old.step_limit (mode_of old) cells index_schema db t 5 (blobs_at 11) refl w.tally new.now refl terms 3 did in
      let id = next_rowid (db 11) in
      let edit : edit_of db (blobs_at 11) [] Chosen 0 (value_rows (stamped (blobs_at 11) cells) 3 1 terms)
      ≡ edit_with (blobs_at 11) [] (row id ∷ []) =
      ap (λ r. record { table = blobs_at 11; gone = []; news = with_rowid Chosen (db 11) r ∷ [] }) new_cast in
      let it = one_step index_schema Enforced db next (edit_with (blobs_at 11) [] (row id ∷ [])) (no_works [] id)
      (subst (λ e. Writes index_schema Enforced db e (Ok next)) edit wrote.1) in
      let put = put_all_fresh (row id ∷ []) (db 11) (refl, tt) it.fresh (are_rows 5 (blobs_at 11) refl old.now h) in
      let order : IsPermutation (row id ∷ db 11) (next 11) = subst (IsPermutation (row id ∷ db 11)) (sym it.rows) put.0 in
      let index : IsIndex new.now = record {
        schema = wrote.0;
        sound = w.sound;
        numbered = numbered_after 11 db next it.tables (subst AreRows (sym it.rows) put.1) h.numbered;
      } in
      -- the key tells the rows apart, so none of those before has it
      let apart = ascending_permutation (λ a b. eq_by_cmp bytes_cmp (text_key a) (text_key b) ≡ false)
      (λ a b e. (eq_by_cmp_equiv nat_list_cmp_total).symm (text_key b) (text_key a) ∙ e) (next 11) (row id ∷ db 11)
      (IsPermutation-sym _ _ order) (blobs_keyed.apart new.now index) in
      let alone : delete_where (λ r. eq_by_cmp bytes_cmp file (text_key r)) (db 11) ≡ db 11 =
      filter_all (λ r. not (eq_by_cmp bytes_cmp file (text_key r))) (db 11) (all_weaker _ _ (λ r e. ap not e) (db 11) apart.0) in
      let is = put_is nat_list_cmp_total exact_bytes text_key body_in 11 blobs_keyed.apart old.now new.now index (row id)
      (subst (λ l. IsPermutation (row id ∷ l) (next 11)) (sym alone) order) in
      bodies_change old.now new.now index (λ T. insert T.bodies file body) is
      (altered 11 old.now new.now h index it.tables (λ before. all_permutation (IsRecordIn 11) _ _ order (fits id, before)))
