-- INSERT INTO meta: the row of the version.
use Rattle.index_sql_schema.proofs.Words.{◌≡◌, ℕ, pos, true, List, [], ◌∷◌, codes, None, Ok, refl, sym, ap, subst, ◌∙◌, everything, Null}
use Rattle.index_sql_schema.proofs.Words.{Int, Text, Term, col, lit, Enforced, Values, cast_row, understood, State, Executes, IsPlain}
use Rattle.index_sql_schema.proofs.Words.{command_of, index_schema, IsIndex, Rewrites, Insert, Does, mode_of, runs_as, statement_of}
use Rattle.index_sql_schema.proofs.Words.{one_step, edit_of, put_all, with_rowid, are_fresh, AreRows, IsRecordIn, all_of, Chosen, meta_at}
use Rattle.index_sql_schema.specs.Index.{version_row, with_version}
use Rattle.index_sql_schema.proofs.KeyLemmas.{are_rows}
use Rattle.index_sql_schema.proofs.TableLemmas.{cast_null, cast_int}
use Rattle.index_sql_schema.proofs.EditLemmas.{put_all_fresh, numbered_after, altered}
use Rattle.index_sql_schema.proofs.StatementLemmas.{insert_edit}
use Rattle.index_sql_schema.proofs.AfterLemmas.{meta_change}
use Rattle.index_sql_schema.specs.StatementTexts.{put_version_text}

abbrev terms : List Term
terms = lit (Int (pos 1)) ∷ lit Null ∷ lit (Text (codes "python-index")) ∷ col 0 0 ∷ []

compiled : command_of (understood index_schema put_version_text) ≡ Insert 0 (Values terms 4)
unfolding understood everything
compiled = refl

is_plain : IsPlain (understood index_schema put_version_text)
unfolding understood everything
is_plain = (refl, refl)

row_cast : (version : ℕ) → cast_row (meta_at 0) (version_row version) ≡ version_row version
row_cast version = rw (cast_int (pos 1), cast_int (pos version), cast_null) refl

-- the tables are as they were, and meta has the row
pub puts : (version : ℕ) (old new : State) (count : ℕ) → IsIndex old.now
    → Executes put_version_text (Int (pos version) ∷ []) old new (Ok count) → Rewrites (λ T. T) (with_version version) old.now new.now
puts version old new count h ran =
    let db = old.now.trees in
    let command = Insert 0 (Values terms 4) in
    let params = Int (pos version) ∷ [] in
    let row = version_row version in
    let w = runs_as put_version_text params old new index_schema h.schema command compiled is_plain count ran in
    let t = statement_of put_version_text (understood index_schema put_version_text) in
    let did = subst (λ s. Does old.step_limit (mode_of old) params (record { schema = s; trees = db }) t None command
    (Ok (w.tally, new.now))) h.schema w.changed in
    let wrote = insert_edit old.step_limit (mode_of old) params index_schema db t 0 (meta_at 0) refl w.tally new.now refl terms 4 did in
    let it = one_step index_schema Enforced db new.now.trees (edit_of db (meta_at 0) [] Chosen 0 (row ∷ [])) refl wrote.1 in
    let cast : (edit_of db (meta_at 0) [] Chosen 0 (row ∷ [])).news ≡ row ∷ [] =
    ap (λ r. with_rowid Chosen (db 0) r ∷ []) (row_cast version) in
    let put = put_all_fresh (row ∷ []) (db 0) (
      refl,
      tt,
    ) (subst (λ ns. are_fresh (db 0) ns ≡ true) cast it.fresh) (are_rows 0 (meta_at 0) refl old.now h) in
    let next : new.now.trees 0 ≡ put_all (db 0) (row ∷ []) = it.rows ∙ ap (put_all (db 0)) cast in
    let index : IsIndex new.now = record {
      schema = wrote.0;
      sound = w.sound;
      numbered = numbered_after 0 db new.now.trees it.tables (subst AreRows (sym next) put.1) h.numbered;
    } in
    meta_change old.now new.now index (with_version version) next
    (altered 0 old.now new.now h index it.tables (λ _. all_of (IsRecordIn 0) (λ r. tt) (new.now.trees 0)))
