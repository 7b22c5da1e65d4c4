-- The one edit that a statement on a plain table makes, whatever the table is.
use Rattle.index_sql_schema.proofs.Words.{◌≡◌, ◌⊎◌, inl, inr, ℕ, ◌/◌, Bool, true, false, List, [], ◌∷◌, length, slice_get, Option, Some}
use Rattle.index_sql_schema.proofs.Words.{None, Ok, Err, refl, sym, ap, subst, ◌∙◌, ℤ, true≢false, MatchBool, Row, Trees, Term, Table}
use Rattle.index_sql_schema.proofs.Words.{Schema, Program, Insert, InsertOr, Update, Delete, Values, ◌++◌, rowid, cast_row, AreConflicts}
use Rattle.index_sql_schema.proofs.Words.{Upsert, Abort, shown, edit_of, with_rowid, ids_of, Chosen, Given, Database, Answers, value_rows}
use Rattle.index_sql_schema.proofs.Words.{stamped, Tally, Does}
use Rattle.std.proofs.Common.{Result}
use Rattle.std.specs.Prelude.{if◌then◌else◌}
use Rattle.sqlite_rules.specs.Steps.{IsJudged}
use Rattle.sqlite.specs.Rows.{Meets, Upserts, Clears, Resolves, TriesEach, Tries, count_of, nothing}
use Rattle.sqlite_rules.specs.Action as action
use Rattle.sqlite_rules.specs.declared.error.Rowids.TheVariants.{Above}
use Rattle.sqlite.specs.Rows.{Written, Task}
use Rattle.sqlite.specs.declared.run.Mode.{Mode}

pub went : {B E R : Type 0} {b : B} {Stops : E → Type 0} → ((stop : E) × Stops stop × (Ok b ≡ Err stop)) ⊎ R → R
went (inl stopped) = absurd (let e = stopped.2 in cc)
went (inr on) = on

pub same_value : {B E : Type 0} {a b : B} → ◌≡◌ {A = Result B E} (Ok a) (Ok b) → a ≡ b
same_value e = cc

no_count : (b lt : Bool) (A B : Type 0) → b ≡ false → MatchBool (if b then lt else false) A B → B
no_count true lt A B e h = absurd (true≢false e)
no_count false lt A B e h = h

chosen : (b : Bool) (top : ℤ) → b ≡ false → (if b then Above top else Chosen) ≡ Chosen
chosen true top e = absurd (true≢false e)
chosen false top e = refl

module _ (limit : Option ℕ) (mode : Mode) (params : Row) (schema : Schema) (db : Trees) (text : List ℕ) (at : ℕ) (table : Table)
    (is : slice_get schema.tables at ≡ Some table) (tally : Tally) (after : Database) where
  abbrev task : Task
  task = record { limit = limit; keys = mode.keys; schema = schema; table = table; params = params }

  pub update_edit : (q : Program) → Does limit mode params (record { schema = schema; trees = db }) text None (Update at q)
      (Ok (tally, after))
      → (rows : List Row) × Answers (record { schema = schema; trees = db }) q params rows × (after.schema ≡ schema)
      × action.Writes schema mode.keys db (edit_of db table (ids_of rows) Given 1 rows) (Ok after.trees)
  update_edit q h =
      let done = went (rw is at h) in
      let now : after ≡ record { schema = schema; trees = done.0.trees } =
      ap (λ (p : Tally × Database). p.1) (same_value (went (went done.2).2).2) in
      let given = went done.1 in
      let written = went given.2 in
      let trees : done.0.trees ≡ written.0 = ap (λ (it : Written). it.trees) (same_value written.2) in (
        given.0,
        given.1,
        ap (λ (d : Database). d.schema) now,
        subst (λ n. action.Writes schema mode.keys db (edit_of db table (ids_of given.0) Given 1 given.0) (Ok n))
            (sym (ap (λ (d : Database). d.trees) now ∙ trees)) written.1,
      )

  pub delete_edit : (q : Program) → Does limit mode params (record { schema = schema; trees = db }) text None (Delete at q)
      (Ok (tally, after))
      → (rows : List Row) × Answers (record { schema = schema; trees = db }) q params rows × (after.schema ≡ schema)
      × action.Writes schema mode.keys db (edit_of db table (ids_of rows) Given 0 []) (Ok after.trees)
  delete_edit q h =
      let done = went (rw is at h) in
      let now : after ≡ record { schema = schema; trees = done.0.trees } =
      ap (λ (p : Tally × Database). p.1) (same_value (went (went done.2).2).2) in
      let given = went done.1 in
      let written = went given.2 in
      let trees : done.0.trees ≡ written.0 = ap (λ (it : Written). it.trees) (same_value written.2) in (
        given.0,
        given.1,
        ap (λ (d : Database). d.schema) now,
        subst (λ n. action.Writes schema mode.keys db (edit_of db table (ids_of given.0) Given 0 []) (Ok n))
            (sym (ap (λ (d : Database). d.trees) now ∙ trees)) written.1,
      )

  pub insert_edit : table.is_counted ≡ false → (terms : List Term) (width : ℕ)
      → Does limit mode params (record { schema = schema; trees = db }) text None (Insert at (Values terms width)) (Ok (tally, after))
      → (after.schema ≡ schema) × action.Writes schema mode.keys db
      (edit_of db table [] Chosen 0 (value_rows (stamped table params) width (length terms / width) terms)) (Ok after.trees)
  insert_edit uncounted terms width h =
      let done = went (rw is at h) in
      let now : after ≡ record { schema = schema; trees = done.0.trees } =
      ap (λ (p : Tally × Database). p.1) (same_value (went (went done.2).2).2) in
      let given = went done.1 in
      let written = went (went given.2).2 in
      let counted = went written.2 in
      let mid = no_count table.is_counted _ _ _ uncounted counted.1 in
      let trees : done.0.trees ≡ written.0 = ap (λ (it : Written). it.trees) (same_value counted.2) ∙ same_value mid in
      let plain = subst (λ how. action.Writes schema mode.keys db (edit_of db table [] how 0 given.0) (Ok written.0))
      (chosen table.is_counted _ uncounted) written.1 in
      let rows = subst (λ all. action.Writes schema mode.keys db (edit_of db table [] Chosen 0 all) (Ok written.0)) given.1.1 plain in (
        ap (λ (d : Database). d.schema) now,
        subst
            (λ n. action.Writes schema mode.keys db
            (edit_of db table [] Chosen 0 (value_rows (stamped table params) width (length terms / width) terms)) (Ok n))
            (sym (ap (λ (d : Database). d.trees) now ∙ trees)) rows,
      )

  -- an upsert of one row with one clause
  abbrev pub new_of : Row → Row
  new_of source = with_rowid Chosen (db table.tree) (cast_row table source)

  pub record Upserted (clause : Upsert) (q : Program) (source : Row) : Type 0 where
    pub found : List Row
    pub conflicts : AreConflicts clause.target schema.indexes table (db table.tree) (new_of source) found
    pub judged : IsJudged table (new_of source) None
    pub went :
        ((found ≡ []) × ((others : List Row) × AreConflicts None schema.indexes table (db table.tree) (new_of source) others
        × action.Writes schema mode.keys db (edit_of db table [] Given 0 (new_of source ∷ [])) (Ok after.trees)))
        ⊎ ((there : Row) × (more : List Row) × (found ≡ there ∷ more) × (rows : List Row)
        × Answers (record { schema = schema; trees = db }) q (params ++ rowid there ∷ shown table (new_of source)) rows
        × action.Writes schema mode.keys db (edit_of db table (ids_of rows) Given 1 rows) (Ok after.trees))

  puts_it : (new : Row) (w : Written) (found : List Row) → Clears task Abort new db found (Ok w)
      → action.Writes schema mode.keys db (edit_of db table [] Given 0 (new ∷ [])) (Ok w.trees)
  puts_it new w [] h = let it = went h in subst (λ n. action.Writes schema mode.keys db (edit_of db table [] Given 0 (new ∷ [])) (Ok n))
      (sym (ap (λ (x : Written). x.trees) (same_value it.2))) it.1
  puts_it new w (x ∷ more) h = let it = went h in
      subst (λ n. action.Writes schema mode.keys db (edit_of db table [] Given 0 (new ∷ [])) (Ok n))
      (sym (ap (λ (x : Written). x.trees) (same_value it.2))) it.1

  upserts_row : (clause : Upsert) (q : Program) (new : Row) (w : Written) (found : List Row) → clause.update ≡ Some q
      → Meets task (Upserts task Abort new db []) new db clause found (Ok w)
      → ((found ≡ []) × ((others : List Row) × AreConflicts None schema.indexes table (db table.tree) new others
      × action.Writes schema mode.keys db (edit_of db table [] Given 0 (new ∷ [])) (Ok w.trees)))
      ⊎ ((there : Row) × (more : List Row) × (found ≡ there ∷ more) × (rows : List Row)
      × Answers (record { schema = schema; trees = db }) q (params ++ rowid there ∷ shown table new) rows
      × action.Writes schema mode.keys db (edit_of db table (ids_of rows) Given 1 rows) (Ok w.trees))
  upserts_row clause q new w [] is h =
      let put = puts_it new w h.0 h.2 in
      inl (refl, (h.0, h.1, put))
  upserts_row clause q new w (there ∷ more) is h =
      let it = went (subst (λ u. Resolves task new db there u (Ok w)) is h) in
      let written = went it.2 in
      inr (
        there,
        more,
        refl,
        it.0,
        it.1,
        subst
            (λ n. action.Writes schema mode.keys db (edit_of db table (ids_of it.0) Given 1 it.0) (Ok n))
            (sym (ap (λ (x : Written). x.trees) (same_value written.2))) written.1,
      )

  of_try : (clause : Upsert) (q : Program) (source : Row) (w : Written) → clause.update ≡ Some q → after.trees ≡ w.trees
      → Tries task Abort (clause ∷ []) (new_of source) db (Ok w) → Upserted clause q source
  of_try clause q source w update trees (inl (wide, refused)) = absurd (let e = refused in cc)
  of_try clause q source w update trees (inr (Some why, judged, refused)) = absurd (let e = refused in cc)
  of_try clause q source w update trees (inr (None, judged, h)) =
      let out = upserts_row clause q (new_of source) w h.0 update h.2 in
      record {
        found = h.0;
        conflicts = h.1;
        judged = judged;
        went = subst (λ (n : Trees). ((h.0 ≡ [])
            × ((others : List Row) × AreConflicts None schema.indexes table (db table.tree) (new_of source) others
            × action.Writes schema mode.keys db (edit_of db table [] Given 0 (new_of source ∷ [])) (Ok n)))
            ⊎ ((there : Row) × (more : List Row) × (h.0 ≡ there ∷ more) × (rows : List Row)
            × Answers (record { schema = schema; trees = db }) q (params ++ rowid there ∷ shown table (new_of source)) rows
            × action.Writes schema mode.keys db (edit_of db table (ids_of rows) Given 1 rows) (Ok n))) (sym trees) out;
      }

  pub upsert_edit : table.is_counted ≡ false → (terms : List Term) (width : ℕ) (source : Row) (clause : Upsert) (q : Program)
      → clause.update ≡ Some q
      → value_rows (stamped table params) width (length terms / width) terms ≡ source ∷ []
      → Does limit mode params (record { schema = schema; trees = db }) text None (InsertOr at Abort (Values terms width) (clause ∷ []))
      (Ok (tally, after)) → (after.schema ≡ schema) × Upserted clause q source
  upsert_edit uncounted terms width source clause q update one h =
      let done = went (rw is at h) in
      let now : after ≡ record { schema = schema; trees = done.0.trees } =
      ap (λ (p : Tally × Database). p.1) (same_value (went (went done.2).2).2) in
      let given = went done.1 in
      let counter = went given.2 in
      let tried = went counter.2 in
      let counted = went tried.2 in
      let mid = no_count table.is_counted _ _ _ uncounted counted.1 in
      let rows : given.0 ≡ source ∷ [] = given.1.1 ∙ one in
      let each = subst (λ rs. TriesEach task Abort (clause ∷ []) rs (count_of counter.0) (nothing db) (Ok tried.0)) rows tried.1 in
      let single = went each in
      let attempt = subst (λ how. Tries task Abort (clause ∷ []) (with_rowid how (db table.tree) (cast_row table source)) db (Ok single.0))
      (chosen table.is_counted _ uncounted) single.1 in
      let last : tried.0.0.trees ≡ single.0.trees = ap (λ (p : Written × ℤ). p.0.trees) (same_value single.2) in
      let trees : after.trees ≡ single.0.trees =
      ap (λ (d : Database). d.trees) now ∙ ap (λ (it : Written). it.trees) (same_value counted.2) ∙ same_value mid ∙ last in
      (ap (λ (d : Database). d.schema) now, of_try clause q source single.0 update trees attempt)
