-- The tables made one after another.
use Rattle.index_sql_schema.proofs.Words.{◌≡◌, ℕ, zero, suc, false, List, [], ◌∷◌, slice_get, Some, None, Ok, refl, sym, ap, subst, ◌∙◌}
use Rattle.index_sql_schema.proofs.Words.{AllByRecursion, digits, everything, Table, Schema, created, KeepsRows, Tally, Database}
use Rattle.index_sql_schema.proofs.Words.{IsDatabase, understood, State, Executes, IsPlain, command_of, statement_of, runs_as, all-append}
use Rattle.index_sql_schema.proofs.Words.{all_both, all_weaker, bans_text, meta_at, users_at, names_at, owners_at, files_at, blobs_at}
use Rattle.index_sql_schema.proofs.Words.{yanks_at, cases_at, bans_at, index_schema, stage, AreRows, IsIndex, tables_in}
use Rattle.sqlite_schema.specs.declared.command.Command.TheVariants.{CreateTable}
use Rattle.sqlite_catalog.specs.Change.{next_tree}
use Rattle.sqlite.specs.Compile.{table_defined_by}
use Rattle.sqlite.specs.Does.{lacks_sequence}
use Rattle.sqlite.specs.State.{ExecutesInside, Writes}
use Rattle.index_sql_schema.specs.TableTexts.{meta_text, users_text, names_text, owners_text, files_text, blobs_text, yanks_text}
use Rattle.index_sql_schema.specs.TableTexts.{cases_text}
use Rattle.index_sql_schema.specs.CreateSteps.{all_texts, IsStage}
use Rattle.index_sql_schema.specs.CreateSteps.{no_tables}
use Rattle.index_sql_schema.proofs.StatementLemmas.{went, same_value}

-- a statement that makes this table, under this schema
pub record Makes (before : Schema) (text : List ℕ) (table : Table) : Type 0 where
  pub command : command_of (understood before text) ≡ CreateTable
  pub whole : statement_of text (understood before text) ≡ text
  pub plain : IsPlain (understood before text)
  pub defined : table_defined_by text ≡ Ok table
  pub uncounted : lacks_sequence (created before table) ≡ false

pub creates : (before : Schema) (text : List ℕ) (table : Table) → Makes before text table → (old new : State) (count : ℕ)
    → old.now.schema ≡ before → Executes text [] old new (Ok count)
    → (new.now.schema ≡ created before table) × (new.now.trees (next_tree before) ≡ [])
    × KeepsRows before.tables old.now.trees new.now.trees × IsDatabase new.now
creates before text table makes old new count has ran =
    let w = subst (λ t. Writes old new None CreateTable t [] count) makes.whole
    (runs_as text [] old new before has CreateTable makes.command makes.plain count ran) in
    let all = went w.changed in
    let first = went all.1 in
    let made = first.1 in
    let both : Ok made.table ≡ Ok table = sym made.defined ∙ makes.defined in
    let same : made.table ≡ table = cc in
    let schema : first.0.schema ≡ created before table = made.is ∙ ap (λ s. created s made.table) has ∙ ap (created before) same in
    let plain : lacks_sequence first.0.schema ≡ false = ap lacks_sequence schema ∙ makes.uncounted in
    let now : new.now ≡ first.0 = ap (λ (p : Tally × Database). p.1) (same_value all.2) ∙ same_value (rw plain at first.2) in (
      ap (λ (d : Database). d.schema) now ∙ schema,
      ap (λ (d : Database). d.trees (next_tree before)) now ∙ subst (λ s. first.0.trees (next_tree s) ≡ []) has made.empty,
      subst (λ (d : Database). KeepsRows before.tables old.now.trees d.trees) (sym now)
          (subst (λ s. KeepsRows s.tables old.now.trees first.0.trees) has made.others),
      w.sound,
    )

makes_meta : Makes (stage 0) meta_text (meta_at 0)
unfolding understood everything digits
makes_meta = record { command = refl; whole = refl; plain = (refl, refl); defined = refl; uncounted = refl }

makes_users : Makes (stage 1) users_text (users_at 0)
unfolding understood everything digits
makes_users = record { command = refl; whole = refl; plain = (refl, refl); defined = refl; uncounted = refl }

makes_names : Makes (stage 2) names_text (names_at 0)
unfolding understood everything digits
makes_names = record { command = refl; whole = refl; plain = (refl, refl); defined = refl; uncounted = refl }

makes_owners : Makes (stage 3) owners_text (owners_at 0)
unfolding understood everything digits
makes_owners = record { command = refl; whole = refl; plain = (refl, refl); defined = refl; uncounted = refl }

makes_files : Makes (stage 4) files_text (files_at 0)
unfolding understood everything digits
makes_files = record { command = refl; whole = refl; plain = (refl, refl); defined = refl; uncounted = refl }

makes_blobs : Makes (stage 5) blobs_text (blobs_at 0)
unfolding understood everything digits
makes_blobs = record { command = refl; whole = refl; plain = (refl, refl); defined = refl; uncounted = refl }

makes_yanks : Makes (stage 6) yanks_text (yanks_at 0)
unfolding understood everything digits
makes_yanks = record { command = refl; whole = refl; plain = (refl, refl); defined = refl; uncounted = refl }

makes_cases : Makes (stage 7) cases_text (cases_at 0)
unfolding understood everything digits
makes_cases = record { command = refl; whole = refl; plain = (refl, refl); defined = refl; uncounted = refl }

pub makes_bans : Makes (stage 8) bans_text (bans_at 0)
unfolding understood everything digits
makes_bans = record { command = refl; whole = refl; plain = (refl, refl); defined = refl; uncounted = refl }

module _ (n : ℕ) (text : List ℕ) (table : Table) (makes : Makes (stage n) text table) (next : created (stage n) table ≡ stage (suc n)) where
  one_more : (sql : List ℕ) → text ≡ sql → (old new : State) (count : ℕ) → IsStage n old → ExecutesInside 0 sql [] old new (Ok count)
      → IsStage (suc n) new × (new.committed ≡ old.committed)
  one_more sql is old new count st ran =
      let it = creates (stage n) text table makes old new count st.schema (subst (λ t. Executes t [] old new (Ok count)) (sym is) ran.0) in
      let kept = all_both _ _ (λ (t : Table). new.now.trees t.tree ≡ []) (λ t same none. same ∙ none) (stage n).tables it.2 st.empty in
      let grown = all-append (λ (t : Table). new.now.trees t.tree ≡ []) (stage n).tables (record table { tree = next_tree (stage n) } ∷ [])
      kept (it.1, tt) in (
        record {
          is_open = ran.1.is_open;
          inside = ran.1.mode;
          schema = it.0 ∙ next;
          sound = it.3;
          empty = subst (λ (s : Schema). AllByRecursion (λ (t : Table). new.now.trees t.tree ≡ []) s.tables) next grown;
        },
        ran.1.committed_is,
      )

-- the next of the texts makes the next table
pub stage_step : (n : ℕ) (sql : List ℕ) → slice_get all_texts n ≡ Some sql → (old new : State) (count : ℕ) → IsStage n old
    → ExecutesInside 0 sql [] old new (Ok count) → IsStage (suc n) new × (new.committed ≡ old.committed)
stage_step zero sql e = one_more 0 meta_text (meta_at 0) makes_meta refl sql cc
stage_step (suc zero) sql e = one_more 1 users_text (users_at 0) makes_users refl sql cc
stage_step (suc (suc zero)) sql e = one_more 2 names_text (names_at 0) makes_names refl sql cc
stage_step (suc (suc (suc zero))) sql e = one_more 3 owners_text (owners_at 0) makes_owners refl sql cc
stage_step (suc (suc (suc (suc zero)))) sql e = one_more 4 files_text (files_at 0) makes_files refl sql cc
stage_step (suc (suc (suc (suc (suc zero))))) sql e = one_more 5 blobs_text (blobs_at 0) makes_blobs refl sql cc
stage_step (suc (suc (suc (suc (suc (suc zero)))))) sql e = one_more 6 yanks_text (yanks_at 0) makes_yanks refl sql cc
stage_step (suc (suc (suc (suc (suc (suc (suc zero))))))) sql e = one_more 7 cases_text (cases_at 0) makes_cases refl sql cc
stage_step (suc (suc (suc (suc (suc (suc (suc (suc zero)))))))) sql e = one_more 8 bans_text (bans_at 0) makes_bans refl sql cc
stage_step (suc (suc (suc (suc (suc (suc (suc (suc (suc n))))))))) sql e = absurd (let f = e in cc)

pub all_made : stage 9 ≡ index_schema
unfolding digits
all_made = refl

-- all tables made are an index with nothing in it
pub staged_index : (s : State) → IsStage 9 s → IsIndex s.now × (tables_in s.now.trees ≡ no_tables)
unfolding digits
staged_index s st =
    let e = st.empty in (
      record {
        schema = st.schema ∙ all_made;
        sound = st.sound;
        numbered = all_weaker (λ (t : Table). s.now.trees t.tree ≡ []) (λ (t : Table). AreRows (s.now.trees t.tree))
            (λ t none. subst AreRows (sym none) (tt, tt)) index_schema.tables st.empty;
      },
      rw (e.1.0, e.1.1.0, e.1.1.1.0, e.1.1.1.1.0, e.1.1.1.1.1.0, e.1.1.1.1.1.1.0, e.1.1.1.1.1.1.1.0, e.1.1.1.1.1.1.1.1.0) refl,
    )
