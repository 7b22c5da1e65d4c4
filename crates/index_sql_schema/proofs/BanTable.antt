-- CREATE TABLE bans: a database of version 1 gets the tables of an index.
use Rattle.index_sql_schema.proofs.Words.{◌≡◌, ℕ, [], ◌∷◌, Ok, refl, sym, subst, ◌∙◌, digits, Trees, AllByRecursion, Table, Schema, created}
use Rattle.index_sql_schema.proofs.Words.{KeepsRows, State, Executes, all_both, all-append, bans_text, index_schema, bans_at, stage}
use Rattle.index_sql_schema.proofs.Words.{first_version_schema, AreRows, Changes, tables_in, IsRecordIn, AreRecordsIn, AreRecordsOf}
use Rattle.index_sql_schema.specs.FirstVersion.{IsFirstVersion, without_bans}
use Rattle.index_sql_schema.proofs.CreateLemmas.{creates, makes_bans}

pub first_eight : stage 8 ≡ first_version_schema
unfolding digits
first_eight = refl

all_nine : created (stage 8) (bans_at 0) ≡ index_schema
unfolding digits
all_nine = refl

tables_after : (db next : Trees) → KeepsRows first_version_schema.tables db next → next 17 ≡ []
    → tables_in next ≡ without_bans (tables_in db)
tables_after db next h none = rw (h.1.0, h.1.1.0, h.1.1.1.0, h.1.1.1.1.0, h.1.1.1.1.1.0, h.1.1.1.1.1.1.0, h.1.1.1.1.1.1.1.0, none) refl

-- an index with the same tables, no bans, and the same rows of meta
pub creates_bans : (old new : State) (count : ℕ) → IsFirstVersion old.now → Executes bans_text [] old new (Ok count)
    → Changes without_bans old.now new.now
unfolding digits
creates_bans old new count h ran =
    let it = creates (stage 8) bans_text (bans_at 0) makes_bans old new count (h.schema ∙ sym first_eight) ran in
    let empty : new.now.trees 17 ≡ [] = it.1 in
    let kept : KeepsRows first_version_schema.tables old.now.trees new.now.trees = it.2 in
    let eight = all_both (λ (t : Table). new.now.trees t.tree ≡ old.now.trees t.tree) (λ (t : Table). AreRows (old.now.trees t.tree))
    (λ (t : Table). AreRows (new.now.trees t.tree)) (λ t same are. subst AreRows (sym same) are)
    first_version_schema.tables kept h.numbered in
    let nine = all-append (λ (t : Table). AreRows (new.now.trees t.tree)) first_version_schema.tables (bans_at 17 ∷ []) eight
    (subst AreRows (sym empty) (tt, tt), tt) in
    record {
      tables = tables_after old.now.trees new.now.trees kept empty;
      index = record { schema = it.0 ∙ all_nine; sound = it.3; numbered = nine };
      meta = kept.0;
      records = λ before.
          let was = subst (λ (s : Schema). AreRecordsOf s.tables old.now.trees) h.schema before in
          let eight = all_both (λ (t : Table). new.now.trees t.tree ≡ old.now.trees t.tree)
          (λ (t : Table). AreRecordsIn old.now.trees t.tree) (λ (t : Table). AreRecordsIn new.now.trees t.tree)
          (λ t same rows. subst (AllByRecursion (IsRecordIn t.tree)) (sym same) rows) first_version_schema.tables kept was in
          let nine = all-append (λ (t : Table). AreRecordsIn new.now.trees t.tree) first_version_schema.tables (bans_at 17 ∷ []) eight
          (subst (AllByRecursion (IsRecordIn 17)) (sym empty) tt, tt) in
          subst (λ (s : Schema). AreRecordsOf s.tables new.now.trees) (sym (it.0 ∙ all_nine)) nine;
    }
