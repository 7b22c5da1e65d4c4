-- The first rows of a new index.
use Rattle.index_sql_opening.proofs.Words.{◌≡◌, [], sym, subst, AllByRecursion, digits, Table, Schema, all_weaker, State, IsStage, stage}
use Rattle.index_sql_opening.proofs.Words.{no_tables, MakesInTransaction}
use Rattle.index_sql_schema.specs.Index.{meta_in}
use Rattle.index_sql_schema.specs.RecordRows.{IsRecordIn, AreRecords, AreRecordsIn, AreRecordsOf}
use Rattle.index_sql_schema.proofs.CreateLemmas.{staged_index}

no_meta : (made : State) → IsStage 9 made → meta_in made.now.trees ≡ []
unfolding digits
no_meta made st = st.empty.0

-- all tables made have no rows
pub no_rows : (made : State) → IsStage 9 made → AreRecords made.now
no_rows made st =
    subst (λ (s : Schema). AreRecordsOf s.tables made.now.trees) (sym st.schema)
    (all_weaker (λ (t : Table). made.now.trees t.tree ≡ []) (λ (t : Table). AreRecordsIn made.now.trees t.tree)
    (λ t none. subst (AllByRecursion (IsRecordIn t.tree)) (sym none) tt) (stage 9).tables st.empty)

-- so they are an index, with no row of meta
pub made_all : (first made : State) → made.committed ≡ first.committed → IsStage 9 made
    → MakesInTransaction (λ _. no_tables) (λ _. []) first made
made_all first made same st =
    let it = staged_index made st in
    record {
      ready = record { is_open = st.is_open; inside = st.inside; index = it.0 };
      tables = it.1;
      committed = same;
      meta = no_meta made st;
      records = λ _. no_rows made st;
    }
