-- Changes, one after the other.
use Rattle.index_sql_writes.proofs.Words.{◌≡◌, List, ap, ◌∙◌, Row, State, KeepsCommit, Tables, meta_in, same_meta, tables_in, AreRecords}
use Rattle.index_sql_writes.proofs.Words.{IsInTransaction, MakesInTransaction}

pub makes_then : (change more : Tables → Tables) (rows later : List Row → List Row) (first mid last : State)
    → MakesInTransaction change rows first mid → MakesInTransaction more later mid last
    → MakesInTransaction (λ T. more (change T)) (λ meta. later (rows meta)) first last
makes_then change more rows later first mid last before did = record {
  ready = did.ready;
  tables = did.tables ∙ ap more before.tables;
  committed = did.committed ∙ before.committed;
  meta = did.meta ∙ ap later before.meta;
  records = λ are. did.records (before.records are);
}

pub keeps_then : (a b c : State) → KeepsCommit a b → KeepsCommit b c → KeepsCommit a c
keeps_then a b c p q = record { was_open = λ o. p.was_open (q.was_open o); committed = λ o. q.committed o ∙ p.committed (q.was_open o) }

-- one more of several, of which each is made by `by` and all by `all_by`
pub one_more : {A : Type 0} (by : A → Tables → Tables) (all_by : List A → Tables
    → Tables) (first mid last : State) (it : A) (rest all : List A)
    → IsInTransaction mid × (all_by rest (by it (tables_in mid.now.trees)) ≡ all_by all (tables_in first.now.trees))
    × (mid.committed ≡ first.committed) × (meta_in mid.now.trees ≡ meta_in first.now.trees)
    × (AreRecords first.now → AreRecords mid.now)
    → MakesInTransaction (by it) same_meta mid last
    → IsInTransaction last × (all_by rest (tables_in last.now.trees) ≡ all_by all (tables_in first.now.trees))
    × (last.committed ≡ first.committed) × (meta_in last.now.trees ≡ meta_in first.now.trees)
    × (AreRecords first.now → AreRecords last.now)
one_more by all_by first mid last it rest all before made = (
  made.ready,
  ap (all_by rest) made.tables ∙ before.1,
  made.committed ∙ before.2,
  made.meta ∙ before.3,
  λ rows. made.records (before.4 rows),
)
