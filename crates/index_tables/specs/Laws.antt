-- What a crash leaves of an honest index.
use Rattle.std.specs.Prelude.{◌≡◌, ℕ, IsTrue}
use Rattle.std.proofs.Common.{◌∙◌, ap, refl, subst, sym}
use Rattle.sqlite_trees.specs.Tree.{Trees}
use Rattle.sqlite.specs.Effect.{Database}
use Rattle.sqlite.specs.State.{State}
use Rattle.index_sql_writes.proofs.CommitLemmas.{index_held}
use Rattle.index_rules.specs.Tables.{Tables}
use Rattle.index_sql_schema.specs.Records.{tables_in}
use Rattle.index_tables.specs.BooksState.{AreCurrent, IsHonest, Leaves}

-- while a connection is open, a crash leaves the last commit and nothing else: a law of each store
abbrev pub IsSettled : State → Type 0
IsSettled s = (db : Trees) → IsTrue s.is_open → s.may_leave db → db ≡ s.committed.trees

-- an honest index is what an open finds of it
pub current : (number : ℕ) (s : State) → IsHonest number s → AreCurrent number s.now.trees
current number s honest =
    record { index = index_held s.now _ honest.index refl; version = honest.version }

-- a crash leaves the tables of an honest index as they stand
pub settled_at : {number : ℕ} {s : State} → IsHonest number s → IsSettled s → (T : Tables)
    → Leaves number s T → T ≡ tables_in s.now.trees
settled_at {number} {s} honest settled T (clean, (db, may, is)) =
    let at : db ≡ s.now.trees =
    settled db honest.is_open may ∙ ap (λ (d : Database). d.trees) (sym honest.committed) in
    is (subst (AreCurrent number) (sym at) (current number s honest)) ∙ ap tables_in at
