-- What a commit leaves.
use Rattle.index_sql_writes.proofs.Words.{◌≡◌, ◌∙◌, IsTrue, List, true, false, ap, refl, subst, sym, Row, Ghosts, Trees, Database, Held}
use Rattle.index_sql_writes.proofs.Words.{state, Tables, IsIndex, meta_in, tables_in, AreRecords, IsInTransaction, MakesInTransaction}
use Rattle.sqlite.specs.State.{Shows}
use Rattle.index_sql_writes.specs.Changed.{HoldsIndex, IsMade}

-- the trees of an index are found as one, by the schema that they list
pub index_held : (d : Database) (db : Trees) → IsIndex d → db ≡ d.trees → HoldsIndex db
index_held d db it is = subst HoldsIndex (sym is) (subst (λ s. IsIndex (record { schema = s; trees = d.trees })) it.schema it)

-- a change made inside a transaction is made as a whole by its commit
pub made_by_commit : {S : Type 0} (g : Ghosts S) (change : Tables → Tables) (rows : List Row → List Row) (old start mid new : Held S)
    → start ≡ record old { in_transaction = true } → IsTrue (state g old).is_open → IsIndex (state g old).now
    → (IsInTransaction (state g start) → MakesInTransaction change rows (state g start) (state g mid))
    → Shows (state g mid) (state g new) (state g mid).now (state g mid).now false → IsMade change rows (state g old) (state g new)
made_by_commit g change rows old start mid new begun opened index makes shows =
    let made = (subst (λ h. IsInTransaction (state g h) → MakesInTransaction change rows (state g h) (state g mid)) begun makes)
    (record { is_open = opened; inside = refl; index = index }) in
    record {
      is_open = shows.is_open;
      index = subst IsIndex (sym shows.now_is) made.ready.index;
      tables = ap (λ (d : Database). tables_in d.trees) shows.now_is ∙ made.tables;
      meta = ap (λ (d : Database). meta_in d.trees) shows.now_is ∙ made.meta;
      records = λ before. subst AreRecords (sym shows.now_is) (made.records before);
      committed = shows.committed_is ∙ sym shows.now_is;
      ended = shows.mode;
    }
