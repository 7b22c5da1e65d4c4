-- The rowids of tables in a store that is not broken.
use Rattle.index_sql_opening.proofs.Words.{◌≡◌, List, [], ◌∷◌, sym, subst, ◌∙◌, arith, AllByRecursion, Row, Table, Schema, IsSound}
use Rattle.index_sql_opening.proofs.Words.{all_weaker}
use Rattle.std.proofs.Common.{ap₂, Less, int_cmp}
use Rattle.std.proofs.lemmas.Int.{ints}
use Rattle.sqlite_value.specs.Order.{value_cmp}
use Rattle.sqlite_value.proofs.OrderLemmas.{value_cmp-Int}
use Rattle.sqlite_trees.specs.Tree.{rowid, IsTable}
use Rattle.sqlite_trees.specs.Objects.{catalog_tree, IsListed}
use Rattle.sqlite_trees.specs.View.{View, IsOrdered, IsShaped}
use Rattle.sqlite_trees.specs.declared.store.Shape.TheVariants as shape
use Rattle.sqlite_catalog.proofs.LayoutLemmas.{laid_out, objects_rise}
use Rattle.sqlite_keyed.proofs.ListLemmas.{all_both}
use Rattle.index_sql_schema.specs.Index.{rowid_in, HasRowid, AreRows}
use Rattle.index_sql_schema.proofs.EditLemmas.{as_int, Differ}

below_differs : (a b : Row) → HasRowid a → HasRowid b → value_cmp (rowid a) (rowid b) ≡ Less → Differ a b
below_differs a b p q less =
    let by : int_cmp (rowid_in a) (rowid_in b) ≡ Less =
    sym (value_cmp-Int (rowid_in a) (rowid_in b)) ∙ sym (ap₂ value_cmp (as_int (rowid a) p) (as_int (rowid b) q)) ∙ less in
    grind (arith, ints)

rising_rows : (rows : List Row) → IsTable rows → AllByRecursion HasRowid rows → AreRows rows
rising_rows [] table whole = (tt, tt)
rising_rows (r ∷ rows) table whole =
    let more = rising_rows rows table.1 whole.1 in (
      (
        all_both HasRowid (λ b. value_cmp (rowid r) (rowid b) ≡ Less) (Differ r) (λ b w less. below_differs r b whole.0 w less)
            rows whole.1 table.0,
        more.0,
      ),
      whole,
    )

-- no rowid comes twice in any table of a sound schema
pub numbered_from : (schema : Schema) (v : View) → IsListed (v.trees catalog_tree) v.shape v.reals → IsOrdered v.shape v.trees
    → IsSound schema v.trees → AllByRecursion (λ (t : Table). AreRows (v.trees t.tree)) schema.tables
numbered_from schema v listed ordered sound =
    let laid = laid_out listed (objects_rise v listed ordered) sound.lists.listed in
    all_weaker (λ (t : Table). v.shape t.tree ≡ shape.Table) (λ (t : Table). AreRows (v.trees t.tree)) (λ t is. let shaped =
    subst (λ s. IsShaped s (v.trees t.tree)) is (ordered t.tree) in rising_rows (v.trees t.tree) shaped.0 shaped.1)
    schema.tables laid.tables
