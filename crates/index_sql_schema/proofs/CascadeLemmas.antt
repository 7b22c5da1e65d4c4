-- The rows that a cascade takes out.
use Rattle.index_sql_schema.proofs.Words.{◌≡◌, ◌≢◌, inl, inr, ℕ, ℤ, ◌+◌, Bool, true, List, [], ◌∷◌, ◌++◌, append-nil, Ok, Err, Some, refl}
use Rattle.index_sql_schema.proofs.Words.{ap, subst, ◌∙◌, MatchBool, AllByRecursion, list_any, Order, Row, Trees, rowid, Table, Schema}
use Rattle.index_sql_schema.proofs.Words.{Reference, Work, works, is_child_of, Acts, Leads, id_in, without_all, taken_by, delete_where}
use Rattle.index_sql_schema.proofs.Words.{all_of, rowid_in, HasRowid, AreRows}
use Rattle.std.proofs.Common.{nat_lt}
use Rattle.sqlite_schema.specs.declared.schema.Keys.{Keys}
use Rattle.sqlite_rules.specs.declared.action.Deed.TheVariants.{Delete}
use Rattle.sqlite_rules.specs.declared.error.Refusal.TheVariants.{TooDeep}
use Rattle.sqlite_rules.specs.Action.{max_depth, AreChildren, action_edit, ActsOn, End}
use Rattle.index_sql_schema.proofs.EditLemmas.{as_int, has_all, passed_gone}

-- the children of the rows that lost their key
abbrev pub deleting : ℕ → Table → Reference → List ℕ → Order → List (Row × Row) → Work
deleting depth child ref places order moves = record {
  depth = depth;
  child = child;
  ref = ref;
  places = places;
  order = order;
  deed = Delete;
  moves = moves;
}

module _ (schema : Schema) (keys : Keys) (depth : ℕ) (child : Table) (ref : Reference) (places : List ℕ) (order : Order)
    (moves : List (Row × Row)) (shallow : nat_lt depth max_depth ≡ true)
    (leaf : (olds : List Row) → works schema keys (depth + 1) child.tree olds [] ≡ []) where
  abbrev work : Work
  work = deleting depth child ref places order moves

  abbrev pub is_hit : Row → Bool
  is_hit r = list_any (is_child_of work r) moves

  -- one action of a cascade deletes the children, and sets off no other
  pub cascades : (n : ℕ) (db next : Trees) (below : List Work) → AreRows (db child.tree)
      → Acts schema keys (Leads schema keys n) db work below (Ok next)
      → (mid : Trees) × (mid child.tree ≡ delete_where is_hit (db child.tree))
      × AllByRecursion (λ (t : Table). t.tree ≢ child.tree → mid t.tree ≡ db t.tree) schema.tables
      × Leads schema keys n mid below (Ok next)
  cascades n db next below rows h =
      let it = subst (λ b. MatchBool b ((ids : List ℤ) × AreChildren db work ids
      × ActsOn schema keys (Leads schema keys n) db work below (Ok next) ids) (◌≡◌ {A = End} (Ok next) (Err (Some TooDeep))))
      shallow h in
      by_ids it.0 it.1 it.2
    where
      gone : (ids : List ℤ) → AreChildren db work ids → without_all (db child.tree) ids ≡ delete_where is_hit (db child.tree)
      gone ids are = passed_gone (db child.tree) ids is_hit rows (λ id k. let it = are.sound id k in (it.0, it.1, it.2, ap id_in it.3))
          (λ r k t. are.complete r (rowid_in r) k t (as_int (rowid r) (has_all HasRowid (db child.tree) r rows.1 k)))

      by_ids : (ids : List ℤ) → AreChildren db work ids → ActsOn schema keys (Leads schema keys n) db work below (Ok next) ids
          → (mid : Trees) × (mid child.tree ≡ delete_where is_hit (db child.tree))
          × AllByRecursion (λ (t : Table). t.tree ≢ child.tree → mid t.tree ≡ db t.tree) schema.tables
          × Leads schema keys n mid below (Ok next)
      by_ids [] are on = (db, gone [] are, all_of _ (λ t apart. refl) schema.tables, on)
      by_ids (id ∷ ids) are (inl refused) = absurd (let e = refused.2 in cc)
      by_ids (id ∷ ids) are (inr (inl big)) = absurd (let e = big.3 in cc)
      by_ids (id ∷ ids) are (inr (inr did)) = (
        did.0,
        did.1.rows ∙ gone (id ∷ ids) are,
        did.1.tables,
        subst (λ stack. Leads schema keys n did.0 stack (Ok next))
            (ap (λ more. below ++ more) (leaf (taken_by db (action_edit db work (id ∷ ids)))) ∙ append-nil below) did.2,
      )
