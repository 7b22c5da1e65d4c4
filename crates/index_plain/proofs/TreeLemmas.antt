-- What `BTreeMap`'s clauses say of the finite map that it is.
use Rattle.index_plain.proofs.Words.{◌≡◌, Bool, true, false, cond, refl, sym, ap, ◌∙◌, List, [], ◌∷◌, map, T, ◌&&◌, Option, Some, None}
use Rattle.index_plain.proofs.Words.{is_some, Ordering, eq_by_cmp, is_eq, IsTotalOrder, eq_by_cmp_equiv, Equal-is, FinMap, IsAntisymmetric}
use Rattle.index_plain.proofs.Words.{entries, entries_sorted, is_sorted, get-entries, get, insert, remove, find, get-from_entries}
use Rattle.index_plain.proofs.Words.{get-insert, get-remove, same_map, below_all, IsStrictlySortedBy, Less, BTreeMap, is_at, map_of}
use Rattle.index_plain.proofs.Words.{with_at}
use Rattle.std.proofs.Common.{IsSome}
use Rattle.std.specs.Cmp.{tied_itself}
use Rattle.std.specs.FinMap.Entries.{same_entries}
use Rattle.std.specs.List.{AllByRecursion}
use Rattle.std.specs.BTreeMap.{Updates}
use Rattle.std.specs.BTreeMap as tree
use Rattle.std.specs.Map.{lookup}

both : (a b : Bool) → T a → T b → T (a && b)
both true b p q = q
both false b p q = p

module _ {K X : Type 0} {R : K → K → Ordering} (o : IsTotalOrder R) where
  -- the first entry at a key, by the words of both maps
  pub find_lookup : (q : K) (es : List (K × X)) → find R q es ≡ lookup (is_at (R q)) es
  find_lookup q [] = refl
  find_lookup q (e ∷ es) = ap (cond (eq_by_cmp R q e.0) (Some e.1)) (find_lookup q es)

  pub get_map : (m : BTreeMap K X) (q : K) → get (map_of R m) q ≡ tree.get R m q
  get_map m q = get-from_entries o m.entries q ∙ find_lookup q m.entries

  module _ (exact : IsAntisymmetric R) (m n : BTreeMap K X) (k : K) where
    turned : (w : Option X) (q : K) → cond (is_at (R k) q) w (tree.get R m q) ≡ cond (eq_by_cmp R q k) w (get (map_of R m) q)
    turned w q = ap (λ b. cond b w (tree.get R m q)) ((eq_by_cmp_equiv o).symm k q) ∙ ap (cond (eq_by_cmp R q k) w) (sym (get_map m q))

    pub map_insert : (v : X) → Updates R m n k (Some v) → map_of R n ≡ insert (map_of R m) k v
    map_insert v u = same_map o exact _ _ (λ q. get_map n q ∙ u.0 q ∙ turned (Some v) q ∙ sym (get-insert o (map_of R m) k v q))

    pub map_remove : Updates R m n k None → map_of R n ≡ remove (map_of R m) k
    map_remove u = same_map o exact _ _ (λ q. get_map n q ∙ u.0 q ∙ turned None q ∙ sym (get-remove o (map_of R m) k q))

  over : (b : Bool) (u v : Option X) (w : Option X) → cond b u (cond b v w) ≡ cond b u w
  over true u v w = refl
  over false u v w = refl

  -- what stood at a key comes back
  pub take_back : IsAntisymmetric R → (m n : FinMap R X) (k : K) (v : X) (former : Option X) → former ≡ get m k → n ≡ insert m k v
      → with_at n k former ≡ m
  take_back exact m n k v former is put = same_map o exact _ _ (λ q.
      answers former q ∙ ap (λ (t : FinMap R X). cond (eq_by_cmp R q k) former (get t q)) put
      ∙ ap (cond (eq_by_cmp R q k) former) (get-insert o m k v q) ∙ over (eq_by_cmp R q k) former (Some v) _ ∙ here q)
    where
      answers : (former : Option X) (q : K) → get (with_at n k former) q ≡ cond (eq_by_cmp R q k) former (get n q)
      answers None q = get-remove o n k q
      answers (Some x) q = get-insert o n k x q

      here : (q : K) → cond (eq_by_cmp R q k) former (get m q) ≡ get m q
      here q = elim (eq_by_cmp R q k) as (λ b. eq_by_cmp R q k ≡ b → cond b former (get m q) ≡ get m q) [
        | true ↦ λ t. is ∙ ap (get m) (sym (exact q k ((Equal-is (R q k)).0 t)))
        | false ↦ λ t. refl
      ] refl

  -- a key that was put is there
  pub is_put : (m n : FinMap R X) (k : K) (v : X) → n ≡ insert m k v → IsSome (get n k)
  is_put m n k v put = ap (λ (t : FinMap R X). is_some (get t k)) put ∙ ap is_some (get-insert o m k v k)
      ∙ ap (λ r. is_some (cond (is_eq r) (Some v) (get m k))) (tied_itself o k)

  below : (k : K) (es : List (K × X)) → AllByRecursion (λ y. R k y ≡ Less) (map (λ e. e.0) es) → T (below_all R k es)
  below k [] h = tt
  below k (e ∷ es) h = rw h.0 (below k es h.1)

  rising : (es : List (K × X)) → IsStrictlySortedBy R (map (λ e. e.0) es) → T (is_sorted R es)
  unfolding IsStrictlySortedBy
  rising [] h = tt
  rising (e ∷ es) h = both _ _ (below e.0 es h.0) (rising es h.1)

  -- a walk of the finite map is one of the `BTreeMap`
  pub entries_map : IsAntisymmetric R → (m : BTreeMap K X) → tree.IsOrdered R m → entries (map_of R m) ≡ m.entries
  entries_map exact m up = same_entries R o exact (entries (map_of R m)) m.entries (entries_sorted (map_of R m)) (rising m.entries up)
      (λ q. sym (get-entries (map_of R m) q) ∙ get-from_entries o m.entries q)

-- what the calls of `table.rt` rest on
pub ruleset trees = (get_map, map_insert, map_remove, take_back, is_put)
