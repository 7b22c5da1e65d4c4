-- Maps by what they answer.
use Rattle.index_sql_schema.proofs.Words.{◌≡◌, Bool, true, false, cond, not, refl, sym, ap, ◌∙◌, Option, Some, None, Ordering, eq_by_cmp}
use Rattle.index_sql_schema.proofs.Words.{IsTotalOrder, FinMap, IsAntisymmetric, get, insert, remove, retain_keys, get-retain_keys}
use Rattle.index_sql_schema.proofs.Words.{same_map, eq_by_cmp_equiv}
use Rattle.std.specs.FinMap.{get-insert, get-remove}

turned : {A : Type 0} (b : Bool) (x y : A) → cond (not b) x y ≡ cond b y x
turned true x y = refl
turned false x y = refl

covered : {X : Type 0} (b : Bool) (v : X) (o : Option X) → cond b (Some v) (cond b None o) ≡ cond b (Some v) o
covered true v o = refl
covered false v o = refl

module _ {K X : Type 0} {R : K → K → Ordering} (total : IsTotalOrder R) (exact : IsAntisymmetric R) where
  -- what was taken out first is put in again
  pub insert-remove : (m : FinMap R X) (k : K) (v : X) → insert (remove m k) k v ≡ insert m k v
  insert-remove m k v = same_map total exact _ _ (λ q.
      get-insert total (remove m k) k v q
      ∙ ap (cond (eq_by_cmp R q k) (Some v)) (get-remove total m k q)
      ∙ covered (eq_by_cmp R q k) v (get m q)
      ∙ sym (get-insert total m k v q))

  -- to keep all keys but one is to take that one out
  pub retain_keys-other : (m : FinMap R X) (k : K) → retain_keys m (λ x. not (eq_by_cmp R k x)) ≡ remove m k
  retain_keys-other m k = same_map total exact _ _ (λ q.
      get-retain_keys m (λ x. not (eq_by_cmp R k x)) q (λ x t. ap (λ y. not (eq_by_cmp R k y)) (sym (exact q x t)))
      ∙ turned (eq_by_cmp R k q) (get m q) None
      ∙ ap (λ b. cond b None (get m q)) ((eq_by_cmp_equiv total).symm k q)
      ∙ sym (get-remove total m k q))
