-- A map of maps as one map from pairs, look-up by look-up.
use Rattle.index_plain.proofs.Words.{◌≡◌, Bool, true, false, cond, not, refl, sym, ap, ◌∙◌, List, [], ◌∷◌, ◌++◌, Option, Some, None}
use Rattle.index_plain.proofs.Words.{Ordering, Less, Equal, eq_by_cmp, is_eq, IsTotalOrder, eq_by_cmp_equiv, Equal-is, FinMap}
use Rattle.index_plain.proofs.Words.{IsAntisymmetric, empty, get, insert, remove, entries, find, get-empty, get-entries, get-from_entries}
use Rattle.index_plain.proofs.Words.{get-insert, get-remove, get-retain_keys, same_map, find-where_key, BTreeMap, map_of, pairs_of}
use Rattle.index_plain.proofs.Words.{without_first}
use Rattle.std.proofs.Common.{option_and_then}
use Rattle.std.specs.declared.cmp.Ordering.TheVariants.{Greater}
use Rattle.std.specs.Ordering.{ordering_then}
use Rattle.std.proofs.lemmas.Cmp.{on_total, then_total}
use Rattle.std.proofs.lemmas.Map.Lookups.{exact_pairs}
use Rattle.std.specs.FinMap.Entries.{where_key}
use Rattle.index_plain.specs.Pairs.{by_both, entries_at, entries_of_all}

abbrev or_else : {X : Type 0} → Option X → Option X → Option X
or_else None y = y
or_else (Some x) y = Some x

-- what the inner map at a first key is, if there is one
abbrev pub inner_of : {B X : Type 0} (Q : B → B → Ordering) → Option (BTreeMap B X) → FinMap Q X
inner_of Q None = empty
inner_of Q (Some t) = map_of Q t

find-both : {K X : Type 0} (R : K → K → Ordering) (q : K) (xs ys : List (K × X)) → find R q (xs ++ ys) ≡ or_else (find R q xs) (find R q ys)
find-both R q [] ys = refl
find-both R q (x ∷ xs) ys = elim (eq_by_cmp R q x.0) as
    (λ b. cond b (Some x.1) (find R q (xs ++ ys)) ≡ or_else (cond b (Some x.1) (find R q xs)) (find R q ys))
    [ true ↦ refl | false ↦ find-both R q xs ys ]

module _ {A B : Type 0} {P : A → A → Ordering} {Q : B → B
    → Ordering} (o : IsTotalOrder P) (o' : IsTotalOrder Q) (exact : IsAntisymmetric P) (exact' : IsAntisymmetric Q) where
  total : IsTotalOrder (by_both P Q)
  total = then_total (on_total (λ p. p.0) o) (on_total (λ p. p.1) o')

  exact_both : IsAntisymmetric (by_both P Q)
  exact_both = exact_pairs P Q exact exact'

  module _ {X : Type 0} where
    find-entries_at : (a c : A) (b : B) (inner : List (B × X))
        → find (by_both P Q) (a, b) (entries_at P Q c inner) ≡ cond (eq_by_cmp P a c) (find Q b inner) None
    find-entries_at a c b [] = elim (eq_by_cmp P a c) as (λ t. ◌≡◌ {A = Option X} None (cond t (find Q b []) None))
        [ true ↦ refl | false ↦ refl ]
    find-entries_at a c b (e ∷ es) = ap (cond (eq_by_cmp (by_both P Q) (a, b) (c, e.0)) (Some e.1)) (find-entries_at a c b es)
        ∙ elim (P a c) as (λ r. cond (is_eq (ordering_then r (Q b e.0))) (Some e.1) (cond (is_eq r) (find Q b es) None)
        ≡ cond (is_eq r) (find Q b (e ∷ es)) None) [ Less ↦ refl | Equal ↦ refl | Greater ↦ refl ]

    joined : (t : Bool) (x : Option X) (y : Option X) → or_else (cond t x None) (cond (not t) y None) ≡ cond t x y
    joined true None y = refl
    joined true (Some x) y = refl
    joined false x y = refl

    abbrev in_inner : B → Option (BTreeMap B X) → Option X
    in_inner b at = option_and_then (λ (t : BTreeMap B X). find Q b t.entries) at

    find-entries_of_all : (a : A) (b : B) (es : List (A × BTreeMap B X))
        → find (by_both P Q) (a, b) (entries_of_all P Q es) ≡ in_inner b (find P a es)
    find-entries_of_all a b [] = refl
    find-entries_of_all a b (e ∷ es) =
        let test : A × B → Bool = λ p. not (eq_by_cmp P e.0 p.0) in
        find-both (by_both P Q) (a, b) (entries_at P Q e.0 e.1.entries) _
        ∙ ap (λ x. or_else x (find (by_both P Q) (a, b) (where_key (by_both P Q) test (entries_of_all P Q es))))
        (find-entries_at a e.0 b e.1.entries)
        ∙ ap (or_else (cond (eq_by_cmp P a e.0) (find Q b e.1.entries) None))
        (find-where_key (by_both P Q) test (a, b) (λ x t. ap (λ (p : A × B). test p) (sym (exact_both (a, b) x t))) (entries_of_all P Q es)
        ∙ ap (λ t. cond (not t) (find (by_both P Q) (a, b) (entries_of_all P Q es)) None) ((eq_by_cmp_equiv o).symm e.0 a))
        ∙ joined (eq_by_cmp P a e.0) _ _
        ∙ ap (cond (eq_by_cmp P a e.0) (find Q b e.1.entries)) (find-entries_of_all a b es)
        ∙ elim (eq_by_cmp P a e.0) as (λ t. cond t (find Q b e.1.entries) (in_inner b (find P a es))
        ≡ in_inner b (cond t (Some e.1) (find P a es))) [ true ↦ refl | false ↦ refl ]

    get-inner_of : (b : B) (at : Option (BTreeMap B X)) → in_inner b at ≡ get (inner_of Q at) b
    get-inner_of b None = sym (get-empty Q b)
    get-inner_of b (Some t) = sym (get-from_entries o' t.entries b)

    -- a look-up of a pair is one of the first key, and then one of the second
    pub get_pairs : (m : FinMap P (BTreeMap B X)) (a : A) (b : B) → get (pairs_of P Q m) (a, b) ≡ get (inner_of Q (get m a)) b
    get_pairs m a b = get-from_entries total (entries_of_all P Q (entries m)) (a, b) ∙ find-entries_of_all a b (entries m)
        ∙ ap (in_inner b) (sym (get-entries m a)) ∙ get-inner_of b (get m a)

    get_without : (m : FinMap (by_both P Q) X) (k a : A) (b : B)
        → get (without_first P Q k m) (a, b) ≡ cond (eq_by_cmp P a k) None (get m (a, b))
    get_without m k a b = get-retain_keys m (λ p. not (eq_by_cmp P k p.0)) (
      a,
      b,
    ) (λ x t. ap (λ (p : A × B). not (eq_by_cmp P k p.0)) (sym (exact_both (a, b) x t)))
        ∙ ap (λ t. cond (not t) (get m (a, b)) None) ((eq_by_cmp_equiv o).symm k a)
        ∙ elim (eq_by_cmp P a k) as (λ t. cond (not t) (get m (a, b)) None ≡ cond t None (get m (a, b))) [ true ↦ refl | false ↦ refl ]

    -- no inner maps have no pairs
    pub pairs_empty : pairs_of P Q (empty {X = BTreeMap B X}) ≡ empty
    pairs_empty = same_map total exact_both _ _
        (λ q. get_pairs empty q.0 q.1 ∙ ap (λ at. get (inner_of Q at) q.1) (get-empty P q.0) ∙ get-empty Q q.1
        ∙ sym (get-empty (by_both P Q) q))

    -- an inner map goes
    pub pairs_remove : (m n : FinMap P (BTreeMap B X)) (a : A) → n ≡ remove m a → pairs_of P Q n ≡ without_first P Q a (pairs_of P Q m)
    pairs_remove m n a gone = ap (pairs_of P Q) gone ∙ same_map total exact_both _ _ (λ q.
        get_pairs (remove m a) q.0 q.1 ∙ ap (λ at. get (inner_of Q at) q.1) (get-remove o m a q.0)
        ∙ elim (eq_by_cmp P q.0 a) as (λ t. get (inner_of Q (cond t None (get m q.0))) q.1 ≡ cond t None (get (inner_of Q (get m q.0)) q.1))
        [ true ↦ get-empty Q q.1 | false ↦ refl ]
        ∙ ap (cond (eq_by_cmp P q.0 a) None) (sym (get_pairs m q.0 q.1)) ∙ sym (get_without (pairs_of P Q m) a q.0 q.1))

    -- an inner map takes the place of what stood at its first key
    module _ (m n : FinMap P (BTreeMap B X)) (a : A) (t : BTreeMap B X) (there : n ≡ insert m a t) where
      get_there : (q : A × B) → get (pairs_of P Q n) q ≡ cond (eq_by_cmp P q.0 a) (get (map_of Q t) q.1) (get (pairs_of P Q m) q)
      get_there q =
          ap (λ (s : FinMap P (BTreeMap B X)). get (pairs_of P Q s) q) there ∙ get_pairs (insert m a t) q.0 q.1
          ∙ ap (λ at. get (inner_of Q at) q.1) (get-insert o m a t q.0)
          ∙ elim (eq_by_cmp P q.0 a) as (λ b. get (inner_of Q (cond b (Some t) (get m q.0))) q.1
          ≡ cond b (get (map_of Q t) q.1) (get (inner_of Q (get m q.0)) q.1)) [ true ↦ refl | false ↦ refl ]
          ∙ ap (cond (eq_by_cmp P q.0 a) (get (map_of Q t) q.1)) (sym (get_pairs m q.0 q.1))

      -- if this changes what a test of the second key picks
      get_changed : (test : B → Bool) (w : Option X) → ((q : B) → get (map_of Q t) q ≡ cond (test q) w (get (inner_of Q (get m a)) q))
          → (q : A × B) → get (pairs_of P Q n) q
          ≡ cond (eq_by_cmp P q.0 a) (cond (test q.1) w (get (pairs_of P Q m) q)) (get (pairs_of P Q m) q)
      get_changed test w is q = get_there q
          ∙ elim (eq_by_cmp P q.0 a) as (λ b. eq_by_cmp P q.0 a ≡ b
          → cond b (get (map_of Q t) q.1) (get (pairs_of P Q m) q)
          ≡ cond b (cond (test q.1) w (get (pairs_of P Q m) q)) (get (pairs_of P Q m) q)) [
            | true ↦ λ e. is q.1 ∙ ap (cond (test q.1) w)
                (sym (get_pairs m a q.1) ∙ ap (λ x. get (pairs_of P Q m) (x, q.1)) (sym (exact q.0 a ((Equal-is (P q.0 a)).0 e))))
            | false ↦ λ e. refl
          ] refl

      in_both : (b : B) (q : A × B) (w x : Option X)
          → cond (eq_by_cmp P q.0 a) (cond (eq_by_cmp Q q.1 b) w x) x ≡ cond (eq_by_cmp (by_both P Q) q (a, b)) w x
      in_both b q w x = elim (P q.0 a) as (λ r. cond (is_eq r) (cond (eq_by_cmp Q q.1 b) w x) x
          ≡ cond (is_eq (ordering_then r (Q q.1 b))) w x) [ Less ↦ refl | Equal ↦ refl | Greater ↦ refl ]

      -- one more second key
      pub pairs_put : (b : B) (v : X) → map_of Q t ≡ insert (inner_of Q (get m a)) b v → pairs_of P Q n ≡ insert (pairs_of P Q m) (a, b) v
      pairs_put b v put = same_map total exact_both _ _ (λ q.
          get_changed (λ c. eq_by_cmp Q c b) (Some v)
          (λ c. ap (λ (s : FinMap Q X). get s c) put ∙ get-insert o' (inner_of Q (get m a)) b v c) q
          ∙ in_both b q (Some v) _ ∙ sym (get-insert total (pairs_of P Q m) (a, b) v q))

      -- one less
      pub pairs_take : (b : B) → map_of Q t ≡ remove (inner_of Q (get m a)) b → pairs_of P Q n ≡ remove (pairs_of P Q m) (a, b)
      pairs_take b taken = same_map total exact_both _ _ (λ q.
          get_changed (λ c. eq_by_cmp Q c b) None (λ c. ap (λ (s : FinMap Q X). get s c) taken ∙ get-remove o' (inner_of Q (get m a)) b c) q
          ∙ in_both b q None _ ∙ sym (get-remove total (pairs_of P Q m) (a, b) q))

      same_twice : (b : Bool) (x : Option X) → cond b x x ≡ x
      same_twice true x = refl
      same_twice false x = refl

      -- the same ones
      pub pairs_same : map_of Q t ≡ inner_of Q (get m a) → pairs_of P Q n ≡ pairs_of P Q m
      pairs_same same = same_map total exact_both _ _
          (λ q. get_changed (λ c. false) None (λ c. ap (λ (s : FinMap Q X). get s c) same) q ∙ same_twice (eq_by_cmp P q.0 a) _)

      -- one second key alone
      pub pairs_alone : (b : B) (v : X) → map_of Q t ≡ insert empty b v
          → pairs_of P Q n ≡ insert (without_first P Q a (pairs_of P Q m)) (a, b) v
      pairs_alone b v alone = same_map total exact_both _ _ (λ q.
          get_there q ∙ ap (λ x. cond (eq_by_cmp P q.0 a) x (get (pairs_of P Q m) q))
          (ap (λ (s : FinMap Q X). get s q.1) alone ∙ get-insert o' empty b v q.1
          ∙ ap (cond (eq_by_cmp Q q.1 b) (Some v)) (get-empty Q q.1))
          ∙ elim (P q.0 a) as (λ r. cond (is_eq r) (cond (eq_by_cmp Q q.1 b) (Some v) None) (get (pairs_of P Q m) q)
          ≡ cond (is_eq (ordering_then r (Q q.1 b))) (Some v) (cond (is_eq r) None (get (pairs_of P Q m) q)))
          [ Less ↦ refl | Equal ↦ refl | Greater ↦ refl ]
          ∙ ap (cond (eq_by_cmp (by_both P Q) q (a, b)) (Some v)) (sym (get_without (pairs_of P Q m) a q.0 q.1))
          ∙ sym (get-insert total (without_first P Q a (pairs_of P Q m)) (a, b) v q))

    -- nothing goes if nothing stands at a first key
    pub without_nothing : (m : FinMap (by_both P Q) X) (a : A) → ((b : B) → get m (a, b) ≡ None) → without_first P Q a m ≡ m
    without_nothing m a none = same_map total exact_both _ _ (λ q.
        get_without m a q.0 q.1 ∙ elim (eq_by_cmp P q.0 a) as (λ t. eq_by_cmp P q.0 a ≡ t → cond t None (get m q) ≡ get m q) [
          | true ↦ λ e. sym (ap (λ x. get m (x, q.1)) (exact q.0 a ((Equal-is (P q.0 a)).0 e)) ∙ none q.1)
          | false ↦ λ e. refl
        ] refl)

    -- what stands at a first key is its inner map
    pub some_at : (m : FinMap P (BTreeMap B X)) (a : A) (inner : BTreeMap B X) → get m a ≡ Some inner → (b : B)
        → get (pairs_of P Q m) (a, b) ≡ get (map_of Q inner) b
    some_at m a inner there b = get_pairs m a b ∙ ap (λ at. get (inner_of Q at) b) there

    -- nothing is there if a first key has no inner map
    pub nothing_at : (m : FinMap P (BTreeMap B X)) (a : A) → get m a ≡ None → (b : B) → get (pairs_of P Q m) (a, b) ≡ None
    nothing_at m a none b = get_pairs m a b ∙ ap (λ at. get (inner_of Q at) b) none ∙ get-empty Q b

    pub without_absent : (m : FinMap P (BTreeMap B X)) (a : A) → get m a ≡ None → without_first P Q a (pairs_of P Q m) ≡ pairs_of P Q m
    without_absent m a none = without_nothing (pairs_of P Q m) a (nothing_at m a none)

    pub pairs_absent : (m : FinMap P (BTreeMap B X)) (a : A) (b : B) → get m a ≡ None → pairs_of P Q m ≡ remove (pairs_of P Q m) (a, b)
    pairs_absent m a b none = same_map total exact_both _ _ (λ q.
        sym (get-remove total (pairs_of P Q m) (a, b) q
        ∙ elim (eq_by_cmp (by_both P Q) q (a, b)) as (λ t. eq_by_cmp (by_both P Q) q (a, b) ≡ t
        → cond t None (get (pairs_of P Q m) q) ≡ get (pairs_of P Q m) q) [
          | true ↦ λ e. sym (ap (get (pairs_of P Q m)) (exact_both q (a, b) ((Equal-is (by_both P Q q (a, b))).0 e)) ∙ get_pairs m a b
              ∙ ap (λ at. get (inner_of Q at) b) none ∙ get-empty Q b)
          | false ↦ λ e. refl
        ] refl))
