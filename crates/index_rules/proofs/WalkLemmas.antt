-- Walks over rows one after another are a walk over all of them.
use Rattle.index_rules.proofs.Words.{◌≡◌, refl, sym, ap, ◌∙◌, subst, List, [], ◌∷◌, ◌++◌}
use Rattle.std.proofs.Common.{Result, Ok, Err}
use mathlib.Core.List.{append_assoc}
use Rattle.index_rules.specs.declared.rows.WalkEnd.{WalkEnd}
use Rattle.index_rules.specs.declared.rows.WalkEnd.TheVariants.{Stopped, OutOfMemory, Store}
use Rattle.index_rules.specs.Rows.{Took, TookFront, StoppedAmong}
use Rattle.index_rules.specs.Walks.{EndsEarly, Walks}

module _ {K R : Type 0} (takes stops : K → R → K → Type 0) where
  pub Took-then : (xs ys : List R) (a b c : K) → Took takes xs a b → Took takes ys b c → Took takes (xs ++ ys) a c
  Took-then [] ys a b c first then = subst (λ k. Took takes ys k c) first then
  Took-then (x ∷ xs) ys a b c first then = (first.0, first.1, Took-then xs ys first.0 b c first.2 then)

  front_then : (xs ys : List R) (a b c : K) → Took takes xs a b → TookFront takes ys b c → TookFront takes (xs ++ ys) a c
  front_then xs ys a b c first then = (
    xs ++ then.0,
    then.1,
    ap (λ rows. xs ++ rows) then.2 ∙ sym (append_assoc xs then.0 then.1),
    Took-then xs then.0 a b c first then.3,
  )

  stopped_then : (xs ys : List R) (a b c : K) → Took takes xs a b → StoppedAmong takes stops ys b c
      → StoppedAmong takes stops (xs ++ ys) a c
  stopped_then xs ys a b c first then =
      let at = then.3 in (
        xs ++ then.0,
        then.1,
        ap (λ rows. xs ++ rows) then.2 ∙ sym (append_assoc xs then.0 then.1),
        record {
          taken = xs ++ at.taken;
          row = at.row;
          split = ap (λ rows. xs ++ rows) at.split ∙ sym (append_assoc xs at.taken (at.row ∷ []));
          between = at.between;
          took = Took-then xs at.taken a b at.between first at.took;
          stopped = at.stopped;
        },
      )

  -- after rows that were taken, a walk over the next ones
  pub Walks-then : {A : Type 0} (xs ys : List R) (a b c : K) (result : Result A WalkEnd) → Took takes xs a b
      → Walks takes stops ys b c result → Walks takes stops (xs ++ ys) a c result
  Walks-then xs ys a b c (Ok done) first then = Took-then xs ys a b c first then
  Walks-then xs ys a b c (Err Stopped) first then = stopped_then xs ys a b c first then
  Walks-then xs ys a b c (Err OutOfMemory) first then = front_then xs ys a b c first then
  Walks-then xs ys a b c (Err Store) first then = front_then xs ys a b c first then

  -- a walk over a front that ends early is one over all
  pub EndsEarly-within : (xs ys : List R) (a b : K) (end : WalkEnd) → EndsEarly takes stops xs a b end
      → EndsEarly takes stops (xs ++ ys) a b end
  EndsEarly-within xs ys a b Stopped early = (
    early.0,
    early.1 ++ ys,
    ap (λ rows. rows ++ ys) early.2 ∙ append_assoc early.0 early.1 ys,
    early.3,
  )
  EndsEarly-within xs ys a b OutOfMemory early =
      (early.0, early.1 ++ ys, ap (λ rows. rows ++ ys) early.2 ∙ append_assoc early.0 early.1 ys, early.3)
  EndsEarly-within xs ys a b Store early = (
    early.0,
    early.1 ++ ys,
    ap (λ rows. rows ++ ys) early.2 ∙ append_assoc early.0 early.1 ys,
    early.3,
  )

  -- ---- a walk step by step

  -- what a walk over the rest comes to, as one over all
  abbrev pub GoesOn : List R → K → List R → K → Type 0
  GoesOn all first rest now = (after : K) (result : Result (Unit {0}) WalkEnd) → Walks takes stops rest now after result
      → Walks takes stops all first after result

  -- it goes on after rows that were taken
  pub GoesOn-more : (all rest xs ys : List R) (first a b : K) → GoesOn all first rest a → rest ≡ xs ++ ys → Took takes xs a b
      → GoesOn all first ys b
  GoesOn-more all rest xs ys first a b goes split took = λ after result walks.
      goes after result (subst (λ rows. Walks takes stops rows a after result) (sym split) (Walks-then xs ys a b after result took walks))

  -- it ends early among rows that come next
  pub GoesOn-early : (all rest xs ys : List R) (first a b : K) (end : WalkEnd) → GoesOn all first rest a → rest ≡ xs ++ ys
      → EndsEarly takes stops xs a b end → EndsEarly takes stops all first b end
  GoesOn-early all rest xs ys first a b end goes split early =
      goes b (Err end) (subst (λ rows. EndsEarly takes stops rows a b end) (sym split) (EndsEarly-within xs ys a b end early))

  -- it is at its end if no rows are left
  pub GoesOn-all : (all rest : List R) (first a : K) → GoesOn all first rest a → rest ≡ [] → Took takes all first a
  GoesOn-all all rest first a goes none = goes a (Ok tt) (subst (λ rows. Took takes rows a a) (sym none) refl)
