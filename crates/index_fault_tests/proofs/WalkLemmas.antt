-- A walk that ends behind its first row.
use Rattle.std.proofs.Common.{◌≡◌, refl, sym, subst, [], ◌∷◌, Err}
use Rattle.index_rules.specs.declared.answer.Fault.{Fault}
use Rattle.index_rules.specs.declared.answer.Fault.TheVariants as fault
use Rattle.index_rules.specs.declared.rows.WalkEnd.{WalkEnd}
use Rattle.index_rules.specs.declared.rows.WalkEnd.TheVariants.{Stopped}
use Rattle.index_rules.specs.Walks.{Walks, walk_end_of}

module _ {K R : Type 0} (takes stops : K → R → K → Type 0) where
  faulted : (f : Fault) (row : R) (a b : K) → takes a row b → Walks {A = Unit {0}} takes stops (row ∷ []) a b (Err (walk_end_of f))
  faulted fault.OutOfMemory row a b took = (row ∷ [], [], refl, (b, took, refl))
  faulted fault.Store row a b took = (row ∷ [], [], refl, (b, took, refl))

  -- a fault ends it behind a row that was taken
  pub faulted_as : (f : Fault) (end : WalkEnd) → end ≡ walk_end_of f → (row : R) (a b : K) → takes a row b
      → Walks {A = Unit {0}} takes stops (row ∷ []) a b (Err end)
  faulted_as f end is row a b took = subst (λ e. Walks {A = Unit {0}} takes stops (row ∷ []) a b (Err e)) (sym is) (faulted f row a b took)

  -- a row that is not taken ends it
  pub stopped : (row : R) (a b : K) → stops a row b → Walks {A = Unit {0}} takes stops (row ∷ []) a b (Err Stopped)
  stopped row a b it = (row ∷ [], [], refl, record { taken = []; row = row; split = refl; between = a; took = refl; stopped = it })
