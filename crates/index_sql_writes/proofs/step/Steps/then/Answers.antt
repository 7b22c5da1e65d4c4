use Rattle.index_sql_writes.proofs.Words.{◌≡◌, ◌<◌, ◌≤◌, [], ◌∷◌, ◌++◌, ℕ, List, length, ap, arith, sym, ◌∙◌}
use Rattle.std.proofs.Common.{take}
use Rattle.std.proofs.lemmas.List.{length-set, length-take-le, take_more_set}
use Rattle.index_sql_writes.proofs.step.Steps.then.Goals as goal

-- there is room for one more if fewer than all are taken
room : {X : Type 0} (most count : ℕ) (places taken : List X) → count ≤ most → length places ≡ most → take count places ≡ taken
    → length taken < most → count < length places
room most count places taken fits all is fewer =
    let counted : length taken ≡ count = ap length (sym is) ∙ length-take-le count places (omega arith) in
    omega arith

pub bounds-places-count : goal.bounds-places-count
bounds-places-count c = rw c.as_mut_slice-places.ensures.value
    (room _ _ _ _ c.self.invariant.1 c.self.invariant.2 c.self.view_is c.requires)

pub invariant_of-result : goal.invariant_of-result
invariant_of-result c =
    let inside = room _ _ _ _ c.self.invariant.1 c.self.invariant.2 c.self.view_is c.requires in
    rw c.as_mut_slice-places.ensures.value (omega arith, omega arith, length-set _ _ _ ∙ c.self.invariant.2)

pub returns : goal.returns
returns c =
    let inside = room _ _ _ _ c.self.invariant.1 c.self.invariant.2 c.self.view_is c.requires in
    rw c.as_mut_slice-places.ensures.value (take_more_set _ _ _ inside ∙ ap (λ taken. taken ++ c.args.step ∷ []) c.self.view_is)
