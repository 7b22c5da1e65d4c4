-- A transaction on a connection that was shut.
use Rattle.index_sql_writes.proofs.Words.{◌≡◌, ◌∙◌, IsTrue, true, false, true≢false, subst, sym, arith, Trees, Ghosts, Held, state}
use Rattle.index_sql_writes.proofs.Words.{HasCleanDisk, Survives, survives_then}
use Rattle.sqlite.proofs.Callers.{survives_begin}

-- a transaction on a connection that was shut: what took a step was open
pub shut_survives : {S : Type 0} (g : Ghosts S) (old start mid new : Held S) (P : Trees → Type 0)
    → start ≡ record old { in_transaction = true } → (HasCleanDisk (state g mid) → IsTrue (state g start).is_open)
    → (state g old).is_open ≡ false → Survives (state g start) (state g mid) (λ _. ⊥) → Survives (state g mid) (state g new) P
    → Survives (state g old) (state g new) (λ _. ⊥)
shut_survives g old start mid new P is opened shut ran ended =
    let begun = record old { in_transaction = true } in
    let was : HasCleanDisk (state g mid) → IsTrue (state g begun).is_open =
    subst (λ h. HasCleanDisk (state g mid) → IsTrue (state g h).is_open) is opened in
    let first : Survives (state g begun) (state g mid) (λ _. ⊥) = subst (λ h. Survives (state g h) (state g mid) (λ _. ⊥)) is ran in
    survives_begin g old (state g new) (λ _. ⊥)
    (survives_then (state g begun) (state g mid) (state g new) (λ _. ⊥) P (λ _. ⊥) (λ _ db none. none)
    (λ clean db may. absurd (true≢false (sym (was (omega (arith, ended.clean))) ∙ shut))) first ended)
