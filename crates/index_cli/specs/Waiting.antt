-- Connections that wait to be answered.
use Rattle.std.specs.Prelude.{◌≡◌, ◌≤◌, ◌⊎◌, ◌-◌, ℕ, List, ◌∷◌, ◌++◌, length}

-- those that came stand behind those that waited, and no more wait than so many, if not more did
abbrev pub AddsBehind : {A : Type 0} → ℕ → (before after : List A) → Type 0
AddsBehind {A} most before after =
    (came : List A) × (after ≡ before ++ came)
    × ((length after ≤ length before) ⊎ (length after ≤ most))

-- of those that waited, and of those that came behind them, the first is taken
abbrev pub TakesFirst : {A : Type 0} → (before after : List A) → A → Type 0
TakesFirst {A} before after first = (came : List A) × (before ++ came ≡ first ∷ after)

-- with the one that was taken, no more were accepted than are left to answer, if not more had been
abbrev pub HasRoom : {A : Type 0} → ℕ → (before after : List A) → Type 0
HasRoom left before after = length before ≤ left → length after ≤ left - 1
