-- Rows that are passed to a taker one at a time. What a row does to a taker is a relation between
-- the taker before it and after it.
use Rattle.std.specs.Prelude.{◌≡◌, ◌⊎◌, List, [], ◌∷◌, ◌++◌}

-- the taker took these rows in order
abbrev pub Took : {K R : Type 0} → (K → R → K → Type 0) → List R → K → K → Type 0
Took takes [] before after = after ≡ before
Took {K} takes (row ∷ rows) before after =
    (between : K) × takes before row between × Took takes rows between after

-- the taker took all but the last of these rows, and stopped at that one
pub record StoppedAt {K R : Type 0} (takes stops : K → R → K → Type 0) (rows : List R)
    (before after : K) : Type 0 where
  pub taken : List R
  pub row : R
  pub split : rows ≡ taken ++ row ∷ []
  pub between : K
  pub took : Took takes taken before between
  pub stopped : stops between row after

-- the taker was given these rows: it took them all, or stopped at the last one
abbrev pub WasGiven : {K R : Type 0} → (K → R → K → Type 0) → (K → R → K → Type 0) → List R → K
    → K → Type 0
WasGiven takes stops rows before after =
    Took takes rows before after ⊎ StoppedAt takes stops rows before after

-- the taker took a prefix of these rows
abbrev pub TookFront : {K R : Type 0} → (K → R → K → Type 0) → List R → K → K → Type 0
TookFront {K} {R} takes rows before after =
    (taken left : List R) × (rows ≡ taken ++ left) × Took takes taken before after

-- the taker took the rows before one of these rows, and stopped at that one
abbrev pub StoppedAmong : {K R : Type 0} → (K → R → K → Type 0) → (K → R → K → Type 0) → List R → K
    → K → Type 0
StoppedAmong {K} {R} takes stops rows before after =
    (given left : List R) × (rows ≡ given ++ left) × StoppedAt takes stops given before after
