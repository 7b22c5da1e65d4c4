-- How an index is kept, as in two files. Runs, and the history that they carry on, need no more of
-- the files.
use Rattle.std.specs.Prelude.{◌≡◌, ◌⊎◌}
use Rattle.index_rules.specs.Tables.{Tables}

-- what it means that this holds an index
pub record Keeping (X : Type 0) : Type 1 where
  -- it holds an index with these tables
  pub Holds : X → Tables → Type 0
  -- it holds a current index with these tables, and the next run finds no others
  pub HoldsCurrent : X → Tables → Type 0
  -- it holds no part of an index
  pub HoldsNone : X → Type 0

-- a current index is found again, as it is
pub record FindsAgain {X : Type 0} (k : Keeping X) : Type 0 where
  pub same : (x : X) (T found : Tables) → k.HoldsCurrent x T → k.Holds x found → found ≡ T
  pub there : (x : X) (T : Tables) → k.HoldsCurrent x T → ¬ k.HoldsNone x

-- a run finds no index
abbrev pub FindsNone : {X : Type 0} → Keeping X → X → Type 0
FindsNone k x = ¬ ((T : Tables) × k.Holds x T)

-- whatever index a run finds has tables of this kind
abbrev pub FindsOnly : {X : Type 0} → Keeping X → X → (Tables → Type 0) → Type 0
FindsOnly k x Are = (found : Tables) → k.Holds x found → ∥ Are found ∥₁

-- ---- wrong outcomes

-- the same, but these tables are found here too
abbrev pub finding : {X : Type 0} → Keeping X → X → Tables → Keeping X
finding k x U = record {
  Holds = λ y T. k.Holds y T ⊎ ((y ≡ x) × (T ≡ U));
  HoldsCurrent = k.HoldsCurrent;
  HoldsNone = k.HoldsNone;
}

-- the same, but this counts as holding none
abbrev pub missing : {X : Type 0} → Keeping X → X → Keeping X
missing k x = record {
  Holds = k.Holds;
  HoldsCurrent = k.HoldsCurrent;
  HoldsNone = λ y. k.HoldsNone y ⊎ (y ≡ x);
}

-- Where a current index is found with other tables too, or counts as none, it is not found again.
abbrev pub RefutesFound : {X : Type 0} → Keeping X → Type 0
RefutesFound k = (x : _) (T U : Tables) → k.HoldsCurrent x T → (¬ (U ≡ T))
    → (¬ FindsAgain (finding k x U)) × (¬ FindsAgain (missing k x))
