-- The count of failures, over several calls.
use Rattle.index_rules.proofs.Words.{◌≡◌, ℕ, ◌≤◌, ◌⊎◌, inl, arith, HasFailed, FailsAtMostOnce}
use Rattle.std.proofs.lemmas.Grind.{common_steps}
use Rattle.index_io.specs.Counts.{last_count}

-- the count did not fall, or stands at its last value
abbrev pub NotFewer : ℕ → ℕ → Type 0
NotFewer before now = (before ≤ now) ⊎ (now ≡ last_count)

pub NotFewer-itself : (n : ℕ) → NotFewer n n
NotFewer-itself n = inl (omega arith)

pub NotFewer-more : (a b c : ℕ) → NotFewer a b → FailsAtMostOnce b c → NotFewer a c
NotFewer-more a b c up next = grind (arith, common_steps, up, next)

pub HasFailed-before : (a b c : ℕ) → NotFewer a b → FailsAtMostOnce b c → HasFailed b c → HasFailed a c
HasFailed-before a b c up next failed = grind (arith, common_steps, up, next, failed)

pub HasFailed-after : (a b c : ℕ) → HasFailed a b → FailsAtMostOnce b c → HasFailed a c
HasFailed-after a b c failed next = grind (arith, common_steps, next, failed)
