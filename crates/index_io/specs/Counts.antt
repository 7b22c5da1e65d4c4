-- The count of calls that failed: reads, writes, or calls of a store.
use Rattle.std.specs.Prelude.{◌≡◌, ℕ, ◌+◌, ◌<◌, ◌⊎◌, Bool, false, min, if◌then◌else◌}

-- the value at which a count stays, the greatest `u64`
abbrev pub last_count : ℕ
last_count = 18446744073709551615

-- the count after one call more: one higher if the call failed, up to the last value
abbrev pub next_count : ℕ → Bool → ℕ
next_count n is_ok = if is_ok then n else min (n + 1) last_count

-- a call failed in between: the count has risen, or is at its last value
abbrev pub HasFailed : ℕ → ℕ → Type 0
HasFailed before now = (before < now) ⊎ (now ≡ last_count)

-- at most one call failed in between
abbrev pub FailsAtMostOnce : ℕ → ℕ → Type 0
FailsAtMostOnce before now = (now ≡ before) ⊎ (now ≡ next_count before false)
