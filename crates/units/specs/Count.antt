-- Counts that stand still at their end.
use Rattle.std.specs.Prelude.{ℕ, ◌+◌, ◌-◌, ◌^◌, ◌≤◌, min}

-- a count after one more: it stands still at the last value of u64
abbrev pub next_count : ℕ → ℕ
next_count n = min (n + 1) (2 ^ 64 - 1)

-- the count rose, or it stands at the last value of u64
abbrev pub HasRisen : ℕ → ℕ → Type 0
HasRisen before after = next_count before ≤ after
