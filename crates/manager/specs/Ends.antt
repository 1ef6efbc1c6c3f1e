-- What an enforcement, or a call of pressure, tells of its end.
use Rattle.std.specs.Prelude.{◌≡◌, ℕ, nat_le, Bool, true, ◌||◌, Option, Some, None}
use Rattle.lru_reduce.specs.declared.reduction.Reduced.{Reduced}

-- no segment is live, or the least known use is at or after the moment
abbrev pub is_late_use : ℕ → Option ℕ → Bool
is_late_use now None = true
is_late_use now (Some use_of_least) = nat_le now use_of_least

-- a reduction to a limit at a moment has ended: granted pages are within the limit, or no segment is live, or the least known use
-- is at or after the moment
abbrev pub HasEnded : ℕ → ℕ → Reduced → Type 0
HasEnded limit now told = (nat_le told.after limit || is_late_use now told.least) ≡ true
