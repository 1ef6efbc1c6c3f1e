-- How many calls were made of an object. The count is an Option: None where the object does not tell it. It
-- stands still at the last value of u64.
use Rattle.std.specs.Prelude.{ℕ, ◌+◌, ◌≤◌, Option, Some, None, option_map}
use Rattle.units.specs.Count.{next_count}

-- the count after one more call
abbrev pub one_call_more : Option ℕ → Option ℕ
one_call_more before = option_map next_count before

-- at most this many calls were made between two counts, where they are told
abbrev pub CalledAtMost : Option ℕ → ℕ → Option ℕ → Type 0
CalledAtMost None most None = Unit {0}
CalledAtMost None most (Some after) = ⊥
CalledAtMost (Some before) most None = ⊥
CalledAtMost (Some before) most (Some after) = after ≤ before + most
