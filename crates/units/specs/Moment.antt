-- Moments.
use Rattle.std.specs.Prelude.{ℕ, ◌≤◌, nat_le, Bool, ◌&&◌}
use Rattle.units.specs.declared.TheConstants.{LAST_MOMENT}

-- the number is a moment: it is from 1 to the last moment
abbrev pub IsMoment : ℕ → Type 0
IsMoment t = (1 ≤ t) × (t ≤ LAST_MOMENT)

-- the same, as a test
abbrev pub is_moment : ℕ → Bool
is_moment t = nat_le 1 t && nat_le t LAST_MOMENT
