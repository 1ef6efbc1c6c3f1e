-- The search for a row.
use Rattle.std.specs.Prelude.{◌≡◌, ℕ, Bool, true, IsFalse, List, Option, Some, MatchOption, slice_get}
use Rattle.std.specs.List.{list_any}

-- a row that passes the test stands at this place
abbrev pub StandsAt : {T : Type 0} → (T → Bool) → List T → ℕ → Type 0
StandsAt test rows place = (row : _) × (slice_get rows place ≡ Some row) × (test row ≡ true)

-- the place of a row that passes the test, or none exactly where no row passes it
abbrev pub FindsRow : {T : Type 0} → (T → Bool) → List T → Option ℕ → Type 0
FindsRow test rows found = MatchOption found (IsFalse (list_any test rows)) (StandsAt test rows)
