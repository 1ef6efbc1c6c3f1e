-- The sides of a client that were found gone.
use Rattle.std.specs.Prelude.{◌≡◌, ℕ, ◌+◌, ◌==◌, ◌≤◌, nat_lt, sum_by, count_by, Bool, List, ◌∷◌, ◌++◌, take, drop, length, All, Option, option_map, slice_get, if◌then◌else◌}
use Rattle.std.specs.List.{list_any}
use Rattle.segment.specs.Owned.{Owned}
use Rattle.segment.specs.declared.owner.Phase.TheVariants.{Gone}

-- the sides; how many of them, from the first on, are told; and for how many more there is room
pub record GoneOnes : Type 0 where
  pub sides : List Owned
  pub told : ℕ
  pub room : ℕ

-- each of the sides is gone
abbrev pub AreGone : List Owned → Type 0
AreGone sides = All (λ (side : Owned). side.phase ≡ Gone) sides

-- the side is that of the segment of this number
abbrev pub is_side : ℕ → Owned → Bool
is_side id side = side.id == id

-- one of the sides has this number
abbrev pub has_side : List Owned → ℕ → Bool
has_side sides id = list_any (is_side id) sides

-- the number of the next side that was not told, where so many are
abbrev pub next_of : List Owned → ℕ → Option ℕ
next_of sides told = option_map (λ (side : Owned). side.id) (slice_get sides told)

-- how many are told after the next one was, if there is one
abbrev pub after_next : List Owned → ℕ → ℕ
after_next sides told = if nat_lt told (length sides) then told + 1 else told

-- the sides with one more, which is told, where so many were told
abbrev pub kept_side : Owned → ℕ → List Owned → List Owned
kept_side side told sides = take told sides ++ side ∷ drop told sides

-- the sides with these more, which are told, where so many were told
abbrev pub kept_sides : List Owned → ℕ → List Owned → List Owned
kept_sides more told sides = take told sides ++ more ++ drop told sides

-- no two of the sides have one number
abbrev pub AreOnce : List Owned → Type 0
AreOnce sides = (id : ℕ) → count_by (is_side id) sides ≤ 1

-- each of these sides is among the others, as often: whatever is summed over both, the others have no less
abbrev pub Includes : List Owned → List Owned → Type 0
Includes sides others = (weight : Owned → ℕ) → sum_by weight sides ≤ sum_by weight others
