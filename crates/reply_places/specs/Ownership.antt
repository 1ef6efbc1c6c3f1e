-- What the parts of a block own.
use Rattle.std.specs.Prelude.{◌≡◌, refl, ℕ, List, length}
use Rattle.std.specs.Coded.{Coded, code_by, coded×, coded_ℕ}
use base.Fraction.{full_share}
use base.Fml.{Fml}
use denote.Builtin.{u8}
use denote.Array.{Array}
use denote.RawPtr.{Ptr, block_ptr, block_of, count_of, coded_ptr, lies_at, room_for}
use Rattle.std.specs.Allocator.{array_of}

-- where a block's bytes begin, and how many there are
pub record Extent : Type 0 where
  pub ptr : Ptr
  pub len : ℕ

-- it is stored as the pair of its fields
abbrev pub extent_code : Coded Extent
extent_code = code_by (Ptr × ℕ) (coded× coded_ptr coded_ℕ) (λ e. (e.ptr, e.len)) (λ p. record { ptr = p.0; len = p.1 }) (λ _. refl)

-- the bytes xs lie at p
abbrev pub filled_owns : Ptr → List ℕ → Fml
filled_owns p xs = lies_at (Array u8 (length xs)) full_share p xs

-- there is room for n bytes at p
abbrev pub space_owns : Ptr → ℕ → Fml
space_owns p n = room_for (array_of u8 n) p

-- p points into a block
abbrev pub IsPlaced : Ptr → Type 0
IsPlaced p = p ≡ block_ptr (block_of p) (count_of p)
