-- Ranges of pages.
use Rattle.std.specs.Prelude.{ℕ, ◌+◌, nat_le, nat_lt, Bool, ◌&&◌}

-- the range of `count` pages from `first` on has this page
abbrev pub is_within : ℕ → ℕ → ℕ → Bool
is_within first count page = nat_le first page && nat_lt page (first + count)
