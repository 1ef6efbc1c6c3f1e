-- How many pages some bytes take.
use Rattle.std.specs.Prelude.{ℕ, nat_lt, Option, Some, None, if◌then◌else◌}
use Rattle.units.specs.declared.TheConstants.{MOST_PAGES}
pub use Rattle.units.specs.Sizes.{pages_for}

-- the pages for so many bytes, or none where they are more than a segment can have
abbrev pub wanted : ℕ → Option ℕ
wanted bytes = if nat_lt MOST_PAGES (pages_for bytes) then None else Some (pages_for bytes)
