-- How many pages some bytes take.
use Rattle.std.specs.Prelude.{ℕ, ◌+◌, ◌-◌, ◌/◌, max}
use Rattle.units.specs.declared.TheConstants.{PAGE}

-- the pages for so many bytes: whole ones, the last of which may be filled in part, and at least one
abbrev pub pages_for : ℕ → ℕ
pages_for bytes = max ((bytes + (PAGE - 1)) / PAGE) 1
