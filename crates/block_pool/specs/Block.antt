-- Blocks: whole pages of bytes.
use Rattle.std.specs.Prelude.{◌≡◌, ℕ, ◌*◌, ◌/◌, ◌≤◌, List, length, replicate}
use Rattle.units.specs.declared.TheConstants.{PAGE, MOST_PAGES}

-- how many whole pages these bytes are
abbrev pub page_count : List ℕ → ℕ
page_count bytes = length bytes / PAGE

-- these are the bytes of a block: whole pages, from 1 to the most
pub record IsBlock (bytes : List ℕ) : Type 0 where
  pub whole : length bytes ≡ PAGE * page_count bytes
  pub least : 1 ≤ page_count bytes
  pub most : page_count bytes ≤ MOST_PAGES

-- these are the bytes of a block of some pages, all zero
abbrev pub IsZero : ℕ → List ℕ → Type 0
IsZero pages bytes = bytes ≡ replicate (PAGE * pages) 0

-- these are whole pages, and all zero
abbrev pub IsWiped : List ℕ → Type 0
IsWiped bytes = IsZero (page_count bytes) bytes
