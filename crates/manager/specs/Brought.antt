-- What a handle brings to a grant.
use Rattle.std.specs.Prelude.{◌≡◌, ℕ, List, Option, IfSome}
use Rattle.block_pool.specs.Block.{page_count, IsZero}

-- a block of these pages, all bytes zero
abbrev pub IsFresh : ℕ → List ℕ → Type 0
IsFresh pages block = IsZero pages block × (page_count block ≡ pages)

-- the block that was brought, where one was, is of these pages and all zero
abbrev pub IsBrought : ℕ → Option (List ℕ) → Type 0
IsBrought pages block = IfSome block (IsFresh pages)
