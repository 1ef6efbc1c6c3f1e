-- Pools: what is seen of one, and what each call makes of it.
use Rattle.std.specs.Prelude.{ℕ, ◌+◌, ◌-◌, ◌^◌, ◌==◌, nat_lt, min, Bool, if◌then◌else◌, List, [], ◌∷◌, ◌++◌, length}
use Rattle.std.specs.List.{list_any}
use Rattle.units.specs.Count.{next_count}

-- what is seen of a pool: the pages of each block that it keeps, the oldest first, how many blocks
-- it may keep, how many it made, and how many pages were put, kept or not
pub record Stock : Type 0 where
  pub kept : List ℕ
  pub keep : ℕ
  pub made : ℕ
  pub pages_put : ℕ

-- a pool that has made no block, and may keep some
abbrev pub no_blocks : ℕ → Stock
no_blocks keep = record { kept = []; keep = keep; made = 0; pages_put = 0 }

-- a block of these pages is kept
abbrev pub is_kept : ℕ → List ℕ → Bool
is_kept pages kept = list_any (λ p. p == pages) kept

-- the kept blocks without the oldest one of these pages
abbrev pub without_oldest : ℕ → List ℕ → List ℕ
without_oldest pages [] = []
without_oldest pages (p ∷ kept) = if p == pages then kept else p ∷ without_oldest pages kept

-- the pool without its oldest kept block of these pages
abbrev pub without_block : ℕ → Stock → Stock
without_block pages stock = record stock { kept = without_oldest pages stock.kept }

-- the pool after it made one more block
abbrev pub with_one_made : Stock → Stock
with_one_made stock = record stock { made = next_count stock.made }

-- the pool after a block of these pages was taken: the oldest kept one has left, or where none is
-- kept one more was made
abbrev pub after_take : ℕ → Stock → Stock
after_take pages stock =
    if is_kept pages stock.kept then without_block pages stock else with_one_made stock

-- The pool after a block of these pages was put: it is kept last where fewer than `keep` are kept, and else let go. Its pages
-- are counted in either case; the sum stands still at the last value of u64.
abbrev pub after_put : ℕ → Stock → Stock
after_put pages stock = record stock {
  kept = if nat_lt (length stock.kept) stock.keep then stock.kept ++ pages ∷ [] else stock.kept;
  pages_put = min (stock.pages_put + pages) (2 ^ 64 - 1);
}
