-- The bytes of a block, lent to be written.
use Rattle.std.specs.Prelude.{ℕ, List, length, ◌++◌, take, drop}
use Rattle.std.specs.List.{refill}
use Rattle.std.specs.Borrow.{Lends, MutBor, Fml, Array, u8}
use Rattle.block_pool.specs.contracts.block.Block.{the_row}

-- r lends the bytes of a block, which ends with what was last written through r and keeps its
-- length
abbrev pub LendsBytes : MutBor (List ℕ) → MutBor (List ℕ) → Fml
LendsBytes block r = Lends the_row (Array u8 0) block r (refill (length block.now) block.now)

-- the bytes with `w` written over those from a place on, as far as there are any
abbrev pub written_from : ℕ → List ℕ → List ℕ → List ℕ
written_from place bytes w =
    refill (length bytes) bytes (take place bytes ++ (w ++ drop (length w) (drop place bytes)))

-- r lends the bytes of a block from a place on, which ends with what was last written through r there
abbrev pub LendsPart : MutBor (List ℕ) → ℕ → MutBor (List ℕ) → Fml
LendsPart block place r = Lends the_row (Array u8 0) block r (written_from place block.now)
