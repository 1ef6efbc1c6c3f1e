-- Bytes that are lent to be written.
use Rattle.std.specs.Prelude.{ℕ, List, length}
use Rattle.std.specs.List.{refill}
use Rattle.std.specs.Borrow.{Lends, MutBor, Fml, Array, u8}
use Rattle.block_pool.specs.Lending.{written_from}
use Rattle.segment.specs.Owned.{Owned}
use Rattle.segment.specs.contracts.owner.OwnerSide.{the_row}

-- r lends the bytes of a side that holds, which ends with what was last written through r; they keep their length
abbrev pub LendsBytes : MutBor Owned → MutBor (List ℕ) → Fml
LendsBytes side r = Lends the_row (Array u8 0) side r (λ w. record side.now { bytes = refill (length side.now.bytes) side.now.bytes w })

-- the side with bytes written over those that it has from a place on
abbrev pub with_written : Owned → ℕ → List ℕ → Owned
with_written side place w = record side { bytes = written_from place side.bytes w }

-- r lends the bytes of a side that holds from a place on, which ends with what was last written through r there
abbrev pub LendsPart : MutBor Owned → ℕ → MutBor (List ℕ) → Fml
LendsPart side place r = Lends the_row (Array u8 0) side r (with_written side.now place)
