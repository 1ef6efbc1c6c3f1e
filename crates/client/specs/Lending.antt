-- Bytes that are lent to be written.
use Rattle.std.specs.Prelude.{ℕ, List}
use Rattle.std.specs.Borrow.{Lends, MutBor, Fml, Array, u8}
use Rattle.span_heap.specs.declared.run.Run.{Run}
use Rattle.client.specs.Lease.{Lease, with_bytes}
use Rattle.client.specs.Seen.{Seen}
use Rattle.client.specs.Pieces.{written_run}
use Rattle.client.specs.contracts.lease.LeasedSegment.{the_row as lease_row}
use Rattle.client.specs.contracts.client.Client.{the_row as client_row}

-- r lends the bytes of a segment from a page on, which ends with what was last written through r there
abbrev pub LendsPages : MutBor Lease → ℕ → MutBor (List ℕ) → Fml
LendsPages lease first r = Lends lease_row (Array u8 0) lease r (λ w. with_bytes first w lease.now)

-- r lends the bytes of a piece of a client, which ends with what was last written through r there
abbrev pub LendsPiece : MutBor Seen → Run → MutBor (List ℕ) → Fml
LendsPiece client run r = Lends client_row (Array u8 0) client r (written_run client.now run)
