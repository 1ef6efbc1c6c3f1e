-- Bytes of a piece that are lent to be written, by a client over a granter.
use Rattle.std.specs.Prelude.{ℕ, List}
use Rattle.std.specs.Borrow.{Lends, MutBor, Fml, RattleType, Array, u8}
use Rattle.segment.specs.declared.granter.Granter.{Ghosts}
use Rattle.span_heap.specs.declared.run.Run.{Run}
use Rattle.client.specs.Pieces.{written_run}
use Rattle.client.specs.Granting.{Session}
use Rattle.client.specs.contracts.granted.Granted.{the_row}

module _ (G : RattleType) (g : Ghosts G.Denot) where
  -- r lends the bytes of a piece of the client, which ends with what was last written through r there; the granter and its counts stay
  abbrev pub LendsOwnPiece : MutBor (Session G.Denot) → Run → MutBor (List ℕ) → Fml
  LendsOwnPiece granted run r = Lends (the_row G g) (Array u8 0) granted r (λ w. record granted.now { client = written_run granted.now.client run w })
