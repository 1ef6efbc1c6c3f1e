use Rattle.std.proofs.Common.{◌≡◌, length}
use Rattle.client.specs.Pieces.{AllStay}
use Rattle.client.specs.Granting.{Returns, CameWhole}
use Rattle.std.specs.List.{filter}
use Rattle.client.specs.Places.{is_all_free}
use Rattle.client.proofs.GivenUp.{Giving}
use Rattle.client.proofs.FreeOnesLeft.{Leaving}
use Rattle.client.proofs.TakingBack.{ReturnsOn}
use Rattle.client.proofs.returning.give_back_free.Given as goal

abbrev pub invariant-loop-side : goal.invariant-loop-side
invariant-loop-side g l = record {
  returns : Returns (g.G.Granter.returns l.fn.granter) (g.G.Granter.returns l.granter) l.fn.client l.client;
  whole : CameWhole l.whole l.fn.client l.client;
  leaves : Leaving l.fn.client l.client;
  back : ReturnsOn g.G.Granter.took_back l.fn.client.number (filter (is_all_free l.fn.client.heap.used) l.fn.client.leases) l.fn.granter l.client.gone (filter (is_all_free l.fn.client.heap.used) l.client.leases) l.granter;
  stay : AllStay l.fn.client l.client;
  giving : Giving (filter (is_all_free l.fn.client.heap.used) l.fn.client.leases) l.fn.client l.client;
  grants : g.G.Granter.grants l.granter ≡ g.G.Granter.grants l.fn.granter;
  greatest : g.G.Granter.greatest l.granter ≡ g.G.Granter.greatest l.fn.granter;
  standing : g.G.Granter.standing l.granter ≡ g.G.Granter.standing l.fn.granter;
}

abbrev pub decreases-loop-side : goal.decreases-loop-side
decreases-loop-side g l = length l.client.leases
