use Rattle.std.proofs.Common.{◌≡◌, reverse, length}
use Rattle.client.specs.Granting.{Returns}
use Rattle.client.proofs.GivenUp.{Giving}
use Rattle.client.proofs.TakingBack.{ReturnsOn}
use Rattle.client.proofs.returning.give_back_all.Given as goal

abbrev pub invariant-loop-side : goal.invariant-loop-side
invariant-loop-side g l = record {
  returns : Returns (g.G.Granter.returns l.fn.granter) (g.G.Granter.returns l.granter) l.fn.client l.client;
  back : ReturnsOn g.G.Granter.took_back l.fn.client.number (reverse l.fn.client.leases) l.fn.granter l.client.gone (reverse l.client.leases) l.granter;
  giving : Giving l.fn.client.leases l.fn.client l.client;
  grants : g.G.Granter.grants l.granter ≡ g.G.Granter.grants l.fn.granter;
  greatest : g.G.Granter.greatest l.granter ≡ g.G.Granter.greatest l.fn.granter;
  standing : g.G.Granter.standing l.granter ≡ g.G.Granter.standing l.fn.granter;
}

abbrev pub decreases-loop-side : goal.decreases-loop-side
decreases-loop-side g l = length l.client.leases
