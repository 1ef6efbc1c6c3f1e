use Rattle.std.proofs.Common.{◌≡◌, ◌-◌, length}
use Rattle.client.proofs.GivingBack.{Telling}
use Rattle.client.proofs.TakingBack.{TellsOn}
use Rattle.client.proofs.returning.tell_all.Given as goal

abbrev pub invariant-loop-id : goal.invariant-loop-id
invariant-loop-id g l = record {
  took : TellsOn g.G.Granter.took_back l.fn.client l.fn.granter l.client l.granter;
  telling : Telling l.fn.client l.client (g.G.Granter.returns l.fn.granter) (g.G.Granter.returns l.granter);
  grants : g.G.Granter.grants l.granter ≡ g.G.Granter.grants l.fn.granter;
  greatest : g.G.Granter.greatest l.granter ≡ g.G.Granter.greatest l.fn.granter;
  standing : g.G.Granter.standing l.granter ≡ g.G.Granter.standing l.fn.granter;
}

abbrev pub decreases-loop-id : goal.decreases-loop-id
decreases-loop-id g l = length l.client.gone - l.client.told
