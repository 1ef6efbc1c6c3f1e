use Rattle.client.proofs.GivenUp.{once_gone}
use Rattle.client.proofs.client.Client.into_gone.Goals as goal

pub returns-clause-once : goal.returns-clause-once
returns-clause-once c = rw c.into_sides.ensures.sides (once_gone _ c.self.invariant.sound)
