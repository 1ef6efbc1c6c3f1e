use Rattle.client.specs.Places.{AreUsedBefore}
use Rattle.client.proofs.client.Client.free_place.Given as goal

abbrev pub invariant-loop-place : goal.invariant-loop-place
invariant-loop-place l = AreUsedBefore l.place l.self
