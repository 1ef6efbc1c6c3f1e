use Rattle.std.proofs.Common.{length}
use Rattle.replay_real.specs.Standing.{Grows}
use Rattle.replay_real.proofs.ReturningSteps.{HandsInSome}
use Rattle.replay_real.proofs.script_client.hand_in_all.Given as goal

abbrev pub invariant-loop-side : goal.invariant-loop-side
invariant-loop-side l = Grows l.fn.state.entries l.state.entries × HandsInSome l.fn.client l.fn.state l.client l.state

abbrev pub decreases-loop-side : goal.decreases-loop-side
decreases-loop-side l = length l.client.leases
