use Rattle.client.specs.Pieces.{AllStay}
use Rattle.replay_real.specs.Standing.{Grows}
use Rattle.std.proofs.Common.{length}
use Rattle.replay_real.proofs.ReturningSteps.{ReleasesSome}
use Rattle.replay_real.proofs.script_client.release_free.Given as goal

abbrev pub invariant-loop-side : goal.invariant-loop-side
invariant-loop-side l = AllStay l.fn.client l.client × Grows l.fn.state.entries l.state.entries × ReleasesSome l.fn.client l.fn.state l.client l.state

abbrev pub decreases-loop-side : goal.decreases-loop-side
decreases-loop-side l = length l.client.leases
