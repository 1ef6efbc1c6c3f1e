use Rattle.client.specs.Pieces.{AllStay}
use Rattle.replay_real.specs.Standing.{Grows}
use Rattle.std.proofs.Common.{◌-◌, length}
use Rattle.replay_real.proofs.ReturningSteps.{TellsSome}
use Rattle.replay_real.proofs.script_client.tell_all.Given as goal

abbrev pub invariant-loop-id : goal.invariant-loop-id
invariant-loop-id l = AllStay l.fn.client l.client × Grows l.fn.state.entries l.state.entries × TellsSome l.fn.client l.fn.state l.client l.state

abbrev pub decreases-loop-id : goal.decreases-loop-id
decreases-loop-id l = length l.client.gone - l.client.told
