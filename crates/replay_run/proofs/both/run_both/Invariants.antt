use Rattle.std.proofs.Common.{length, take}
use Rattle.replay_plain.specs.State.{first_state}
use Rattle.replay_run.specs.Both.{BothStand}
use Rattle.replay_run.proofs.both.run_both.Given as goal

abbrev pub invariant-loop-place : goal.invariant-loop-place
invariant-loop-place l = BothStand l.runs (first_state l.cfg) (take (length l.yielded) l.fn.script)
