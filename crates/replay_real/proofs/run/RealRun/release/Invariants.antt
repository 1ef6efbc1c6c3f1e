use Rattle.replay_real.proofs.Releasing.{Keeps}
use Rattle.replay_real.proofs.run.RealRun.release.Given as goal

abbrev pub invariant-loop-id : goal.invariant-loop-id
invariant-loop-id l = Keeps l.fn.client l.id l.fn.self l.self
