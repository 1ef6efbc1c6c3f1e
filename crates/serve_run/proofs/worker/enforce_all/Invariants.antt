use Rattle.std.proofs.Common.{◌≡◌}
use Rattle.serve_run.specs.Working.{enforced}
use Rattle.serve_run.proofs.worker.enforce_all.Given as goal

abbrev pub invariant-loop-round : goal.invariant-loop-round
invariant-loop-round g l = l.handle ≡ enforced l.round
