use Rattle.std.proofs.Common.{◌≢◌}
use Rattle.segment.specs.declared.owner.Phase.TheVariants.{Held}
use Rattle.timings.proofs.segment_steps.lock_and_unlock.Given as goal

abbrev pub invariant-loop-now : goal.invariant-loop-now
invariant-loop-now l = l.owner.phase ≢ Held
