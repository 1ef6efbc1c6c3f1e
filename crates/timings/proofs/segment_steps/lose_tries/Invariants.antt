use Rattle.std.proofs.Common.{◌≡◌, false}
use Rattle.timings.proofs.segment_steps.lose_tries.Given as goal

abbrev pub invariant-loop-now : goal.invariant-loop-now
invariant-loop-now l = l.warden.taken ≡ false
