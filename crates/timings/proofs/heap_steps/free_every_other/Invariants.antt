use Rattle.std.proofs.Common.{◌≡◌}
use Rattle.timings.proofs.heap_steps.free_every_other.Given as goal

abbrev pub invariant-loop : goal.invariant-loop
invariant-loop l = l.heap.segments ≡ l.fn.heap.segments
