use Rattle.std.proofs.Common.{◌*◌, ◌≤◌}
use Rattle.span_heap.specs.Heap.{size_of}
use Rattle.timings.proofs.heap_steps.scattered.Given as goal

abbrev pub invariant-loop-place : goal.invariant-loop-place
invariant-loop-place l = size_of l.heap.segments ≤ 64 * l.place
