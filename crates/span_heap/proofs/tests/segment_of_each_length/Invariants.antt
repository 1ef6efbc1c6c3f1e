use Rattle.std.proofs.Common.{◌*◌, ◌≤◌, ◌+◌}
use Rattle.span_heap.specs.Heap.{size_of}
use Rattle.span_heap.proofs.tests.segment_of_each_length.Given as goal

abbrev pub invariant-loop-pages : goal.invariant-loop-pages
invariant-loop-pages l = size_of l.heap.segments + 300 ≤ 300 * l.pages
