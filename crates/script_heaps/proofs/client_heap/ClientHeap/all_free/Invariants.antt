use Rattle.std.proofs.Common.{◌≡◌, take, map}
use Rattle.std.specs.List.{filter}
use Rattle.span_heap.specs.Segment.{Segment}
use Rattle.script_heaps.specs.Holding.{is_all_free}
use Rattle.script_heaps.proofs.client_heap.ClientHeap.all_free.Given as goal

abbrev pub invariant-loop-id : goal.invariant-loop-id
invariant-loop-id l = l.free.items ≡ map (λ (segment : Segment). segment.id) (filter (is_all_free l.self.runs) (take l.id-index l.self.segments))
