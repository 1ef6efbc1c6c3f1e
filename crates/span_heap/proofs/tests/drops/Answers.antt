use Rattle.std.proofs.Common.{not}
use Rattle.span_heap.specs.Heap.{has_id}
use Rattle.span_heap.proofs.SegmentsComeAndLeave.{sum_by-filter-le}
use Rattle.span_heap.proofs.tests.drops.Goals as goal

pub returns : goal.returns
returns c =
    rw c.drop_segment.ensures.dropped.segments
    (sum_by-filter-le (λ s. s.pages) (λ s. not (has_id c.args.segment s)) c.args.heap.now.segments)
