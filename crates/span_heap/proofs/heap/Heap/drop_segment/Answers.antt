use Rattle.std.proofs.Common.{◌≡◌, ◌+◌, ◌-◌, arith}
use Rattle.std.proofs.lemmas.List.Sorted.{IsPermutation-refl}
use Rattle.span_heap.specs.Run.{lies_in}
use Rattle.span_heap.specs.Runs.{dropped}
use Rattle.span_heap.specs.Segment.{pages_in}
use Rattle.span_heap.proofs.SegmentsComeAndLeave.{sum_by-filter-le}
use Rattle.span_heap.proofs.CountsAreKept.{IsSoundHeap-dropped}
use Rattle.span_heap.proofs.HeapOverTheTable.{kept_as, segment_pages}
use Rattle.span_heap.proofs.heap.Heap.drop_segment.Goals as goal

pub overflow_sub-self : goal.overflow_sub-self
overflow_sub-self c =
    let h = c.self.inside in
    let kept = c.self.invariant in
    let width = segment_pages h.table.segments c.args.segment c.width-pages.result (kept.partition.distinct c.args.segment) c.width-pages.ensures in
    omega (
      arith,
      width,
      kept.by_segment c.args.segment,
      kept.whole,
      sum_by-filter-le (λ x. x.pages) (lies_in c.args.segment) h.table.used,
      sum_by-filter-le (λ x. x.pages) (lies_in c.args.segment) h.table.free,
    )

pub overflow_sub-self-2 : goal.overflow_sub-self-2
overflow_sub-self-2 c =
    let h = c.self.inside in
    let kept = c.self.invariant in
    let width = segment_pages h.table.segments c.args.segment c.width-pages.result (kept.partition.distinct c.args.segment) c.width-pages.ensures in
    omega (arith, width, kept.by_segment c.args.segment, c.used_pages-used.ensures.pages, kept.free_count, sum_by-filter-le (λ x. x.pages) (lies_in c.args.segment) h.table.free)

pub overflow_sub-self-3 : goal.overflow_sub-self-3
overflow_sub-self-3 c =
    let h = c.self.inside in
    let kept = c.self.invariant in
    let width = segment_pages h.table.segments c.args.segment c.width-pages.result (kept.partition.distinct c.args.segment) c.width-pages.ensures in
    omega (arith, width, kept.by_segment c.args.segment, c.used_pages-used.ensures.pages, kept.free_count, sum_by-filter-le (λ x. x.pages) (lies_in c.args.segment) h.table.free)

pub invariant_of-self : goal.invariant_of-self
invariant_of-self c =
    let h = c.self.inside in
    let id = c.args.segment in
    let kept = c.self.invariant in
    let width = segment_pages h.table.segments id c.width-pages.result (kept.partition.distinct id) c.width-pages.ensures in
    let used : c.used_pages-used.result ≡ pages_in id h.table.used = c.used_pages-used.ensures.pages in
    let free : c.width-pages.result - c.used_pages-used.result ≡ pages_in id h.table.free = omega (arith, width, used, kept.by_segment id) in
    let both : c.width-pages.result ≡ pages_in id h.table.used + pages_in id h.table.free = omega (arith, width, kept.by_segment id) in
    rw (free, both)
    (kept_as c.drop_row.new.self _ (dropped h.table.used id) _ _ _ c.drop_row.ensures.segments c.drop_row.ensures.used c.drop_row.ensures.free
    (IsSoundHeap-dropped h.table.segments h.table.used h.table.free (dropped h.table.used id) id h.pages h.free_pages kept (IsPermutation-refl (dropped h.table.used id))))

pub returns-clause-answer : goal.returns-clause-answer
returns-clause-answer c = rw (← c.self.view_is) c.used_pages-used.ensures.pages

pub returns-clause-dropped : goal.returns-clause-dropped
returns-clause-dropped c =
    rw (← c.self.view_is) (record { segments = c.drop_row.ensures.segments; used = rw c.drop_row.ensures.used (IsPermutation-refl (dropped c.self.inside.table.used c.args.segment)); free = c.drop_row.ensures.free })

pub returns-clause-partition : goal.returns-clause-partition
returns-clause-partition c = (invariant_of-self c).partition
