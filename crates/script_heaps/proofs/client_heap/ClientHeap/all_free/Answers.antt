use Rattle.std.proofs.Common.{sym, arith}
use Rattle.std.proofs.lemmas.List.{append-nil}
use Rattle.script_heaps.proofs.SegmentsByNumber.{has_number}
use Rattle.script_heaps.proofs.AllFree.{free_more}
use Rattle.script_heaps.proofs.client_heap.ClientHeap.all_free.Goals as goal
use Rattle.script_heaps.proofs.client_heap.ClientHeap.all_free.Goals.{then-all_free+in_ok-push, else-all_free}

pub all_free-requires : goal.all_free-requires
all_free-requires c =
    let more = c.loop-id-test.true in
    let end = c.loop-id.auto.id-index-end in
    rw c.deref-id-items.ensures.value
    (has_number c.self.inside.heap.segments c.self.inside.segments.items c.loop-id.id-index c.self.invariant.numbers (omega arith))

pub loop-id-preserved : goal.loop-id-preserved
loop-id-preserved c =
    let more = c.loop-id-test.true in
    let end = c.loop-id.auto.id-index-end in
    let so_far = rw (← c.self.view_is) at c.loop-id.invariant in
    let told = rw c.deref-id-items.ensures.value at c.all_free.ensures in
    rw (← c.self.view_is)
    (free_more c.self.inside.heap c.self.inside.segments.items c.loop-id.free.items c.if-all_free.free.items c.loop-id.id-index c.all_free.result c.self.invariant.partition c.self.invariant.numbers (omega arith) told.0 told.1 so_far
    (elim c.if-all_free.branch [
      | then-all_free+in_ok-push w ↦ rw (w.free-is, w.if-all_free.true, ← c.deref-id-items.ensures.value) w.in_ok-push.ensures.items
      | else-all_free w ↦ rw (w.free-is, w.if-all_free.false) (sym (append-nil c.loop-id.free.items))
    ]))
