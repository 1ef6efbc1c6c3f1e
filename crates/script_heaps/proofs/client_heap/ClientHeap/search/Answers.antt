use Rattle.script_heaps.proofs.KeptThrough.{kept_searched}
use Rattle.script_heaps.proofs.client_heap.ClientHeap.search.Goals as goal

pub invariant_of-self-2 : goal.invariant_of-self-2
invariant_of-self-2 c =
    rw (c.push_reserved.ensures.items, c.reserve.ensures.items)
    (kept_searched c.self.inside.heap c.search.new.self c.self.inside.segments.items c.self.inside.pieces.items c.self.inside.last c.in-Some.span c.self.invariant c.in-Some.ensures.used c.in-Some.ensures.partition)
