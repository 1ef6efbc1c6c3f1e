use Rattle.std.proofs.Common.{rules}
use Rattle.std.proofs.lemmas.Fn.{filter_same}
use Rattle.script_heaps.proofs.KeptThrough.{kept_left}
use Rattle.script_heaps.proofs.client_heap.ClientHeap.leave.Goals as goal

pub invariant_of-self : goal.invariant_of-self
invariant_of-self c =
    kept_left c.self.inside.heap c.drop_segment.new.self c.self.inside.segments.items c.retain.new.self.items c.self.inside.pieces.items c.self.inside.last c.args.id c.self.invariant c.drop_segment.ensures.dropped c.drop_segment.ensures.partition
    (filter_same _ _ _ (λ x b f' k. search rules) _ _ c.retain.ensures.filtered)
