use Rattle.std.proofs.Common.{length, ap, ◌∙◌, arith}
use Rattle.std.proofs.lemmas.List.{length-map}
use Rattle.span_heap.specs.Segment.{Segment}
use Rattle.script_heaps.proofs.SegmentsByNumber.{none_past, size_small}
use Rattle.script_heaps.proofs.KeptThrough.{kept_adopted}
use Rattle.script_heaps.proofs.client_heap.ClientHeap.adopt.Goals as goal

pub grow_front-requires-clause-fresh : goal.grow_front-requires-clause-fresh
grow_front-requires-clause-fresh c =
    let past = c.if-id-self.false in
    none_past c.self.inside.heap.segments c.self.inside.last c.args.id c.self.invariant.small (omega arith)

pub grow_front-requires-clause-small : goal.grow_front-requires-clause-small
grow_front-requires-clause-small c =
    let few = c.if-len-ge-MOST_SEGMENTS.false in
    let counted = c.len.ensures in
    let whole = c.self.inside.segments.ok.0 in
    let same = ap length c.self.invariant.numbers ∙ length-map c.self.inside.heap.segments (λ (s : Segment). s.id) in
    let size = size_small c.self.inside.heap.segments c.self.inside.last c.self.invariant.small in
    let sized = c.requires.sized in
    omega arith

pub invariant_of-self-2 : goal.invariant_of-self-2
invariant_of-self-2 c =
    let past = c.if-id-self.false in
    rw (c.push_reserved.ensures.items, c.reserve.ensures.items, c.push_reserved-2.ensures.items, c.reserve-2.ensures.items)
    (kept_adopted c.self.inside.heap c.grow_front.new.self c.self.inside.segments.items c.self.inside.pieces.items c.self.inside.last c.args.id c.args.whole c.args.pages c.in_ok-span.span c.self.invariant (omega arith) c.requires.sized c.in_ok-span.ensures.grown c.in_ok-span.ensures.partition)
