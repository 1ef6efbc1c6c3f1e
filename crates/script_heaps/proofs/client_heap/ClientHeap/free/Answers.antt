use Rattle.std.proofs.Common.{sym}
use Rattle.script_heaps.proofs.PiecesAtPlaces.{piece_set}
use Rattle.script_heaps.proofs.KeptThrough.{kept_freed, kept_fewer}
use Rattle.script_heaps.proofs.client_heap.ClientHeap.free.Goals as goal

pub invariant_of-self-then-there : goal.invariant_of-self-then-there
invariant_of-self-then-there c =
    rw c.take_piece.ensures.rest
    (kept_freed c.self.inside.heap c.free.new.self c.self.inside.segments.items c.self.inside.pieces.items c.self.inside.last c.args.place c.in_ok-span.span c.self.invariant (sym c.in_ok-span.ensures.taken) c.free.ensures.freed c.free.ensures.partition)

pub invariant_of-self-else-there : goal.invariant_of-self-else-there
invariant_of-self-else-there c =
    rw c.take_piece.ensures.rest
    (kept_fewer c.self.inside.heap c.self.inside.segments.items c.self.inside.pieces.items _ c.self.inside.last c.self.invariant (λ other run is. (piece_set c.self.inside.pieces.items c.args.place other run is).0))
