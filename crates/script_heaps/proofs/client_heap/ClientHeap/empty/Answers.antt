use Rattle.script_heaps.proofs.PiecesAtPlaces.{piece_none}
use Rattle.script_heaps.proofs.KeptThrough.{kept_empty}
use Rattle.script_heaps.proofs.client_heap.ClientHeap.empty.Goals as goal

pub invariant_of-self : goal.invariant_of-self
invariant_of-self c =
    rw (c.in_ok-self-inside.ensures, c.clear.ensures.items, c.take_all.ensures)
    (kept_empty c.self.inside.last _ (λ place run. piece_none c.self.inside.pieces.items place run))
