use Rattle.std.proofs.Common.{◌≡◌, None, ◌++◌, map, take, drop}
use Rattle.script_heaps.proofs.client_heap.take_all.Given as goal

abbrev pub invariant-loop-place : goal.invariant-loop-place
invariant-loop-place l = l.pieces.items ≡ map (λ piece. None) (take l.place l.fn.pieces.items) ++ drop l.place l.fn.pieces.items
