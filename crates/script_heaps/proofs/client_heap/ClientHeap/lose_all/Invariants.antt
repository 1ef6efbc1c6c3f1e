use Rattle.std.proofs.Common.{◌≡◌, drop}
use Rattle.script_heaps.specs.Holding.{lost_all}
use Rattle.script_heaps.proofs.client_heap.ClientHeap.lose_all.Given as goal

abbrev pub invariant-loop-id : goal.invariant-loop-id
invariant-loop-id l = lost_all l.self (drop l.id-index l.ids) ≡ lost_all l.fn.self l.ids
