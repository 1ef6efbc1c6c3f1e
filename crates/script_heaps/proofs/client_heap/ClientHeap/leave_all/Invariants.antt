use Rattle.std.proofs.Common.{◌≡◌, drop}
use Rattle.script_heaps.specs.Holding.{without_all}
use Rattle.script_heaps.proofs.client_heap.ClientHeap.leave_all.Given as goal

abbrev pub invariant-loop-id : goal.invariant-loop-id
invariant-loop-id l = without_all l.self (drop l.id-index l.ids) ≡ without_all l.fn.self l.ids
