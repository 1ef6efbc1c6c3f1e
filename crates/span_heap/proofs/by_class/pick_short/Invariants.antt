use Rattle.span_heap.specs.Placed.{AreEmpty}
use Rattle.span_heap.proofs.by_class.pick_short.Given as goal

abbrev pub invariant-loop-class : goal.invariant-loop-class
invariant-loop-class l = AreEmpty l.lists l.pages l.class
