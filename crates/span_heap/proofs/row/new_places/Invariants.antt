use Rattle.std.proofs.Common.{◌≡◌, ◌-◌}
use Rattle.span_heap.specs.Table.{row_places}
use Rattle.span_heap.proofs.row.new_places.Given as goal

abbrev pub invariant-loop-place : goal.invariant-loop-place
invariant-loop-place l = l.places.items ≡ row_places l.spare l.keep l.size (l.place - l.size)
