use Rattle.std.proofs.Common.{◌≡◌, ◌++◌, take}
use Rattle.std.specs.Prelude.{vec_capacity}
use Rattle.span_heap.proofs.row.PageRow.give_places.Given as goal

abbrev pub invariant-loop-place : goal.invariant-loop-place
invariant-loop-place l = (l.spare.items ≡ l.fn.spare.items ++ take l.place-index l.place-items) × (vec_capacity l.spare ≡ vec_capacity l.fn.spare)
