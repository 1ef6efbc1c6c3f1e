use Rattle.std.proofs.Common.{ℕ, List, [], ◌∙◌, ap}
use Rattle.free_lists.specs.Lists.{list_of}
use Rattle.span_heap.specs.declared.run.Run.{Run}
use Rattle.span_heap.specs.Placed.{Placed}
use Rattle.span_heap.proofs.PlacedRunsKeepTheirPlaces.{IsPlaced-new}
use Rattle.span_heap.proofs.placed.PlacedRuns.new.Goals as goal

pub invariant_of-result : goal.invariant_of-result
invariant_of-result c = rw c.new-3.ensures.items (IsPlaced-new c.in_ok-new.field-0 c.in_ok-new-2.field-0 c.in_ok-new.ensures c.in_ok-new-2.ensures)

pub returns : goal.returns
returns c =
    let order = c.in_ok-new-2.field-0 in
    let made : List ℕ → List ℕ → List Run → Placed = λ f u r. record { free = f; used = u; runs = r } in
    ap (λ f. made f (list_of order 2) c.new-3.result.items) (c.in_ok-new-2.ensures.lists 1)
    ∙ (ap (λ u. made [] u c.new-3.result.items) (c.in_ok-new-2.ensures.lists 2) ∙ ap (made [] []) c.new-3.ensures.items)
