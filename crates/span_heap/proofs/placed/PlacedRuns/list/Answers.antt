use Rattle.std.proofs.Common.{reverse, map, ◌∙◌, ap, arith}
use Rattle.std.proofs.lemmas.List.{reverse-reverse}
use Rattle.free_lists.specs.Lists.{list_of}
use Rattle.span_heap.specs.Placed.{run_at}
use Rattle.span_heap.proofs.placed.PlacedRuns.list.Goals as goal

pub latest_first-requires-clause-within : goal.latest_first-requires-clause-within
latest_first-requires-clause-within c = rw c.as_slice.ensures.value c.self.invariant.free_within

pub latest_first-requires-clause-distinct : goal.latest_first-requires-clause-distinct
latest_first-requires-clause-distinct c = λ place. omega (arith, c.self.invariant.once place)

pub returns : goal.returns
returns c =
    let p = c.self.inside in
    rw (← c.self.view_is)
    (c.reverse.ensures.items ∙ (ap reverse (rw c.as_slice.ensures.value at c.in_ok-runs.ensures) ∙ reverse-reverse (map (run_at p.runs.items) (list_of p.order 1))))
