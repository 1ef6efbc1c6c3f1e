use Rattle.std.proofs.Common.{◌∙◌}
use Rattle.span_heap.proofs.PlacedRunsKeepTheirPlaces.{class_listed, still_used, IsPlaced-free_taken}
use Rattle.span_heap.proofs.placed.PlacedRuns.take_free.Goals as goal

pub remove-requires : goal.remove-requires
remove-requires c =
    let p = c.self.inside in
    class_listed p.lists p.order p.runs.items p.listed p.ordered c.args.place c.self.invariant (rw (← c.self.view_is) at c.requires)

pub remove-requires-2 : goal.remove-requires-2
remove-requires-2 c = (1, rw (← c.self.view_is) at c.requires)

pub invariant_of-self : goal.invariant_of-self
invariant_of-self c =
    let p = c.self.inside in
    IsPlaced-free_taken p.lists c.remove.new.self p.order c.remove-2.new.self p.runs.items p.listed p.ordered c.args.place c.self.invariant c.remove.ensures c.remove-2.ensures

pub returns-clause-free : goal.returns-clause-free
returns-clause-free c = rw (← c.self.view_is) (c.remove-2.ensures.list 1)

pub returns-clause-used : goal.returns-clause-used
returns-clause-used c =
    let p = c.self.inside in
    rw (← c.self.view_is) (c.remove-2.ensures.list 2 ∙ still_used p.lists p.order p.runs.items p.listed p.ordered c.args.place c.self.invariant (rw (← c.self.view_is) at c.requires))
