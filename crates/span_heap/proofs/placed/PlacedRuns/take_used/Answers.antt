use Rattle.std.proofs.Common.{◌∙◌}
use Rattle.span_heap.proofs.PlacedRunsKeepTheirPlaces.{still_free, IsPlaced-used_taken}
use Rattle.span_heap.proofs.placed.PlacedRuns.take_used.Goals as goal

pub remove-requires : goal.remove-requires
remove-requires c = (2, rw (← c.self.view_is) at c.requires)

pub invariant_of-self : goal.invariant_of-self
invariant_of-self c =
    let p = c.self.inside in
    IsPlaced-used_taken p.lists p.order c.remove.new.self p.runs.items p.listed p.ordered c.args.place c.self.invariant (rw (← c.self.view_is) at c.requires) c.remove.ensures

pub returns-clause-free : goal.returns-clause-free
returns-clause-free c =
    let p = c.self.inside in
    rw (← c.self.view_is) (c.remove.ensures.list 1 ∙ still_free p.lists p.order p.runs.items p.listed p.ordered c.args.place c.self.invariant (rw (← c.self.view_is) at c.requires))

pub returns-clause-used : goal.returns-clause-used
returns-clause-used c = rw (← c.self.view_is) (c.remove.ensures.list 2)
