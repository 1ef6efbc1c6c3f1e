use Rattle.std.proofs.Common.{⊎_elim}
use Rattle.span_heap.proofs.PlacedRunsKeepTheirPlaces.{ordered_there, IsPlaced-used_added}
use Rattle.span_heap.proofs.placed.PlacedRuns.add_used.Goals as goal

pub append-requires-clause-free : goal.append-requires-clause-free
append-requires-clause-free c = λ there.
    let p = c.self.inside in
    ⊎_elim (rw (← c.self.view_is) at c.requires.not_free) (rw (← c.self.view_is) at c.requires.not_used) (ordered_there p.lists p.order p.runs.items p.listed p.ordered c.args.place c.self.invariant there)

pub invariant_of-self : goal.invariant_of-self
invariant_of-self c =
    let p = c.self.inside in
    IsPlaced-used_added p.lists p.order c.append.new.self p.runs.items p.listed p.ordered c.args.place c.args.span c.self.invariant
    (rw (← c.self.view_is) at c.requires.not_free) (rw (← c.self.view_is) at c.requires.not_used) (rw (← c.self.view_is) at c.requires.place) c.append.ensures

pub returns-clause-free : goal.returns-clause-free
returns-clause-free c = rw (← c.self.view_is) (c.append.ensures.list 1)

pub returns-clause-used : goal.returns-clause-used
returns-clause-used c = rw (← c.self.view_is) (c.append.ensures.list 2)
