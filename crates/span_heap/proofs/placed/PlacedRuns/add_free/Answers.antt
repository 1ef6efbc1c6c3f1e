use Rattle.std.proofs.Common.{⊎_elim}
use Rattle.span_heap.proofs.PlacedRunsKeepTheirPlaces.{listed_there, ordered_there, IsPlaced-free_added}
use Rattle.span_heap.proofs.placed.PlacedRuns.add_free.Goals as goal

pub append-requires-clause-free : goal.append-requires-clause-free
append-requires-clause-free c = λ there.
    let p = c.self.inside in
    (rw (← c.self.view_is) at c.requires.not_free) (listed_there p.lists p.order p.runs.items p.listed p.ordered c.args.place c.self.invariant there)

pub append-requires-2-clause-free : goal.append-requires-2-clause-free
append-requires-2-clause-free c = λ there.
    let p = c.self.inside in
    ⊎_elim (rw (← c.self.view_is) at c.requires.not_free) (rw (← c.self.view_is) at c.requires.not_used) (ordered_there p.lists p.order p.runs.items p.listed p.ordered c.args.place c.self.invariant there)

pub invariant_of-self : goal.invariant_of-self
invariant_of-self c =
    let p = c.self.inside in
    IsPlaced-free_added p.lists c.append.new.self p.order c.append-2.new.self p.runs.items p.listed p.ordered c.args.place c.args.run c.self.invariant
    (rw (← c.self.view_is) at c.requires.not_free) (rw (← c.self.view_is) at c.requires.not_used) (rw (← c.self.view_is) at c.requires.place) c.append.ensures c.append-2.ensures

pub returns-clause-free : goal.returns-clause-free
returns-clause-free c = rw (← c.self.view_is) (c.append-2.ensures.list 1)

pub returns-clause-used : goal.returns-clause-used
returns-clause-used c = rw (← c.self.view_is) (c.append-2.ensures.list 2)
