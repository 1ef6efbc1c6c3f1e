use Rattle.std.proofs.Common.{◌≡◌, ℕ, ◌+◌, ◌-◌, List, ◌++◌, take, replicate, length, refl, ◌∙◌, ap, arith}
use Rattle.std.specs.Prelude.{vec_len}
use Rattle.span_heap.specs.declared.run.Run.{Run}
use Rattle.span_heap.specs.Placed.{run_at}
use Rattle.span_heap.proofs.PlacedRunsKeepTheirPlaces.{IsPlaced-reached, blank_pads}
use Rattle.span_heap.proofs.placed.PlacedRuns.extend.Goals as goal

pub invariant_of-self-in_err-reach-2 : goal.invariant_of-self-in_err-reach-2
invariant_of-self-in_err-reach-2 c =
    let p = c.self.inside in
    let small = rw (← c.self.view_is) at c.requires.small in
    IsPlaced-reached p.lists c.reach.new.lists p.order c.reach-2.new.lists p.runs.items p.runs.items p.listed c.reach.new.places p.ordered c.reach-2.new.places c.self.invariant
    c.reach.ensures.counted c.reach-2.ensures.counted
    (omega (arith, c.self.invariant.lists_reach, c.reach.ensures.least)) (omega (arith, c.self.invariant.order_reach, c.reach-2.ensures.least))
    c.reach.ensures.list c.reach-2.ensures.list (omega arith) (λ place. refl)

pub returns-in_err-reach-2-clause-free : goal.returns-in_err-reach-2-clause-free
returns-in_err-reach-2-clause-free c =
    rw (← c.self.view_is) (c.reach-2.ensures.list 1)

pub returns-in_err-reach-2-clause-used : goal.returns-in_err-reach-2-clause-used
returns-in_err-reach-2-clause-used c =
    rw (← c.self.view_is) (c.reach-2.ensures.list 2)

pub invariant_of-self-in_err-resize : goal.invariant_of-self-in_err-resize
invariant_of-self-in_err-resize c =
    let same_runs : c.resize.new.self.items ≡ c.self.inside.runs.items = c.in_err-resize.ensures.items in
    let p = c.self.inside in
    let small = rw (← c.self.view_is) at c.requires.small in
    IsPlaced-reached p.lists c.reach.new.lists p.order c.reach-2.new.lists p.runs.items c.resize.new.self.items p.listed c.reach.new.places p.ordered c.reach-2.new.places c.self.invariant
    c.reach.ensures.counted c.reach-2.ensures.counted
    (omega (arith, ap {B = ℕ} length same_runs, c.self.invariant.lists_reach, c.reach.ensures.least)) (omega (arith, ap {B = ℕ} length same_runs, c.self.invariant.order_reach, c.reach-2.ensures.least))
    c.reach.ensures.list c.reach-2.ensures.list (omega (arith, ap {B = ℕ} length same_runs)) (λ place. ap (λ xs. run_at xs place) same_runs)

pub returns-in_err-resize-clause-free : goal.returns-in_err-resize-clause-free
returns-in_err-resize-clause-free c =
    rw (← c.self.view_is) (c.reach-2.ensures.list 1)

pub returns-in_err-resize-clause-used : goal.returns-in_err-resize-clause-used
returns-in_err-resize-clause-used c =
    rw (← c.self.view_is) (c.reach-2.ensures.list 2)

pub invariant_of-self-2 : goal.invariant_of-self-2
invariant_of-self-2 c =
    let len : vec_len c.self.inside.runs ≡ length c.self.inside.runs.items = omega (arith, c.self.inside.runs.ok.0) in
    let total : c.len.result + c.args.more ≡ length c.self.inside.runs.items + c.args.more = omega (arith, c.len.ensures, c.self.inside.runs.ok.0) in
    let runs_len : length c.resize.new.self.items ≡ c.len.result + c.args.more = omega (arith, c.resize.new.self.ok.0, c.in_ok-resize.ensures.len) in
    let p = c.self.inside in
    let small = rw (← c.self.view_is) at c.requires.small in
    IsPlaced-reached p.lists c.reach.new.lists p.order c.reach-2.new.lists p.runs.items c.resize.new.self.items p.listed c.reach.new.places p.ordered c.reach-2.new.places c.self.invariant
    c.reach.ensures.counted c.reach-2.ensures.counted
    (omega (arith, runs_len, c.in_ok-reach.ensures.reach, c.in_ok-reach-2.ensures.reach, c.self.invariant.lists_reach, c.reach.ensures.least)) (omega (arith, runs_len, c.in_ok-reach.ensures.reach, c.in_ok-reach-2.ensures.reach, c.self.invariant.order_reach, c.reach-2.ensures.least))
    c.reach.ensures.list c.reach-2.ensures.list (omega (arith, runs_len, total)) (blank_pads p.runs.items c.resize.new.self.items (c.len.result + c.args.more) (omega (arith, total)) (c.in_ok-resize.ensures.items ∙ ap {B = List Run} (λ k. take (c.len.result + c.args.more) p.runs.items ++ replicate (c.len.result + c.args.more - k) (record { segment = 0; first = 0; pages = 0 })) len))

pub returns-clause-free : goal.returns-clause-free
returns-clause-free c =
    rw (← c.self.view_is) (c.reach-2.ensures.list 1)

pub returns-clause-used : goal.returns-clause-used
returns-clause-used c =
    rw (← c.self.view_is) (c.reach-2.ensures.list 2)
