use Rattle.std.proofs.Common.{ap, ◌∙◌, List, length, arith}
use Rattle.segment.specs.Warded.{Warded}
use Rattle.lru_reduce.specs.Slots.{sides_of}
use Rattle.lru_reduce.proofs.Slotted.{live_slots}
use Rattle.lru_reduce.proofs.Held.{long_placed}
use Rattle.lru_reduce.proofs.slots.Slots.add.Goals as goal

pub invariant_of-self : goal.invariant_of-self
invariant_of-self c =
    let long = ap (λ (ws : List Warded). length ws) c.put.ensures.sides ∙ long_placed c.args.side (sides_of c.self.inside.slots.items) in
    let all = c.self.invariant.1 in
    (c.put.ensures.are, omega (arith, long, all))

pub returns-clause-are : goal.returns-clause-are
returns-clause-are c = live_slots c.put.new.slots.items c.put.ensures.are
