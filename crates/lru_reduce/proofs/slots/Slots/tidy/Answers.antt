use Rattle.std.proofs.Common.{ap, ◌∙◌, sym, List, length, arith}
use Rattle.segment.specs.Warded.{Warded}
use Rattle.lru_reduce.specs.Slots.{sides_of}
use Rattle.lru_reduce.specs.declared.slots.Slot.{Slot}
use Rattle.lru_reduce.proofs.Slotted.{slots_full, sides_full, short_sides}
use Rattle.lru_reduce.proofs.slots.Slots.tidy.Goals as goal

pub overflow_sub-len : goal.overflow_sub-len
overflow_sub-len c =
    let short = short_sides c.self.inside.slots.items in
    let all = c.self.invariant.1 in
    let long = c.len.ensures in
    omega (arith, short, all, long)

pub invariant_of-self : goal.invariant_of-self
invariant_of-self c = (
  rw c.drop_empty.ensures.items (slots_full c.self.inside.slots.items c.self.invariant.0),
  c.self.invariant.1 ∙ sym (ap (λ (slots : List Slot). length (sides_of slots)) c.drop_empty.ensures.items ∙ ap (λ (ws : List Warded). length ws) (sides_full c.self.inside.slots.items)),
)

pub returns-then-len-self-clause-same : goal.returns-then-len-self-clause-same
returns-then-len-self-clause-same c = rw (← c.self.view_is) (ap (λ (slots : List Slot). sides_of slots) c.drop_empty.ensures.items ∙ sides_full c.self.inside.slots.items)
