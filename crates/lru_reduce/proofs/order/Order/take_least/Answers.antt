use Rattle.std.proofs.Common.{length, refl, arith}
use Rattle.lru_reduce.proofs.Ordered.{told_first, none_first, front_live, each_left, left_long, takes_out}
use Rattle.lru_reduce.proofs.order.Order.take_least.Goals as goal

pub returns-in_err-id : goal.returns-in_err-id
returns-in_err-id c =
    rw (c.from_residual.ensures, ← c.self.view_is) (none_first c.self.inside.slots.sides c.self.inside.uses.entries c.self.invariant.1 c.in_err-id.ensures.none, refl)

pub returns-in_err-side : goal.returns-in_err-side
returns-in_err-side c = absurd (front_live (c.in_ok-id.field-0-0, c.in_ok-id.id) c.self.inside.slots.sides c.self.inside.uses.entries c.self.invariant.1 c.in_ok-id.ensures.some c.in_err-side.ensures.live)

pub drop_dead-requires : goal.drop_dead-requires
drop_dead-requires c = record { each = each_left c.in_ok-id.id c.self.inside.slots.sides c.take.new.self.sides c.self.inside.uses.entries c.in_ok-side.ensures.some.sides c.self.invariant.1.each }

pub overflow_add-self : goal.overflow_add-self
overflow_add-self c =
    let long = left_long c.in_ok-id.id c.in_ok-side.side c.self.inside.slots.sides c.take.new.self.sides c.self.invariant.0 c.in_ok-side.ensures.some in
    let third = c.self.invariant.4 in
    omega (arith, long, third)

pub invariant_of-self-2 : goal.invariant_of-self-2
invariant_of-self-2 c =
    let long = left_long c.in_ok-id.id c.in_ok-side.side c.self.inside.slots.sides c.take.new.self.sides c.self.invariant.0 c.in_ok-side.ensures.some in
    let first = c.self.invariant.2 in
    let second = c.self.invariant.3 in
    let third = c.self.invariant.4 in
    let room = c.in_ok-side.ensures.room in
    let kept = c.drop_dead.ensures.room in
    (c.in_ok-side.ensures.are, c.drop_dead.ensures.sound, omega (arith, long, first, room), omega (arith, long, second, kept), omega (arith, long, third))

pub returns : goal.returns
returns c =
    rw (← c.self.view_is)
    (takes_out c.in_ok-id.id c.in_ok-id.field-0-0 c.self.inside.spare (length c.self.inside.uses.entries) (length c.drop_dead.new.self.entries) c.in_ok-side.side c.self.inside.slots.sides c.take.new.self.sides
    c.self.invariant.0 c.in_ok-side.ensures.some
    (told_first (c.in_ok-id.field-0-0, c.in_ok-id.id) c.self.inside.slots.sides c.self.inside.uses.entries c.self.invariant.1 c.in_ok-id.ensures.some))
