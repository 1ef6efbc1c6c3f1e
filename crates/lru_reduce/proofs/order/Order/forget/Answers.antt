use Rattle.std.proofs.Common.{sym, refl, ap, ◌∙◌, arith}
use Rattle.lru_reduce.specs.Wards.{Slotted}
use Rattle.lru_reduce.proofs.Placed.{all_stay}
use Rattle.lru_reduce.proofs.Ordered.{each_left, left_long}
use Rattle.lru_reduce.proofs.order.Order.forget.Goals as goal

pub drop_dead-requires : goal.drop_dead-requires
drop_dead-requires c = record { each = each_left c.args.id c.self.inside.slots.sides c.take.new.self.sides c.self.inside.uses.entries c.in-Some.ensures.some.sides c.self.invariant.1.each }

pub invariant_of-self-2 : goal.invariant_of-self-2
invariant_of-self-2 c =
    let long = left_long c.args.id c.in-Some._side c.self.inside.slots.sides c.take.new.self.sides c.self.invariant.0 c.in-Some.ensures.some in
    let first = c.self.invariant.2 in
    let second = c.self.invariant.3 in
    let third = c.self.invariant.4 in
    let room = c.in-Some.ensures.room in
    let kept = c.drop_dead.ensures.room in
    (c.in-Some.ensures.are, c.drop_dead.ensures.sound, omega (arith, long, first, room), omega (arith, long, second, kept), omega (arith, long, third))

pub returns-in_default : goal.returns-in_default
returns-in_default c =
    rw (← c.self.view_is) record {
      found = c.in_default.ensures.live;
      sides = ap (λ (t : Slotted). t.sides) c.in_default.ensures.none ∙ sym (all_stay c.args.id c.self.inside.slots.sides (sym c.in_default.ensures.live));
      spare = refl;
    }
