use Rattle.std.proofs.Common.{List, length, ap, arith}
use Rattle.segment.specs.Warded.{Warded}
use Rattle.lru_reduce.proofs.order.Order.tidy.Goals as goal

pub invariant_of-self : goal.invariant_of-self
invariant_of-self c =
    let long = ap (λ (ws : List Warded). length ws) c.tidy.ensures.same in
    let first = c.self.invariant.2 in
    let second = c.self.invariant.3 in
    let third = c.self.invariant.4 in
    let room = c.tidy.ensures.room in
    let kept = c.refill.ensures.room in
    (rw c.tidy.ensures.same c.self.invariant.0, c.refill.ensures.sound, omega (arith, long, first, room), omega (arith, long, second, kept), omega (arith, long, third))
