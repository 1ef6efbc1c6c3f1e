use Rattle.std.proofs.Common.{◌≡◌, ℕ, List, length, unwrap_or, Option, ap, ◌∙◌, arith}
use Rattle.segment.specs.Warded.{Warded}
use Rattle.machine.specs.Reduction.{use_of}
use Rattle.lru_reduce.specs.Wards.{Wards, candidate_of}
use Rattle.lru_reduce.proofs.Uses.{only_use}
use Rattle.lru_reduce.proofs.Held.{long_placed}
use Rattle.lru_reduce.proofs.Ordered.{others_placed, known_placed}
use Rattle.lru_reduce.proofs.order.Order.add.Goals as goal

pub renew-requires-clause-others : goal.renew-requires-clause-others
renew-requires-clause-others c = rw c.id-id.ensures (others_placed c.args.side c.self.inside.slots.sides c.add.new.self.sides c.self.inside.uses.entries c.add.ensures.sides c.self.invariant.1.each)

pub renew-requires-clause-known : goal.renew-requires-clause-known
renew-requires-clause-known c =
    let fresh = rw (← c.self.view_is) at c.requires.new in
    let known : c.unwrap_or-known.result ≡ use_of (candidate_of c.args.side) = c.unwrap_or-known.ensures ∙ ap (λ (o : Option ℕ). unwrap_or o 0) c.known.ensures.known in
    rw (c.id-id.ensures, known) (only_use c.args.side.id (use_of (candidate_of c.args.side)) c.add.new.self.sides (known_placed c.args.side c.self.inside.slots.sides c.add.new.self.sides c.add.ensures.sides fresh))

pub renew-requires-clause-room : goal.renew-requires-clause-room
renew-requires-clause-room c =
    let long = ap (λ (ws : List Warded). length ws) c.add.ensures.sides ∙ long_placed c.args.side c.self.inside.slots.sides in
    let second = c.self.invariant.3 in
    let spare = ap (λ (w : Wards). w.spare) c.self.view_is in
    let some = c.requires.spare in
    omega (arith, long, second, spare, some)

pub invariant_of-self : goal.invariant_of-self
invariant_of-self c =
    let long = ap (λ (ws : List Warded). length ws) c.add.ensures.sides ∙ long_placed c.args.side c.self.inside.slots.sides in
    let first = c.self.invariant.2 in
    let second = c.self.invariant.3 in
    let third = c.self.invariant.4 in
    let room = c.add.ensures.room in
    let kept = c.renew.ensures.room in
    let spare = ap (λ (w : Wards). w.spare) c.self.view_is in
    let some = c.requires.spare in
    (c.add.ensures.are, c.renew.ensures.sound, omega (arith, long, first, room, spare, some), omega (arith, long, second, kept, spare, some), omega (arith, long, third, spare, some))
