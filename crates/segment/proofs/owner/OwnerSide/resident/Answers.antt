-- Which word the step found.
use Rattle.std.proofs.Common.{refl, ap}
use Rattle.segment_rule.specs.Seats.{Seated}
use Rattle.segment_rule.specs.declared.view.OwnerView.{OwnerView}
use Rattle.segment.proofs.Finding.{seat_seen, gone_seen, idle_seen, look_finds_gone, look_finds_there}
use Rattle.segment.proofs.owner.OwnerSide.resident.Goals as goal

pub returns-then-not-there-clause-found : goal.returns-then-not-there-clause-found
returns-then-not-there-clause-found c =
    let is = ap (λ (s : Seated OwnerView). s.known) c.if-not-there.ensures.told in
    rw (← c.self.view_is) (look_finds_gone c.self.inside.phase _ _ _ c.self.inside.seat.known c.look-there.new.self.known c.if-not-there.true c.in-Idle.is refl (seat_seen _ _ _ _ _ _ c.self.invariant) (gone_seen _ _ _ _ _ _ _ c.self.invariant is) c.look-there.ensures.made is)

pub returns-else-not-there-clause-found : goal.returns-else-not-there-clause-found
returns-else-not-there-clause-found c =
    let is = ap (λ (s : Seated OwnerView). s.known) c.if-not-there.ensures.told in
    rw (← c.self.view_is) (look_finds_there c.self.inside.phase _ _ _ c.self.inside.seat.known c.look-there.new.self.known c.if-not-there.false c.in-Idle.is refl (seat_seen _ _ _ _ _ _ c.self.invariant) (idle_seen _ _ _ _ _ _ _ c.self.invariant is) c.look-there.ensures.made is)
