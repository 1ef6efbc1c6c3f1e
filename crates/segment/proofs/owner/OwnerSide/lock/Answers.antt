-- Which word the step found.
use Rattle.std.proofs.Common.{ap}
use Rattle.segment_rule.specs.Seats.{Seated}
use Rattle.segment_rule.specs.declared.view.OwnerView.{OwnerView}
use Rattle.segment.proofs.Finding.{seat_seen, held_seen, gone_seen, finds_held, finds_gone}
use Rattle.segment.proofs.owner.OwnerSide.lock.Goals as goal

pub returns-then-lock-clause-found : goal.returns-then-lock-clause-found
returns-then-lock-clause-found c =
    let is = ap (λ (s : Seated OwnerView). s.known) c.if-lock.ensures.told.1 in
    rw (← c.self.view_is) (finds_held c.self.inside.phase _ _ c.self.inside.seat.known c.lock.new.self.known (seat_seen _ _ _ _ _ _ c.self.invariant) (held_seen _ _ _ _ _ _ _ c.self.invariant is) c.lock.ensures.made is)

pub returns-else-lock-clause-found : goal.returns-else-lock-clause-found
returns-else-lock-clause-found c =
    let is = ap (λ (s : Seated OwnerView). s.known) c.if-lock.ensures.told.1 in
    rw (← c.self.view_is) (finds_gone c.self.inside.phase _ _ c.self.inside.seat.known c.lock.new.self.known (seat_seen _ _ _ _ _ _ c.self.invariant) (gone_seen _ _ _ _ _ _ _ c.self.invariant is) c.lock.ensures.made is)
