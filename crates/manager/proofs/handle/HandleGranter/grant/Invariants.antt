use Rattle.std.proofs.Common.{◌≡◌}
use Rattle.manager.specs.Brought.{IsBrought}
use Rattle.manager.proofs.handle.HandleGranter.grant.Given as goal

abbrev pub invariant-loop : goal.invariant-loop
invariant-loop g l =
    (goal.iterator-loop g).can_next l.iterator' × (goal.iterator-loop g).is_finite l.iterator' × (l.self ≡ l.fn.self) × IsBrought l.pages l.block
