use Rattle.std.proofs.Common.{◌≡◌}
use Rattle.segment.specs.declared.owner.Phase.TheVariants.{Gone}
use Rattle.segment.proofs.tests.stays_gone.Given as goal

abbrev pub invariant-loop : goal.invariant-loop
invariant-loop l = l.side.phase ≡ Gone
