use Rattle.std.proofs.Common.{◌≡◌}
use Rattle.segment.specs.declared.owner.Phase.TheVariants.{Held}
use Rattle.segment.proofs.tests.own.Given as goal

abbrev pub invariant-loop-round : goal.invariant-loop-round
invariant-loop-round l = l.side.phase ≡ Held
