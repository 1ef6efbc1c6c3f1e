use Rattle.std.proofs.Common.{refl}
use Rattle.client.proofs.GivingBack.{balanced_start}
use Rattle.client.proofs.granted.Granted.new.Goals as goal

pub invariant_of-result : goal.invariant_of-result
invariant_of-result g c = rw c.of.ensures (balanced_start _ _ _ c.args.client c.requires.leases c.requires.gone c.number-number.ensures.told, refl)
