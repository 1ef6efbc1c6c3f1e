use Rattle.client.proofs.Debts.{debt_free}
use Rattle.client.proofs.GivingBack.{balanced_on}
use Rattle.client.proofs.granted.Granted.free.Goals as goal

pub invariant_of-self : goal.invariant_of-self
invariant_of-self g c = (balanced_on _ _ _ _ _ _ _ _ c.self.invariant.0 (debt_free c.free.result c.args.piece c.args.now _ _ c.free.ensures.frees), c.self.invariant.1)
