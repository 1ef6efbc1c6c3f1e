use Rattle.client.proofs.Debts.{debt_lock}
use Rattle.client.proofs.GivingBack.{balanced_on}
use Rattle.client.proofs.granted.Granted.lock.Goals as goal

pub invariant_of-self : goal.invariant_of-self
invariant_of-self g c = (balanced_on _ _ _ _ _ _ _ _ c.self.invariant.0 (debt_lock c.args.piece.now c.lock.result _ _ c.lock.ensures.locks), c.self.invariant.1)
