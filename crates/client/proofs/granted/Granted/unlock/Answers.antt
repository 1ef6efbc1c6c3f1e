use Rattle.client.proofs.Debts.{debt_unlocked}
use Rattle.client.proofs.GivingBack.{balanced_on}
use Rattle.client.proofs.granted.Granted.unlock.Goals as goal

pub invariant_of-self : goal.invariant_of-self
invariant_of-self g c = (balanced_on _ _ _ _ _ _ _ _ c.self.invariant.0 (debt_unlocked c.args.piece.now.run c.args.now c.unlock.result _ _ c.unlock.ensures.unlocks), c.self.invariant.1)
