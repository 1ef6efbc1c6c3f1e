use Rattle.client.proofs.Writing.{debt_written}
use Rattle.client.proofs.GivingBack.{balanced_on}
use Rattle.client.proofs.granted.Granted.bytes_mut.Goals as goal

pub invariant_of-self-lent : goal.invariant_of-self-lent
invariant_of-self-lent g c = λ w. (balanced_on _ _ _ _ _ _ _ _ c.self.invariant.0 (debt_written _ c.args.piece.now.run w), c.self.invariant.1)
