use Rattle.std.proofs.Common.{arith}
use Rattle.replay_real.proofs.OwnerSteps.{bytes_locked}
use Rattle.replay_real.proofs.owner.holds.Goals as goal

pub returns-clause-told : goal.returns-clause-told
returns-clause-told c = λ h s told. bytes_locked h s c.args.place c.args.count _ _ c.args.locks.now c.is_locked.result told c.requires.some (omega arith) (omega arith) c.is_locked.ensures
