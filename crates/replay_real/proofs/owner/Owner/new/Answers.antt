use Rattle.replay_real.proofs.OwnerSteps.{shows_new}
use Rattle.replay_real.proofs.owner.Owner.new.Goals as goal

pub returns : goal.returns
returns c = λ h s client w. shows_new h s client c.args.side c.in_ok-locks.locks w c.requires.granted c.requires.fresh (rw c.pages.ensures.value at c.in_ok-locks.ensures)
