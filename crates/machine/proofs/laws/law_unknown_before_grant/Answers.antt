use Rattle.machine.proofs.Sound.{sound}
use Rattle.machine.proofs.laws.law_unknown_before_grant.Goals as goal

pub returns : goal.returns
returns c = λ events s. (sound events s).unknown
