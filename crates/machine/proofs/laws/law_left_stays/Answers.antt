use Rattle.machine.proofs.Later.{left_stays}
use Rattle.machine.proofs.laws.law_left_stays.Goals as goal

pub returns : goal.returns
returns c = left_stays
